-- The rows of one user.
use Rattle.std.proofs.Common.{◌≡◌, ℕ, zero, suc, ◌==◌, Bool, true, false, not, ◌||◌, cond, List, [], ◌∷◌, Some, filter, bytes_eq, slice_get, refl, ap, sym, ◌∙◌}
use Rattle.std.specs.List.{list_any}
use Rattle.ch_history.specs.declared.rows.UserSocket.{UserSocket}
use Rattle.ch_history.specs.OpenRows.{is_empty}
use Rattle.ch_history.specs.SignIns.{user_socket, of_user, has_any}
use Rattle.ch_history.proofs.Lists.{filter-swap}
use Rattle.ch_history.proofs.Texts.{same_text}
use Rattle.ch_watch.specs.Watches.{without}

-- there is one that passes exactly where those that pass are some
pub any_filter : (p : UserSocket → Bool) (xs : List UserSocket) → list_any p xs ≡ not (is_empty (filter p xs))
any_filter p [] = refl
any_filter p (x ∷ xs) =
    elim (p x) as (λ b. (b || list_any p xs) ≡ not (is_empty (cond b (x ∷ filter p xs) (filter p xs)))) [
      | true ↦ refl
      | false ↦ any_filter p xs
    ]

-- whether the user has a row of another socket
pub has_any-without : (xs : List UserSocket) (socket : ℕ) (user : List ℕ) → list_any (λ r. not (r.socket == socket)) (of_user xs user) ≡ has_any (without xs socket) user
has_any-without xs socket user =
    let others : UserSocket → Bool = λ r. not (r.socket == socket) in
    any_filter others (of_user xs user)
    ∙ ap (λ ys. not (is_empty ys)) (filter-swap others (λ r. bytes_eq r.user user) xs)

its_user : (xs : List UserSocket) (user : List ℕ) (i : ℕ) (r : UserSocket) → slice_get (of_user xs user) i ≡ Some r → r.user ≡ user
its_user [] user i r is = cc
its_user (x ∷ xs) user i r is =
    (elim (bytes_eq x.user user) as (λ b. bytes_eq x.user user ≡ b → slice_get (cond b (x ∷ of_user xs user) (of_user xs user)) i ≡ Some r → r.user ≡ user) [
      | true ↦ (λ own is. (elim i as (λ k. slice_get (x ∷ of_user xs user) k ≡ Some r → r.user ≡ user) [
        | zero ↦ (λ is. let same : x ≡ r = cc in ap (λ y. y.user) (sym same) ∙ same_text x.user user own)
        | suc k ↦ (λ is. its_user xs user k r is)
      ]) is)
      | false ↦ (λ other is. its_user xs user i r is)
    ]) refl is

-- a row of the user is told by its socket and its owner
pub of_user-at : (xs : List UserSocket) (user : List ℕ) (i : ℕ) (r : UserSocket) → slice_get (of_user xs user) i ≡ Some r → slice_get (of_user xs user) i ≡ Some (user_socket r.owner r.socket user)
of_user-at xs user i r is = is ∙ ap (λ u. Some (user_socket r.owner r.socket u)) (its_user xs user i r is)
