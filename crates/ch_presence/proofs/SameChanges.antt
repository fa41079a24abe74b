-- How the open subscriptions' rows change.
use Rattle.std.proofs.Common.{◌≡◌, ℕ, ◌==◌, Bool, true, false, not, ◌&&◌, cond, List, [], ◌∷◌, ◌++◌, Option, Some, None, filter, option_map, bytes_eq, refl, ap, sym, ◌∙◌, append-nil}
use Rattle.std.specs.List.{cons_option}
use Rattle.std.proofs.lemmas.List.Elements.{filter_map-append}
use Rattle.ch_base.specs.declared.channel.Member.{Member}
use Rattle.ch_history.specs.declared.rows.Subscription.{Subscription}
use Rattle.ch_presence.specs.declared.present.Present.{Present}
use Rattle.ch_presence.specs.Members.{present, with_newcomer}
use Rattle.ch_presence.specs.Subscribed.{row_of, rows_of, ChangesLaw}

-- a filter that looks at the channel and the socket alone
filter-rows_of : (p : List ℕ → ℕ → Bool) (xs : List Subscription) → rows_of (filter (λ s. p s.channel s.socket) xs) ≡ filter (λ r. p r.channel r.socket) (rows_of xs)
filter-rows_of p [] = refl
filter-rows_of p (s ∷ xs) =
    let rest = filter-rows_of p xs in
    let row : Member → Present = λ m. present s.channel s.socket m in
    (elim (p s.channel s.socket) as (λ b. p s.channel s.socket ≡ b → rows_of (cond b (s ∷ filter (λ s. p s.channel s.socket) xs) (filter (λ s. p s.channel s.socket) xs)) ≡ filter (λ r. p r.channel r.socket) (cons_option (option_map row s.member) (rows_of xs))) [
      | true ↦ (λ stays. elim s.member as (λ o. cons_option (option_map row o) (rows_of (filter (λ s. p s.channel s.socket) xs)) ≡ filter (λ r. p r.channel r.socket) (cons_option (option_map row o) (rows_of xs))) [
        | None ↦ rest
        | Some m ↦ ap (λ rs. row m ∷ rs) rest ∙ sym (ap (λ b. cond b (row m ∷ filter (λ r. p r.channel r.socket) (rows_of xs)) (filter (λ r. p r.channel r.socket) (rows_of xs))) stays)
      ])
      | false ↦ (λ ends. elim s.member as (λ o. rows_of (filter (λ s. p s.channel s.socket) xs) ≡ filter (λ r. p r.channel r.socket) (cons_option (option_map row o) (rows_of xs))) [
        | None ↦ rest
        | Some m ↦ rest ∙ sym (ap (λ b. cond b (row m ∷ filter (λ r. p r.channel r.socket) (rows_of xs)) (filter (λ r. p r.channel r.socket) (rows_of xs))) ends)
      ])
    ]) refl

with-append : (rows : List Present) (o : Option Present) → rows ++ cons_option o [] ≡ with_newcomer rows o
with-append rows None = append-nil rows
with-append rows (Some r) = refl

pub same_changes : ChangesLaw
same_changes xs = record {
  join = λ s. filter_map-append row_of xs (s ∷ []) ∙ with-append (rows_of xs) (row_of s);
  leave = λ c socket. filter-rows_of (λ channel s. not ((s == socket) && bytes_eq channel c)) xs;
  lost = λ socket. filter-rows_of (λ channel s. not (s == socket)) xs;
}
