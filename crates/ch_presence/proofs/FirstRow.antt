-- The first row of a user on a channel, and the rows of other sockets.
use Rattle.std.proofs.Common.{◌≡◌, ℕ, Bool, true, false, not, ◌&&◌, ◌==◌, cond, List, [], ◌∷◌, ◌++◌, Option, Some, None, find, filter, map, bytes_eq, refl, ap, sym, ◌∙◌}
use Rattle.std.specs.List.{list_any}
use Rattle.std.specs.Option.{option_or}
use Rattle.std.proofs.lemmas.List.{map-append}
use Rattle.std.proofs.lemmas.List.Elements.{filter-append}
use Rattle.std.proofs.lemmas.List.Folds.{find-append}
use Rattle.ch_base.specs.declared.channel.Member.{Member}
use Rattle.ch_history.proofs.Lists.{list_any-filter, list_any-same}
use Rattle.ch_history.proofs.Texts.{text_itself}
use Rattle.ch_presence.specs.declared.present.Present.{Present}
use Rattle.ch_presence.specs.Members.{present_on, members_on, without}
use Rattle.ch_presence.specs.Users.{with_member}

-- the members of one more row's channel
pub members_on-push : (rows : List Present) (r : Present) → members_on (rows ++ r ∷ []) r.channel ≡ members_on rows r.channel ++ r.member ∷ []
members_on-push rows r =
    ap (map (λ r. r.member)) (filter-append (λ x. bytes_eq x.channel r.channel) rows (r ∷ []))
    ∙ ap (λ b. map (λ r. r.member) (present_on rows r.channel ++ cond b (r ∷ []) [])) (text_itself r.channel)
    ∙ map-append (λ r. r.member) (present_on rows r.channel) (r ∷ [])

or-none : {X : Type 0} (o : Option X) → o ≡ option_or o None
or-none None = refl
or-none (Some x) = refl

-- what is found is one of the members, or else the newcomer
pub find-with_member : (p : Member → Bool) (ms : List Member) (o : Option Member) → find p (with_member ms o) ≡ option_or (find p ms) (find p (with_member [] o))
find-with_member p ms None = or-none (find p ms)
find-with_member p ms (Some m) = find-append p ms (m ∷ [])

-- a search in a part is a search for both
pub find-filter : {X : Type 0} (p q : X → Bool) (xs : List X) → find p (filter q xs) ≡ find (λ x. p x && q x) xs
find-filter p q [] = refl
find-filter p q (x ∷ xs) =
    elim (q x) as (λ b. find p (cond b (x ∷ filter q xs) (filter q xs)) ≡ cond (p x && b) (Some x) (find (λ x. p x && q x) xs)) [
      | true ↦ elim (p x) as (λ a. cond a (Some x) (find p (filter q xs)) ≡ cond (a && true) (Some x) (find (λ x. p x && q x) xs)) [ true ↦ refl | false ↦ find-filter p q xs ]
      | false ↦ elim (p x) as (λ a. find p (filter q xs) ≡ cond (a && false) (Some x) (find (λ x. p x && q x) xs)) [ true ↦ find-filter p q xs | false ↦ find-filter p q xs ]
    ]

-- whether the row is on the channel c with another socket than this one
abbrev is_other : List ℕ → ℕ → Present → Bool
is_other c socket r = bytes_eq r.channel c && not (r.socket == socket)

-- the rows of other sockets on the channel
others_on : (rows : List Present) (c : List ℕ) (socket : ℕ) → present_on (without rows c socket) c ≡ filter (is_other c socket) rows
others_on [] c socket = refl
others_on (r ∷ rows) c socket =
    let rest = others_on rows c socket in
    (elim (bytes_eq r.channel c) as (λ b. bytes_eq r.channel c ≡ b → present_on (cond (not ((r.socket == socket) && b)) (r ∷ without rows c socket) (without rows c socket)) c ≡ cond (b && not (r.socket == socket)) (r ∷ filter (is_other c socket) rows) (filter (is_other c socket) rows)) [
      | true ↦ (λ here. elim (r.socket == socket) as (λ a. present_on (cond (not (a && true)) (r ∷ without rows c socket) (without rows c socket)) c ≡ cond (not a) (r ∷ filter (is_other c socket) rows) (filter (is_other c socket) rows)) [
        | true ↦ rest
        | false ↦ ap (λ b. cond b (r ∷ present_on (without rows c socket) c) (present_on (without rows c socket) c)) here ∙ ap (λ rs. r ∷ rs) rest
      ])
      | false ↦ (λ elsewhere. elim (r.socket == socket) as (λ a. present_on (cond (not (a && false)) (r ∷ without rows c socket) (without rows c socket)) c ≡ filter (is_other c socket) rows) [
        | true ↦ ap (λ b. cond b (r ∷ present_on (without rows c socket) c) (present_on (without rows c socket) c)) elsewhere ∙ rest
        | false ↦ ap (λ b. cond b (r ∷ present_on (without rows c socket) c) (present_on (without rows c socket) c)) elsewhere ∙ rest
      ])
    ]) refl

turned : (a b d : Bool) → (a && (b && d)) ≡ ((d && a) && b)
turned true true true = refl
turned true true false = refl
turned true false true = refl
turned true false false = refl
turned false b true = refl
turned false b false = refl

-- a row of another socket with a property, by the channel's rows
pub any_other : (p : Present → Bool) (rows : List Present) (c : List ℕ) (socket : ℕ) → list_any p (present_on (without rows c socket) c) ≡ list_any (λ r. not (r.socket == socket) && p r) (present_on rows c)
any_other p rows c socket =
    ap (list_any p) (others_on rows c socket)
    ∙ list_any-filter p (is_other c socket) rows
    ∙ list_any-same (λ r. p r && is_other c socket r) (λ r. (not (r.socket == socket) && p r) && bytes_eq r.channel c) rows (λ r. turned (p r) (bytes_eq r.channel c) (not (r.socket == socket)))
    ∙ sym (list_any-filter (λ r. not (r.socket == socket) && p r) (λ r. bytes_eq r.channel c) rows)
