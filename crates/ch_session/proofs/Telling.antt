-- What the settled asks tell with one more.
use Rattle.std.proofs.Common.{◌≡◌, ℕ, ◌+◌, ◌-◌, ◌<◌, ◌==◌, Bool, true, false, cond, List, [], ◌∷◌, ◌++◌, length, get_or, slice_set, refl, sym, ap, ◌∙◌, subst, inl, inr, arith, length-set}
use Rattle.std.specs.Prelude.{◌||◌, ◌&&◌, nat_lt, Option, Some, None, filter_map, if◌then◌else◌}
use Rattle.std.specs.Option.{option_or}
use Rattle.std.proofs.lemmas.Bool.{cond-true, cond-false, cases_eq, cases_lt, eq-eqb, ne_eqb, lt-ltb, le-ltb}
use Rattle.std.proofs.lemmas.List.{get_or-set_same, get_or-set_other}
use Rattle.std.proofs.lemmas.List.Elements.{filter_map-append}
use Rattle.std.proofs.lemmas.List.Folds.{list_any-append}
use Rattle.std.proofs.lemmas.List.Sums.{fold-append}
use Rattle.ch_base.specs.declared.channel.ChanCall.{ChanCall}
use Rattle.ch_base.specs.declared.user.UserCall.{UserCall}
use Rattle.ch_rate.specs.Rate.{IsRateOf}
use Rattle.ch_protocol.specs.declared.ask.Ask.{Ask}
use Rattle.ch_protocol.specs.declared.ask.Ask.TheVariants.{Chan, User}
use Rattle.ch_protocol.specs.Settling.{SettledAsk, count_after, count, signed_in_by, user_of, accepted_by, accepted, holds, is_on_chan, is_on_user, uses_chan, uses_user}
use Rattle.ch_session.specs.Told.{Told, IsToldBy, uses_place, used_with}

-- ---- the four values

count_push : (asks : List SettledAsk) (x : SettledAsk) → count (asks ++ x ∷ []) ≡ count_after (count asks) x.answer
count_push asks x = fold-append (λ n y. count_after n y.answer) 0 asks (x ∷ [])

or_assoc : (a b c : Option (List ℕ)) → option_or a (option_or b c) ≡ option_or (option_or a b) c
or_assoc None b c = refl
or_assoc (Some x) b c = refl

pub or_none : (a : Option (List ℕ)) → option_or a None ≡ a
or_none None = refl
or_none (Some x) = refl

user_push : (asks : List SettledAsk) (x : SettledAsk) → user_of (asks ++ x ∷ []) ≡ option_or (user_of asks) (signed_in_by x)
user_push [] x = or_none (signed_in_by x)
user_push (y ∷ asks) x = ap (option_or (signed_in_by y)) (user_push asks x) ∙ or_assoc (signed_in_by y) (user_of asks) (signed_in_by x)

accepted_push : (asks : List SettledAsk) (x : SettledAsk) → accepted (asks ++ x ∷ []) ≡ accepted asks ++ filter_map accepted_by (x ∷ [])
accepted_push asks x = filter_map-append accepted_by asks (x ∷ [])

-- whether the ask is on the shard at the place
abbrev pub is_at : ℕ → Ask → ℕ → Bool
is_at chans ask k = if nat_lt k chans then is_on_chan k ask else is_on_user (k - chans) ask

or_false : (a : Bool) → (a || false) ≡ a
or_false true = refl
or_false false = refl

uses_push : (chans : ℕ) (asks : List SettledAsk) (x : SettledAsk) (k : ℕ)
    → uses_place chans (asks ++ x ∷ []) k ≡ (uses_place chans asks k || (holds x.answer && is_at chans x.ask k))
uses_push chans asks x k =
    elim (nat_lt k chans) as (λ low. (cond low (uses_chan (asks ++ x ∷ []) k) (uses_user (asks ++ x ∷ []) (k - chans))
    ≡ (cond low (uses_chan asks k) (uses_user asks (k - chans)) || (holds x.answer && cond low (is_on_chan k x.ask) (is_on_user (k - chans) x.ask))))) [
      | true ↦ list_any-append (λ y. holds y.answer && is_on_chan k y.ask) asks (x ∷ []) ∙ ap (λ b. uses_chan asks k || b) (or_false _)
      | false ↦ list_any-append (λ y. holds y.answer && is_on_user (k - chans) y.ask) asks (x ∷ []) ∙ ap (λ b. uses_user asks (k - chans) || b) (or_false _)
    ]

-- ---- places

pub at_chan : (chans shard : ℕ) (call : ChanCall) → shard < chans → (k : ℕ) → is_at chans (Chan shard call) k ≡ (shard == k)
at_chan chans shard call below k =
    elim (cases_lt k chans) [
      | inl low ↦ cond-true _ _ _ (lt-ltb k chans low)
      | inr high ↦ cond-false _ _ _ (le-ltb k chans high) ∙ sym (ne_eqb shard k (λ e. omega (arith, e, below, high)))
    ]

pub at_user : (chans shard : ℕ) (call : UserCall) (k : ℕ) → is_at chans (User shard call) k ≡ (chans + shard == k)
at_user chans shard call k =
    elim (cases_lt k chans) [
      | inl low ↦ cond-true _ _ _ (lt-ltb k chans low) ∙ sym (ne_eqb (chans + shard) k (λ e. omega (arith, e, low)))
      | inr high ↦
          cond-false _ _ _ (le-ltb k chans high)
          ∙ elim (cases_eq shard (k - chans)) [
            | inl same ↦ eq-eqb _ _ same ∙ sym (eq-eqb (chans + shard) k (omega (arith, same, high)))
            | inr other ↦ ne_eqb _ _ other ∙ sym (ne_eqb (chans + shard) k (λ e. other (omega (arith, e, high))))
          ]
    ]

or_true : (a : Bool) → (a || true) ≡ true
or_true true = refl
or_true false = refl

set_or : (used : List Bool) (place k : ℕ) → place < length used → get_or (slice_set used place true) k false ≡ (get_or used k false || (place == k))
set_or used place k there =
    elim (cases_eq place k) [
      | inl same ↦
          subst (λ j. get_or (slice_set used place true) j false ≡ (get_or used j false || (place == j))) same
          (get_or-set_same used place true false there ∙ sym (ap (λ b. get_or used place false || b) (eq-eqb place place refl) ∙ or_true _))
      | inr other ↦
          get_or-set_other used place k true false (λ e. other (sym e)) ∙ sym (ap (λ b. get_or used k false || b) (ne_eqb place k other) ∙ or_false _)
    ]

-- ---- all

-- this is what the settled asks tell with one more, which is on the shard at the place
pub tells_more : (asks : List SettledAsk) (chans : ℕ) (old new : Told) (x : SettledAsk) (place : ℕ)
    → IsToldBy asks chans old → place < length old.used → ((k : ℕ) → is_at chans x.ask k ≡ (place == k))
    → new.subscriptions ≡ count_after old.subscriptions x.answer
    → new.user ≡ option_or old.user (signed_in_by x)
    → IsRateOf new.rate (accepted asks ++ filter_map accepted_by (x ∷ []))
    → new.used ≡ used_with old.used place x.answer
    → IsToldBy (asks ++ x ∷ []) chans new
tells_more asks chans old new x place tells there at subscriptions user rate used = record {
  subscriptions = subscriptions ∙ ap (λ n. count_after n x.answer) tells.subscriptions ∙ sym (count_push asks x);
  user = user ∙ ap (λ u. option_or u (signed_in_by x)) tells.user ∙ sym (user_push asks x);
  rate = subst (IsRateOf new.rate) (sym (accepted_push asks x)) rate;
  used = λ k below. ap (λ us. get_or us k false) used
      ∙ go (holds x.answer) refl k (subst (λ us. k < length us) used below)
      ∙ sym (uses_push chans asks x k);
}
  where
    go : (held : Bool) → holds x.answer ≡ held → (k : ℕ) → k < length (used_with old.used place x.answer)
        → get_or (used_with old.used place x.answer) k false ≡ (uses_place chans asks k || (holds x.answer && is_at chans x.ask k))
    go true is k below =
        let below : k < length old.used = rw (length-set old.used place true) at (rw (cond-true _ _ _ is) at below) in
        rw (cond-true _ _ _ is, is) (set_or old.used place k there ∙ ap (λ b. b || (place == k)) (tells.used k below) ∙ ap (λ b. uses_place chans asks k || b) (sym (at k)))
    go false is k below =
        let below : k < length old.used = rw (cond-false _ _ _ is) at below in
        rw (cond-false _ _ _ is, is) (tells.used k below ∙ sym (or_false _))
