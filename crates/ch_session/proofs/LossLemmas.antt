-- The losses by the least place that is used.
use Rattle.std.proofs.Common.{◌≡◌, ℕ, zero, suc, ◌+◌, ◌-◌, ◌<◌, ◌≤◌, Bool, true, false, List, [], ◌∷◌, length, refl, sym, ap, subst, ◌∙◌, inl, inr, arith}
use Rattle.std.specs.Prelude.{Some, None, nat_lt}
use Rattle.std.proofs.lemmas.Bool.{cond-true, cond-false, cases_eq, cases_lt, lt-ltb, le-ltb, false≢true}
use Rattle.ch_config.specs.declared.config.Config.{Config}
use Rattle.ch_history.specs.Limits.{IsSocket, IsMoment}
use Rattle.ch_protocol.specs.declared.ask.Ask.{Ask}
use Rattle.ch_protocol.specs.Settling.{SettledAsk}
use Rattle.ch_session.specs.Judging.{IsSoundAsk}
use Rattle.ch_session.specs.Kept.{Kept, HasShardsOf, IsSession, losses_left}
use Rattle.ch_session.specs.Losses.{IsNextUsed, losses_from, loss_at}
use Rattle.ch_session.specs.Told.{uses_place}

module _ (uses : ℕ → Bool) (loss : ℕ → Ask) where
  pub losses_none : (left from : ℕ) → ((k : ℕ) → from ≤ k → k < from + left → uses k ≡ false) → losses_from uses loss left from ≡ []
  losses_none zero from none = refl
  losses_none (suc left) from none =
      cond-false _ _ _ (none from (omega arith) (omega arith))
      ∙ losses_none left (from + 1) (λ k low high. none k (omega (arith, low)) (omega (arith, high)))

  pub losses_some : (left from place : ℕ) → from ≤ place → place < from + left → uses place ≡ true
      → ((k : ℕ) → from ≤ k → k < place → uses k ≡ false)
      → losses_from uses loss left from ≡ loss place ∷ losses_from uses loss (from + left - (place + 1)) (place + 1)
  losses_some zero from place low high used before = absurd (omega (arith, low, high))
  losses_some (suc left) from place low high used before =
      elim (cases_eq place from) [
        | inl same ↦
            let count : left ≡ from + suc left - (place + 1) = omega (arith, same) in
            let here : uses from ≡ true = ap uses (sym same) ∙ used in
            cond-true _ _ _ here ∙ (λ i. loss (sym same i) ∷ losses_from uses loss (count i) (sym same i + 1))
        | inr other ↦
            let count : from + 1 + left - (place + 1) ≡ from + suc left - (place + 1) = omega arith in
            cond-false _ _ _ (before from (omega arith) (omega (arith, low, other)))
            ∙ losses_some left (from + 1) place (omega (arith, low, other)) (omega (arith, high)) used (λ k l h. before k (omega (arith, l)) h)
            ∙ ap (λ n. loss place ∷ losses_from uses loss n (place + 1)) count
      ]

-- nothing is left where no place is used from the session's place on
pub left_none : (s : Kept) (start number : ℕ) (asks : List SettledAsk) (now : ℕ) → IsSession s start number asks
    → IsNextUsed s.told.used s.lost None → losses_left s asks now ≡ []
left_none s start number asks now stands none =
    losses_none (uses_place s.chans asks) (loss_at s.chans s.number now) (length s.told.used - s.lost) s.lost
    (λ k low high. let below : k < length s.told.used = omega (arith, low, high) in sym (stands.tells.used k below) ∙ none k low below)

-- else the loss at the least such place is the first
pub left_some : (s : Kept) (start number : ℕ) (asks : List SettledAsk) (now place : ℕ) → IsSession s start number asks
    → IsNextUsed s.told.used s.lost (Some place)
    → losses_left s asks now ≡ loss_at s.chans s.number now place ∷ losses_left (record s { lost = place + 1 }) asks now
left_some s start number asks now place stands next =
    let count : s.lost + (length s.told.used - s.lost) - (place + 1) ≡ length s.told.used - (place + 1) = omega (arith, next.0, next.1) in
    losses_some (uses_place s.chans asks) (loss_at s.chans s.number now) (length s.told.used - s.lost) s.lost place next.0
    (omega (arith, next.0, next.1)) (sym (stands.tells.used place next.1) ∙ next.2)
    (λ k low high. let below : k < length s.told.used = omega (arith, high, next.1) in sym (stands.tells.used k below) ∙ next.3 k low high)
    ∙ ap (λ n. loss_at s.chans s.number now place ∷ losses_from (uses_place s.chans asks) (loss_at s.chans s.number now) n (place + 1)) count

-- there is one least place that is used
pub next_once : (used : List Bool) (from a b : ℕ) → IsNextUsed used from (Some a) → IsNextUsed used from (Some b) → a ≡ b
next_once used from a b x y =
    elim (cases_lt a b) [
      | inl below ↦ absurd (false≢true (sym (y.3 a x.0 below) ∙ x.2))
      | inr above ↦ elim (cases_lt b a) [
        | inl below ↦ absurd (false≢true (sym (x.3 b y.0 below) ∙ y.2))
        | inr same ↦ omega (arith, above, same)
      ]
    ]

pub next_some : (used : List Bool) (from place : ℕ) → IsNextUsed used from None → IsNextUsed used from (Some place) → ⊥
next_some used from place none next = false≢true (sym (none place next.0 next.1) ∙ next.2)

-- a loss is well formed, and its shard is there
pub loss_sound : (s : Kept) (config : Config) (now place : ℕ) → IsSocket s.number → IsMoment now → HasShardsOf s config → place < length s.told.used
    → IsSoundAsk config (loss_at s.chans s.number now place)
loss_sound s config now place socket moment over within = elim (cases_lt place s.chans) [
  | inl low ↦ subst (λ a. IsSoundAsk config a) (sym (cond-true (nat_lt place s.chans) _ _ (lt-ltb place s.chans low)))
      ((socket, moment), omega (arith, low, over.chans), tt)
  | inr high ↦ subst (λ a. IsSoundAsk config a) (sym (cond-false (nat_lt place s.chans) _ _ (le-ltb place s.chans high)))
      ((socket, moment), omega (arith, high, within, over.chans, over.shards), tt)
]
