-- What is kept for a channel once an event was put for one, and once what has ended was removed.
use Rattle.std.proofs.Common.{◌≡◌, ℕ, ◌≤◌, Bool, true, false, not, ◌&&◌, cond, List, [], ◌∷◌, ◌++◌, Option, Some, None, bytes_eq, nat_lt, filter, find, option_map, refl, ap, sym, ◌∙◌, arith}
use Rattle.std.specs.Option.{option_or}
use Rattle.std.proofs.lemmas.Bool.Decides.{nat_tests}
use Rattle.std.proofs.lemmas.List.Folds.{find-append}
use Rattle.ch_history.specs.Cache.{lasting}
use Rattle.ch_history.proofs.Lists.{both}
use Rattle.ch_history.proofs.Texts.{same_text, other_text}
use Rattle.ch_cache.specs.declared.latest_event.LatestEvent.{LatestEvent}
use Rattle.ch_cache.specs.Latest.{is_event_on, lasts, latest_in}

-- What is found in a part of the events

unless : (a b : Bool) → (a ≡ true → b ≡ true) → b ≡ false → a ≡ false
unless true b then_too is = let held : b ≡ true = then_too refl in cc
unless false b then_too is = refl

-- all that p seeks are in the part
find-within : (p q : LatestEvent → Bool) → ((e : LatestEvent) → p e ≡ true → q e ≡ true) → (es : List LatestEvent) → find p (filter q es) ≡ find p es
find-within p q within [] = refl
find-within p q within (e ∷ es) =
    (elim (q e) as (λ b. q e ≡ b → find p (cond b (e ∷ filter q es) (filter q es)) ≡ cond (p e) (Some e) (find p es)) [
      | true ↦ (λ here. ap (cond (p e) (Some e)) (find-within p q within es))
      | false ↦ (λ left_out. find-within p q within es ∙ sym (ap (λ b. cond b (Some e) (find p es)) (unless (p e) (q e) (within e) left_out)))
    ]) refl

-- none that p seeks is in the part
find-without : (p q : LatestEvent → Bool) → ((e : LatestEvent) → q e ≡ true → p e ≡ false) → (es : List LatestEvent) → find p (filter q es) ≡ None
find-without p q without [] = refl
find-without p q without (e ∷ es) =
    (elim (q e) as (λ b. q e ≡ b → find p (cond b (e ∷ filter q es) (filter q es)) ≡ None) [
      | true ↦ (λ here. ap (λ b. cond b (Some e) (find p (filter q es))) (without e here) ∙ find-without p q without es)
      | false ↦ (λ left_out. find-without p q without es)
    ]) refl

-- A sweep

later : (now at ends : ℕ) → now ≤ at → nat_lt at ends ≡ true → nat_lt now ends ≡ true
later now at ends after lasts_on = grind (arith, nat_tests)

pub latest_in-swept : (es : List LatestEvent) (now : ℕ) (c : List ℕ) (at : ℕ) → now ≤ at → latest_in (filter (lasts now) es) c at ≡ latest_in es c at
latest_in-swept es now c at after =
    ap (option_map (λ e. e.cached)) (find-within (λ e. is_event_on c e && lasts at e) (lasts now)
    (λ e seen. later now at e.cached.ends after (both (is_event_on c e) (lasts at e) seen).1) es)

-- A put

or_none : (o : Option LatestEvent) → option_or o None ≡ o
or_none None = refl
or_none (Some e) = refl

itself : (at : ℕ) (y : LatestEvent) (b : Bool) → option_map (λ e. e.cached) (cond b (Some y) None) ≡ cond b (Some y.cached) None
itself at y true = refl
itself at y false = refl

-- an event of another channel is left where those of `channel` are removed
stays : (channel c : List ℕ) (e : LatestEvent) → bytes_eq channel c ≡ false → is_event_on c e ≡ true → not (is_event_on channel e) ≡ true
stays channel c e differs own =
    ap (λ d. not (bytes_eq d channel)) (same_text e.channel c own) ∙ ap not (other_text channel c differs)

goes : (channel c : List ℕ) (at : ℕ) (e : LatestEvent) → bytes_eq channel c ≡ true → not (is_event_on channel e) ≡ true → (is_event_on c e && lasts at e) ≡ false
goes channel c at e same other = ap (λ b. b && lasts at e) (ap (λ d. bytes_eq e.channel d) (sym (same_text channel c same)) ∙ negated (is_event_on channel e) other)
  where
    negated : (b : Bool) → not b ≡ true → b ≡ false
    negated true is = cc
    negated false is = refl

pub latest_in-put : (es : List LatestEvent) (y : LatestEvent) (channel c : List ℕ) (at : ℕ) → y.channel ≡ channel
    → latest_in (filter (λ e. not (is_event_on channel e)) es ++ y ∷ []) c at ≡ cond (bytes_eq channel c) (lasting at (Some y.cached)) (latest_in es c at)
latest_in-put es y channel c at named =
    let p : LatestEvent → Bool = λ e. is_event_on c e && lasts at e in
    let q : LatestEvent → Bool = λ e. not (is_event_on channel e) in
    ap (option_map (λ e. e.cached)) (find-append p (filter q es) (y ∷ []) ∙ ap (λ d. option_or (find p (filter q es)) (cond (bytes_eq d c && lasts at y) (Some y) None)) named)
    ∙ (elim (bytes_eq channel c) as (λ b. bytes_eq channel c ≡ b → option_map (λ e. e.cached) (option_or (find p (filter q es)) (cond (b && lasts at y) (Some y) None)) ≡ cond b (lasting at (Some y.cached)) (latest_in es c at)) [
      | true ↦ (λ same. ap (λ o. option_map (λ e. e.cached) (option_or o (cond (lasts at y) (Some y) None))) (find-without p q (λ e other. goes channel c at e same other) es) ∙ itself at y (lasts at y))
      | false ↦ (λ differs. ap (option_map (λ e. e.cached)) (or_none (find p (filter q es)) ∙ find-within p q (λ e seen. stays channel c e differs (both (is_event_on c e) (lasts at e) seen).0) es))
    ]) refl
