-- Each loss is made once.
use Rattle.std.proofs.Common.{◌≡◌, ℕ, zero, suc, ◌+◌, ◌-◌, ◌<◌, ◌≤◌, ◌⊎◌, Bool, true, false, cond, eqb, List, [], ◌∷◌, ◌++◌, take, drop, map, filter, length, length-append, ap, sym, subst, refl, ◌∙◌, inl, inr, arith}
use Rattle.std.specs.Prelude.{nat_lt}
use Rattle.std.proofs.lemmas.Bool.{eqb-true, cases_lt, cond-true, cond-false, lt-ltb, le-ltb}
use Rattle.std.proofs.lemmas.List.{take-append-drop}
use Rattle.std.proofs.lemmas.List.Elements.{filter-append}
use Rattle.ch_base.specs.declared.channel.ChanCall.{ChanCall}
use Rattle.ch_base.specs.declared.channel.ChanCall.TheVariants as chan
use Rattle.ch_base.specs.declared.user.UserCall.{UserCall}
use Rattle.ch_base.specs.declared.user.UserCall.TheVariants as user
use Rattle.ch_desk.specs.OwnEntries.{entries_on_chan, entries_on_user, entry_on_chan, entry_on_user}
use Rattle.ch_protocol.specs.Asks.{Asked, asks_of}
use Rattle.ch_protocol.specs.Settling.{is_on_chan, is_on_user}
use Rattle.ch_protocol.specs.declared.ask.Ask.{Ask}
use Rattle.ch_protocol.specs.declared.ask.Ask.TheVariants.{Chan, User}
use Rattle.ch_protocol.specs.declared.ask.Made.{Made}
use Rattle.ch_protocol.specs.declared.ask.Made.TheVariants as made
use Rattle.ch_session.specs.Kept.{losses_left}
use Rattle.ch_session.specs.Losses.{losses_from, loss_at}
use Rattle.ch_session.specs.Told.{uses_place}
use Rattle.ch_live.specs.LossLaws.{LossesAreOnce}
use Rattle.ch_live.specs.LossRuns.{at_moment, losses_in}
use Rattle.ch_live.proofs.LossRuns.{losses_go_on}

-- ---- how many pass a test

pub decide : (b : Bool) → (b ≡ true) ⊎ (b ≡ false)
decide true = inl refl
decide false = inr refl

module _ {A : Type 0} where
  len_cond : (b : Bool) (x : A) (xs : List A) → length (cond b (x ∷ xs) xs) ≡ cond b 1 0 + length xs
  len_cond true x xs = omega arith
  len_cond false x xs = omega arith

module _ {A : Type 0} (p : A → Bool) where
  len_map : (f : A → A) → ((x : A) → p (f x) ≡ p x) → (xs : List A) → length (filter p (map f xs)) ≡ length (filter p xs)
  len_map f same [] = refl
  len_map f same (x ∷ xs) =
      len_cond (p (f x)) (f x) (filter p (map f xs))
      ∙ ap (λ b. cond b 1 0 + length (filter p (map f xs))) (same x)
      ∙ ap (λ n. cond (p x) 1 0 + n) (len_map f same xs)
      ∙ sym (len_cond (p x) x (filter p xs))

  len_take : (n : ℕ) (xs : List A) → length (filter p (take n xs)) ≤ length (filter p xs)
  len_take n xs =
      let whole : length (filter p xs) ≡ length (filter p (take n xs)) + length (filter p (drop n xs)) =
      ap (λ z. length (filter p z)) (sym (take-append-drop n xs)) ∙ ap length (filter-append p (take n xs) (drop n xs))
      ∙ length-append (filter p (take n xs)) (filter p (drop n xs)) in
      omega (arith, whole)

  none_step : (b : Bool) (x : A) (xs : List A) → (p x ≡ true → ⊥) → length (filter p xs) ≡ 0 → length (filter p (cond b (x ∷ xs) xs)) ≡ 0
  none_step false x xs never none = none
  none_step true x xs never none = elim (decide (p x)) [
    | inl passes ↦ absurd (never passes)
    | inr fails ↦ ap length (cond-false (p x) (x ∷ filter p xs) (filter p xs) fails) ∙ none
  ]

  once_step : (b : Bool) (x : A) (xs : List A) → (p x ≡ true → length (filter p xs) ≡ 0) → length (filter p xs) ≤ 1
      → length (filter p (cond b (x ∷ xs) xs)) ≤ 1
  once_step false x xs past few = few
  once_step true x xs past few = elim (decide (p x)) [
    | inl passes ↦ let none = past passes in
        let size : length (filter p (x ∷ xs)) ≡ 1 + length (filter p xs) = ap length (cond-true (p x) (x ∷ filter p xs) (filter p xs) passes) ∙ omega arith in
        omega (arith, size, none)
    | inr fails ↦ subst (λ z. length z ≤ 1) (sym (cond-false (p x) (x ∷ filter p xs) (filter p xs) fails)) few
  ]

-- of the losses on the shards that are used, one at most passes a test that only one place passes
module _ (p : Ask → Bool) (uses : ℕ → Bool) (loss : ℕ → Ask) (here : ℕ) (only : (place : ℕ) → p (loss place) ≡ true → place ≡ here) where
  none_past : (left from : ℕ) → here < from → length (filter p (losses_from uses loss left from)) ≡ 0
  none_past zero from past = refl
  none_past (suc left) from past =
      none_step p (uses from) (loss from) (losses_from uses loss left (from + 1))
      (λ passes. let same = only from passes in absurd (omega (arith, past, same))) (none_past left (from + 1) (omega (arith, past)))

  one_at_most : (left from : ℕ) → length (filter p (losses_from uses loss left from)) ≤ 1
  one_at_most zero from = omega arith
  one_at_most (suc left) from =
      once_step p (uses from) (loss from) (losses_from uses loss left (from + 1))
      (λ passes. let same = only from passes in none_past left (from + 1) (omega (arith, same))) (one_at_most left (from + 1))

-- ---- the shard of a loss

chan_kept : (at shard : ℕ) (call : ChanCall) → (same : ChanCall) × (at_moment at (Chan shard call) ≡ Chan shard same)
chan_kept at shard (chan.Join a b c d) = (chan.Join a b c d, refl)
chan_kept at shard (chan.Leave a b c) = (chan.Leave a b c, refl)
chan_kept at shard (chan.Lost a b) = (chan.Lost a at, refl)
chan_kept at shard (chan.Publish a b c d e) = (chan.Publish a b c d e, refl)
chan_kept at shard (chan.Say a b c d e) = (chan.Say a b c d e, refl)
chan_kept at shard chan.Take = (chan.Take, refl)
chan_kept at shard (chan.TakeHooks a) = (chan.TakeHooks a, refl)
chan_kept at shard (chan.Names a) = (chan.Names a, refl)
chan_kept at shard (chan.Look a b) = (chan.Look a b, refl)
chan_kept at shard (chan.Users a) = (chan.Users a, refl)

user_kept : (at shard : ℕ) (call : UserCall) → (same : UserCall) × (at_moment at (User shard call) ≡ User shard same)
user_kept at shard (user.SignIn a b c) = (user.SignIn a b c, refl)
user_kept at shard (user.Watch a b c) = (user.Watch a b c, refl)
user_kept at shard (user.Lost a b) = (user.Lost a at, refl)
user_kept at shard (user.Terminate a b) = (user.Terminate a b, refl)
user_kept at shard (user.SendTo a b c d) = (user.SendTo a b c d, refl)
user_kept at shard user.Take = (user.Take, refl)

same_chan : (k at : ℕ) (ask : Ask) → is_on_chan k (at_moment at ask) ≡ is_on_chan k ask
same_chan k at (Chan shard call) = ap (is_on_chan k) (chan_kept at shard call).1
same_chan k at (User shard call) = ap (is_on_chan k) (user_kept at shard call).1

same_user : (k at : ℕ) (ask : Ask) → is_on_user k (at_moment at ask) ≡ is_on_user k ask
same_user k at (Chan shard call) = ap (is_on_user k) (chan_kept at shard call).1
same_user k at (User shard call) = ap (is_on_user k) (user_kept at shard call).1

only_chan : (k chans socket now place : ℕ) → is_on_chan k (loss_at chans socket now place) ≡ true → place ≡ k
only_chan k chans socket now place on = elim (cases_lt place chans) [
  | inl low ↦ eqb-true place k (sym (ap (is_on_chan k) (cond-true (nat_lt place chans) (Chan place (chan.Lost socket now)) (User (place - chans) (user.Lost socket now)) (lt-ltb place chans low))) ∙ on)
  | inr high ↦ let off : false ≡ true =
      sym (ap (is_on_chan k) (cond-false (nat_lt place chans) (Chan place (chan.Lost socket now)) (User (place - chans) (user.Lost socket now)) (le-ltb place chans high))) ∙ on in cc
]

only_user : (k chans socket now place : ℕ) → is_on_user k (loss_at chans socket now place) ≡ true → place ≡ chans + k
only_user k chans socket now place on = elim (cases_lt place chans) [
  | inl low ↦ let off : false ≡ true =
      sym (ap (is_on_user k) (cond-true (nat_lt place chans) (Chan place (chan.Lost socket now)) (User (place - chans) (user.Lost socket now)) (lt-ltb place chans low))) ∙ on in cc
  | inr high ↦ let same = eqb-true (place - chans) k (sym (ap (is_on_user k) (cond-false (nat_lt place chans) (Chan place (chan.Lost socket now)) (User (place - chans) (user.Lost socket now)) (le-ltb place chans high))) ∙ on) in omega (arith, high, same)
]

-- ---- the entries

module _ {A B : Type 0} where
  as_few : (b : Bool) (x : A) (y : B) → length (cond b (x ∷ []) []) ≤ length (cond b (y ∷ []) [])
  as_few true x y = omega arith
  as_few false x y = omega arith

chan_entry_few : (caller k : ℕ) (ask : Ask) (came : Made) → length (entry_on_chan caller k ask came) ≤ length (filter (is_on_chan k) (ask ∷ []))
chan_entry_few caller k (Chan shard call) (made.Chan answer) = as_few (eqb shard k) _ _
chan_entry_few caller k (Chan shard call) (made.User answer) = omega arith
chan_entry_few caller k (Chan shard call) made.Memory = omega arith
chan_entry_few caller k (User shard call) (made.Chan answer) = omega arith
chan_entry_few caller k (User shard call) (made.User answer) = omega arith
chan_entry_few caller k (User shard call) made.Memory = omega arith

user_entry_few : (caller k : ℕ) (ask : Ask) (came : Made) → length (entry_on_user caller k ask came) ≤ length (filter (is_on_user k) (ask ∷ []))
user_entry_few caller k (User shard call) (made.User answer) = as_few (eqb shard k) _ _
user_entry_few caller k (User shard call) (made.Chan answer) = omega arith
user_entry_few caller k (User shard call) made.Memory = omega arith
user_entry_few caller k (Chan shard call) (made.Chan answer) = omega arith
user_entry_few caller k (Chan shard call) (made.User answer) = omega arith
user_entry_few caller k (Chan shard call) made.Memory = omega arith

more_few : {E : Type 0} (p : Ask → Bool) (ask : Ask) (asks : List Ask) (es rest : List E) → length es ≤ length (filter p (ask ∷ []))
    → length rest ≤ length (filter p asks) → length (es ++ rest) ≤ length (filter p (ask ∷ asks))
more_few p ask asks es rest one others =
    let both : length (filter p (ask ∷ asks)) ≡ length (filter p (ask ∷ [])) + length (filter p asks) =
    ap length (filter-append p (ask ∷ []) asks) ∙ length-append (filter p (ask ∷ [])) (filter p asks) in
    let size : length (es ++ rest) ≡ length es + length rest = length-append es rest in
    omega (arith, one, others, both, size)

chan_entries_few : (caller k : ℕ) (xs : List Asked) → length (entries_on_chan caller k xs) ≤ length (filter (is_on_chan k) (asks_of xs))
chan_entries_few caller k [] = omega arith
chan_entries_few caller k (x ∷ xs) =
    more_few (is_on_chan k) x.ask (asks_of xs) (entry_on_chan caller k x.ask x.came) (entries_on_chan caller k xs)
    (chan_entry_few caller k x.ask x.came) (chan_entries_few caller k xs)

user_entries_few : (caller k : ℕ) (xs : List Asked) → length (entries_on_user caller k xs) ≤ length (filter (is_on_user k) (asks_of xs))
user_entries_few caller k [] = omega arith
user_entries_few caller k (x ∷ xs) =
    more_few (is_on_user k) x.ask (asks_of xs) (entry_on_user caller k x.ask x.came) (entries_on_user caller k xs)
    (user_entry_few caller k x.ask x.came) (user_entries_few caller k xs)

-- ---- all calls

pub losses_are_once : LossesAreOnce
losses_are_once calls c peer old new start number asks is over caller k =
    let s = c.session in
    let xs = losses_in calls in
    let order = losses_go_on calls c peer old new start number asks is over 0 in
    let loss = loss_at s.chans s.number 0 in
    let uses = uses_place s.chans asks in
    let left = length s.told.used - s.lost in
    let chan_size = sym (len_map (is_on_chan k) (at_moment 0) (same_chan k 0) (asks_of xs)) ∙ ap (λ z. length (filter (is_on_chan k) z)) order in
    let chan_front = len_take (is_on_chan k) (length xs) (losses_left s asks 0) in
    let chan_one = one_at_most (is_on_chan k) uses loss k (λ place on. only_chan k s.chans s.number 0 place on) left s.lost in
    let chan_few = chan_entries_few caller k xs in
    let user_size = sym (len_map (is_on_user k) (at_moment 0) (same_user k 0) (asks_of xs)) ∙ ap (λ z. length (filter (is_on_user k) z)) order in
    let user_front = len_take (is_on_user k) (length xs) (losses_left s asks 0) in
    let user_one = one_at_most (is_on_user k) uses loss (s.chans + k) (λ place on. only_user k s.chans s.number 0 place on) left s.lost in
    let user_few = user_entries_few caller k xs in
    (omega (arith, chan_few, chan_size, chan_front, chan_one), omega (arith, user_few, user_size, user_front, user_one))
