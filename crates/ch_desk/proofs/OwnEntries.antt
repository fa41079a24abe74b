-- What calls add to the lists that a caller knows.
use Rattle.std.proofs.Common.{◌≡◌, ◌≢◌, ℕ, eqb, cond, get_or, All, List, [], ◌∷◌, ◌++◌, ap, sym, subst, refl, ◌∙◌, append_assoc, append-nil, inl, inr}
use Rattle.std.specs.Prelude.{Result, Ok, Err}
use Rattle.std.proofs.lemmas.Bool.{cases_eq, eq-eqb, ne_eqb, cond-true, cond-false}
use Rattle.std.proofs.lemmas.List.Concat.{flat_map-append}
use Rattle.std.proofs.lemmas.List.Elements.{All-cons, All-head, All-nil, All-tail, filter-append}
use Rattle.ch_base.specs.Growth.{entry, own, NotBy, GrowsBy}
use Rattle.ch_base.specs.declared.channel.ChanAnswer.{ChanAnswer}
use Rattle.ch_base.specs.declared.channel.ChanCall.{ChanCall}
use Rattle.ch_base.specs.declared.entry.Entry.{Entry}
use Rattle.ch_base.specs.declared.memory.Memory.{Memory}
use Rattle.ch_base.specs.declared.user.UserAnswer.{UserAnswer}
use Rattle.ch_base.specs.declared.user.UserCall.{UserCall}
use Rattle.ch_protocol.specs.declared.ask.Ask.{Ask}
use Rattle.ch_protocol.specs.declared.ask.Ask.TheVariants.{Chan, User}
use Rattle.ch_protocol.specs.declared.ask.Made.TheVariants as made
use Rattle.ch_protocol.specs.Asks.{Asked, asks_of}
use Rattle.ch_desk.specs.OwnEntries.{AreBy, Gains, Makes, entries_by, entries_on_chan, entries_on_user, entry_on_chan, entry_on_user}
use Rattle.ch_desk.specs.Views.{DeskView, MayAsk, IsSameDesk, StaysButChan, StaysButUser}

module _ {C A : Type 0} where
  pub Gains-none : (caller : ℕ) (h k : List (Entry C A)) → k ≡ h → Gains caller [] h k
  Gains-none caller h k same = ([], same ∙ sym (append-nil h), refl)

  pub Gains-then : (caller : ℕ) (xs ys a b c : List (Entry C A)) → Gains caller xs a b → Gains caller ys b c → Gains caller (xs ++ ys) a c
  Gains-then caller xs ys a b c p q = (
    p.0 ++ q.0,
    q.1 ∙ ap (λ z. z ++ q.0) p.1 ∙ append_assoc a p.0 q.0,
    filter-append (λ (e : Entry C A). eqb e.caller caller) p.0 q.0 ∙ ap (λ z. z ++ entries_by caller q.0) p.2 ∙ ap (λ z. xs ++ z) q.2,
  )

  -- the entries of others are none of the caller's own
  none_by : (caller : ℕ) (es : List (Entry C A)) → NotBy caller es → entries_by caller es ≡ []
  none_by caller [] others = refl
  none_by caller (e ∷ es) others =
      cond-false (eqb e.caller caller) (e ∷ entries_by caller es) (entries_by caller es) (ne_eqb e.caller caller others.0) ∙ none_by caller es others.1

  own_by : {M : Type 0} (caller : ℕ) (call : C) (r : Result A M) → entries_by caller (own caller call r) ≡ own caller call r
  own_by caller call (Ok answer) = cond-true (eqb caller caller) (entry caller call answer ∷ []) [] (eq-eqb caller caller refl)
  own_by caller call (Err m) = refl

  pub Gains-by : {M : Type 0} (caller : ℕ) (call : C) (r : Result A M) (before after : List (Entry C A)) → GrowsBy caller call r before after
      → Gains caller (own caller call r) before after
  Gains-by caller call r before after grows = (
    grows.0 ++ own caller call r,
    grows.2 ∙ append_assoc before grows.0 (own caller call r),
    filter-append (λ (e : Entry C A). eqb e.caller caller) grows.0 (own caller call r)
        ∙ ap (λ z. z ++ entries_by caller (own caller call r)) (none_by caller grows.0 grows.1) ∙ own_by caller call r,
  )

  -- with one more entry of the same caller
  pub AreBy-push : (caller : ℕ) (h : List (Entry C A)) (e : Entry C A) → e.caller ≡ caller → AreBy caller h → AreBy caller (h ++ e ∷ [])
  AreBy-push caller [] e same all = (same, tt)
  AreBy-push caller (x ∷ h) e same all = (all.0, AreBy-push caller h e same all.1)

  -- the front, and what follows it
  pub AreBy-front : (caller : ℕ) (h more : List (Entry C A)) → AreBy caller (h ++ more) → AreBy caller h
  AreBy-front caller [] more all = tt
  AreBy-front caller (x ∷ h) more all = (all.0, AreBy-front caller h more all.1)

  AreBy-more : (caller : ℕ) (h more : List (Entry C A)) → AreBy caller (h ++ more) → AreBy caller more
  AreBy-more caller [] more all = all
  AreBy-more caller (x ∷ h) more all = AreBy-more caller h more all.1

  all_by : (caller : ℕ) (es : List (Entry C A)) → AreBy caller es → entries_by caller es ≡ es
  all_by caller [] all = refl
  all_by caller (e ∷ es) all =
      cond-true (eqb e.caller caller) (e ∷ entries_by caller es) (entries_by caller es) (eq-eqb e.caller caller all.0) ∙ ap (λ z. e ∷ z) (all_by caller es all.1)

  -- what a list of one caller's entries gained is the caller's own
  pub own_gain : (caller : ℕ) (own before after : List (Entry C A)) → AreBy caller after → Gains caller own before after → after ≡ before ++ own
  own_gain caller own before after all gains =
      gains.1 ∙ ap (λ z. before ++ z) (sym (all_by caller gains.0 (AreBy-more caller before gains.0 (subst (AreBy caller) gains.1 all))) ∙ gains.2)

  pub gains_front : (caller by : ℕ) (own before after : List (Entry C A)) → AreBy caller after → Gains by own before after → AreBy caller before
  gains_front caller by own before after all gains = AreBy-front caller before gains.0 (subst (AreBy caller) gains.1 all)

  -- one list of a family gains entries, and the others stay
  pub gains_at : (caller shard : ℕ) (own : List (Entry C A)) (f g : ℕ → List (Entry C A)) → Gains caller own (f shard) (g shard)
      → ((k : ℕ) → k ≢ shard → g k ≡ f k) → (k : ℕ) → Gains caller (cond (eqb shard k) own [] ++ []) (f k) (g k)
  gains_at caller shard own f g here elsewhere k = elim (cases_eq shard k) [
    | inl same ↦ subst (λ xs. Gains caller xs (f k) (g k)) (sym (append-nil (cond (eqb shard k) own []) ∙ cond-true (eqb shard k) own [] (eq-eqb shard k same)))
        (subst (λ i. Gains caller own (f i) (g i)) same here)
    | inr other ↦ subst (λ xs. Gains caller xs (f k) (g k)) (sym (append-nil (cond (eqb shard k) own []) ∙ cond-false (eqb shard k) own [] (ne_eqb shard k other)))
        (Gains-none caller (f k) (g k) (elsewhere k (λ same. other (sym same))))
  ]

  -- one list of a family gains none of the caller's own, and the others stay
  pub gains_none_at : (caller shard : ℕ) (f g : ℕ → List (Entry C A)) → Gains caller [] (f shard) (g shard)
      → ((k : ℕ) → k ≢ shard → g k ≡ f k) → (k : ℕ) → Gains caller [] (f k) (g k)
  gains_none_at caller shard f g here elsewhere k = elim (cases_eq k shard) [
    | inl same ↦ subst (λ i. Gains caller [] (f i) (g i)) (sym same) here
    | inr other ↦ Gains-none caller (f k) (g k) (elsewhere k other)
  ]

-- ---- all lists

IsSame-refl : (desk : DeskView) → IsSameDesk desk desk
IsSame-refl desk = record { house = refl; caller = refl; chan_shards = refl; user_shards = refl }

IsSame-then : (a b c : DeskView) → IsSameDesk a b → IsSameDesk b c → IsSameDesk a c
IsSame-then a b c p q = record {
  house = q.house ∙ p.house;
  caller = q.caller ∙ p.caller;
  chan_shards = q.chan_shards ∙ p.chan_shards;
  user_shards = q.user_shards ∙ p.user_shards;
}

pub Makes-none : (desk : DeskView) → Makes [] desk desk
Makes-none desk = record {
  may = All-nil (MayAsk desk);
  same = IsSame-refl desk;
  chans = λ k. Gains-none desk.caller (desk.chans k) (desk.chans k) refl;
  users = λ k. Gains-none desk.caller (desk.users k) (desk.users k) refl;
}

-- which asks may be made depends on the numbers of shards alone
MayAsk-same : (a b : DeskView) → IsSameDesk a b → (ask : Ask) → MayAsk b ask → MayAsk a ask
MayAsk-same a b same (Chan shard call) may = rw (← same.chan_shards) may
MayAsk-same a b same (User shard call) may = rw (← same.user_shards) may

both_may : (a b : DeskView) (xs ys : List Asked) → IsSameDesk a b → All (MayAsk a) (asks_of xs) → All (MayAsk b) (asks_of ys) → All (MayAsk a) (asks_of (xs ++ ys))
both_may a b [] ys same here there = λ i d inside. MayAsk-same a b same (get_or (asks_of ys) i d) (there i d inside)
both_may a b (x ∷ xs) ys same here there =
    All-cons (MayAsk a) x.ask (asks_of (xs ++ ys)) (All-head (MayAsk a) x.ask (asks_of xs) here)
    (both_may a b xs ys same (All-tail (MayAsk a) x.ask (asks_of xs) here) there)

pub Makes-then : (xs ys : List Asked) (a b c : DeskView) → Makes xs a b → Makes ys b c → Makes (xs ++ ys) a c
Makes-then xs ys a b c p q = record {
  may = both_may a b xs ys p.same p.may q.may;
  same = IsSame-then a b c p.same q.same;
  chans = λ k. subst (λ own. Gains a.caller own (a.chans k) (c.chans k)) (sym (flat_map-append (λ (x : Asked). entry_on_chan a.caller k x.ask x.came) xs ys))
      (Gains-then a.caller (entries_on_chan a.caller k xs) (entries_on_chan a.caller k ys) (a.chans k) (b.chans k) (c.chans k) (p.chans k)
      (subst (λ me. Gains me (entries_on_chan me k ys) (b.chans k) (c.chans k)) p.same.caller (q.chans k)));
  users = λ k. subst (λ own. Gains a.caller own (a.users k) (c.users k)) (sym (flat_map-append (λ (x : Asked). entry_on_user a.caller k x.ask x.came) xs ys))
      (Gains-then a.caller (entries_on_user a.caller k xs) (entries_on_user a.caller k ys) (a.users k) (b.users k) (c.users k) (p.users k)
      (subst (λ me. Gains me (entries_on_user me k ys) (b.users k) (c.users k)) p.same.caller (q.users k)));
}

-- ---- one call

pub chan_made : (old new : DeskView) (shard : ℕ) (call : ChanCall) (answer : ChanAnswer) → GrowsBy {M = Memory} old.caller call (Ok answer) (old.chans shard) (new.chans shard)
    → StaysButChan shard old new → MayAsk old (Chan shard call) → Makes (record { ask = Chan shard call; came = made.Chan answer } ∷ []) old new
chan_made old new shard call answer grows elsewhere may = record {
  may = All-cons (MayAsk old) (Chan shard call) [] may (All-nil (MayAsk old));
  same = elsewhere.same;
  chans = gains_at old.caller shard (entry old.caller call answer ∷ []) old.chans new.chans
      (Gains-by {M = Memory} old.caller call (Ok answer) (old.chans shard) (new.chans shard) grows) elsewhere.chans;
  users = λ k. Gains-none old.caller (old.users k) (new.users k) (elsewhere.users k);
}

pub chan_unmade : (old new : DeskView) (shard : ℕ) (call : ChanCall) (m : Memory) → GrowsBy {A = ChanAnswer} old.caller call (Err m) (old.chans shard) (new.chans shard)
    → StaysButChan shard old new → MayAsk old (Chan shard call) → Makes (record { ask = Chan shard call; came = made.Memory } ∷ []) old new
chan_unmade old new shard call m grows elsewhere may = record {
  may = All-cons (MayAsk old) (Chan shard call) [] may (All-nil (MayAsk old));
  same = elsewhere.same;
  chans = gains_none_at old.caller shard old.chans new.chans
      (Gains-by old.caller call (Err m) (old.chans shard) (new.chans shard) grows) elsewhere.chans;
  users = λ k. Gains-none old.caller (old.users k) (new.users k) (elsewhere.users k);
}

pub user_made : (old new : DeskView) (shard : ℕ) (call : UserCall) (answer : UserAnswer) → GrowsBy {M = Memory} old.caller call (Ok answer) (old.users shard) (new.users shard)
    → StaysButUser shard old new → MayAsk old (User shard call) → Makes (record { ask = User shard call; came = made.User answer } ∷ []) old new
user_made old new shard call answer grows elsewhere may = record {
  may = All-cons (MayAsk old) (User shard call) [] may (All-nil (MayAsk old));
  same = elsewhere.same;
  chans = λ k. Gains-none old.caller (old.chans k) (new.chans k) (elsewhere.chans k);
  users = gains_at old.caller shard (entry old.caller call answer ∷ []) old.users new.users
      (Gains-by {M = Memory} old.caller call (Ok answer) (old.users shard) (new.users shard) grows) elsewhere.users;
}

pub user_unmade : (old new : DeskView) (shard : ℕ) (call : UserCall) (m : Memory) → GrowsBy {A = UserAnswer} old.caller call (Err m) (old.users shard) (new.users shard)
    → StaysButUser shard old new → MayAsk old (User shard call) → Makes (record { ask = User shard call; came = made.Memory } ∷ []) old new
user_unmade old new shard call m grows elsewhere may = record {
  may = All-cons (MayAsk old) (User shard call) [] may (All-nil (MayAsk old));
  same = elsewhere.same;
  chans = λ k. Gains-none old.caller (old.chans k) (new.chans k) (elsewhere.chans k);
  users = gains_none_at old.caller shard old.users new.users
      (Gains-by old.caller call (Err m) (old.users shard) (new.users shard) grows) elsewhere.users;
}

pub MayAsk-after : (xs : List Asked) (a b : DeskView) → Makes xs a b → (ask : Ask) → MayAsk a ask → MayAsk b ask
MayAsk-after xs a b calls (Chan shard call) may = rw calls.same.chan_shards may
MayAsk-after xs a b calls (User shard call) may = rw calls.same.user_shards may
