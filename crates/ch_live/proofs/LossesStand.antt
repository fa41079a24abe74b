-- Each loss stands on its shard, after everything that was known of it before.
use Rattle.std.proofs.Common.{◌≡◌, ℕ, zero, suc, ◌+◌, ◌-◌, ◌<◌, ◌≤◌, ◌⊎◌, Bool, true, false, cond, eqb, List, [], ◌∷◌, ◌++◌, take, drop, map, filter, length, All, ap, sym, subst, refl, ◌∙◌, append_assoc, inl, inr, arith}
use Rattle.std.specs.Prelude.{nat_lt}
use Rattle.std.proofs.lemmas.Bool.{cases_eq, cond-true, cond-false, eq-eqb, lt-ltb, le-ltb, false≢true}
use Rattle.std.proofs.lemmas.List.{take-append-drop}
use Rattle.std.proofs.lemmas.List.Elements.{All-head, All-tail}
use Rattle.ch_base.specs.Growth.{entry}
use Rattle.ch_base.specs.declared.channel.ChanAnswer.{ChanAnswer}
use Rattle.ch_base.specs.declared.channel.ChanCall.{ChanCall}
use Rattle.ch_base.specs.declared.channel.ChanCall.TheVariants as chan
use Rattle.ch_base.specs.declared.entry.Entry.{Entry}
use Rattle.ch_base.specs.declared.user.UserAnswer.{UserAnswer}
use Rattle.ch_base.specs.declared.user.UserCall.{UserCall}
use Rattle.ch_base.specs.declared.user.UserCall.TheVariants as user
use Rattle.ch_desk.specs.OwnEntries.{Gains, IsAnswered, Makes, entries_on_chan, entries_on_user, entry_on_chan, entry_on_user, was_made}
use Rattle.ch_desk.specs.Views.{DeskView}
use Rattle.ch_protocol.specs.Asks.{Asked, ComesOf, asks_of}
use Rattle.ch_protocol.specs.Settling.{SettledAsk, uses_chan, uses_user}
use Rattle.ch_protocol.specs.declared.ask.Ask.{Ask}
use Rattle.ch_protocol.specs.declared.ask.Ask.TheVariants.{Chan, User}
use Rattle.ch_protocol.specs.declared.ask.Made.{Made}
use Rattle.ch_protocol.specs.declared.ask.Made.TheVariants as made
use Rattle.ch_session.specs.Kept.{Kept, IsSession, losses_left}
use Rattle.ch_session.specs.Losses.{losses_from, loss_at}
use Rattle.ch_session.specs.Told.{uses_place}
use Rattle.ch_live.specs.Connections.{Connected}
use Rattle.ch_live.specs.LossLaws.{LossesStand}
use Rattle.ch_live.specs.LossRuns.{LossCall, LosesOver, EndsOk, GrewTo, IsLater, StandsAfter, at_moment}
use Rattle.ch_live.specs.declared.peer.Peer.{Peer}
use Rattle.ch_live.specs.declared.peer.Peer.TheVariants.{Open}
use Rattle.ch_live.proofs.LossRuns.{left_moment, loss_moment, lost_by, stands_still}

-- ---- what is in a list

module _ {A : Type 0} where
  abbrev pub In : A → List A → Type 0
  In a [] = ⊥
  In a (x ∷ xs) = (x ≡ a) ⊎ In a xs

  in_cases : (xs ys : List A) (a : A) → In a (xs ++ ys) → In a xs ⊎ In a ys
  in_cases [] ys a there = inr there
  in_cases (x ∷ xs) ys a there = elim there [
    | inl here ↦ inl (inl here)
    | inr after ↦ elim (in_cases xs ys a after) [ inl left ↦ inl (inr left) | inr right ↦ inr right ]
  ]

  in_left : (xs ys : List A) (a : A) → In a xs → In a (xs ++ ys)
  in_left [] ys a there = absurd there
  in_left (x ∷ xs) ys a there = elim there [ inl here ↦ inl here | inr after ↦ inr (in_left xs ys a after) ]

  in_right : (xs ys : List A) (a : A) → In a ys → In a (xs ++ ys)
  in_right [] ys a there = there
  in_right (x ∷ xs) ys a there = inr (in_right xs ys a there)

  -- the entry, with what stands before it and after it
  parts : (xs : List A) (a : A) → In a xs → (before after : List A) × (xs ≡ before ++ a ∷ after)
  parts [] a there = absurd there
  parts (x ∷ xs) a there = elim there [
    | inl here ↦ ([], xs, ap (λ z. z ∷ xs) here)
    | inr after ↦ let p = parts xs a after in (x ∷ p.0, p.1, ap (λ z. x ∷ z) p.2)
  ]

  in_kept : (b : Bool) (x : A) (ys xs : List A) (a : A) → In a (cond b (x ∷ ys) ys) → (In a ys → In a xs) → In a (x ∷ xs)
  in_kept true x ys xs a there more = elim there [ inl here ↦ inl here | inr after ↦ inr (more after) ]
  in_kept false x ys xs a there more = inr (more there)

  in_filter : (p : A → Bool) (xs : List A) (a : A) → In a (filter p xs) → In a xs
  in_filter p [] a there = absurd there
  in_filter p (x ∷ xs) a there = in_kept (p x) x (filter p xs) xs a there (in_filter p xs a)

  all_in : (P : A → Type 0) (xs : List A) (a : A) → All P xs → In a xs → P a
  all_in P [] a all there = absurd there
  all_in P (x ∷ xs) a all there = elim there [
    | inl here ↦ subst P here (All-head P x xs all)
    | inr after ↦ all_in P xs a (All-tail P x xs all) after
  ]

module _ {A B : Type 0} where
  in_map : (f : A → B) (xs : List A) (a : A) → In a xs → In (f a) (map f xs)
  in_map f [] a there = absurd there
  in_map f (x ∷ xs) a there = elim there [ inl here ↦ inl (ap f here) | inr after ↦ inr (in_map f xs a after) ]

  from_map : (f : A → B) (xs : List A) (b : B) → In b (map f xs) → (a : A) × In a xs × (f a ≡ b)
  from_map f [] b there = absurd there
  from_map f (x ∷ xs) b there = elim there [
    | inl here ↦ (x, inl refl, here)
    | inr after ↦ let h = from_map f xs b after in (h.0, inr h.1, h.2)
  ]

-- ---- where entries stand

module _ {E : Type 0} where
  pub grew_then : (a b c : List E) → GrewTo a b → GrewTo b c → GrewTo a c
  grew_then a b c p q = (p.0 ++ q.0, q.1 ∙ ap (λ z. z ++ q.0) p.1 ∙ append_assoc a p.0 q.0)

  stands_earlier : (e : E) (a b c : List E) → GrewTo a b → StandsAfter e b c → StandsAfter e a c
  stands_earlier e a b c p s = (p.0 ++ s.0, s.1, s.2 ∙ ap (λ z. (z ++ s.0) ++ e ∷ s.1) p.1 ∙ ap (λ z. z ++ e ∷ s.1) (append_assoc a p.0 s.0))

  stands_later : (e : E) (a b c : List E) → StandsAfter e a b → GrewTo b c → StandsAfter e a c
  stands_later e a b c s p = (s.0, s.1 ++ p.0, p.1 ∙ ap (λ z. z ++ p.0) s.2 ∙ append_assoc (a ++ s.0) (e ∷ s.1) p.0)

module _ {C A : Type 0} where
  pub gains_grew : (caller : ℕ) (own a b : List (Entry C A)) → Gains caller own a b → GrewTo a b
  gains_grew caller own a b g = (g.0, g.1)

  gained_stands : (caller : ℕ) (own a b : List (Entry C A)) (e : Entry C A) → Gains caller own a b → In e own → StandsAfter e a b
  gained_stands caller own a b e g there =
      let p = parts g.0 e (in_filter (λ (x : Entry C A). eqb x.caller caller) g.0 e (subst (In e) (sym g.2) there)) in
      (p.0, p.1, g.1 ∙ ap (λ z. a ++ z) p.2 ∙ sym (append_assoc a p.0 (e ∷ p.1)))

-- ---- the desk later on

pub later_then : (a b c : DeskView) → IsLater a b → IsLater b c → IsLater a c
later_then a b c p q = record {
  same = record {
    house = q.same.house ∙ p.same.house;
    caller = q.same.caller ∙ p.same.caller;
    chan_shards = q.same.chan_shards ∙ p.same.chan_shards;
    user_shards = q.same.user_shards ∙ p.same.user_shards;
  };
  chans = λ k. grew_then (a.chans k) (b.chans k) (c.chans k) (p.chans k) (q.chans k);
  users = λ k. grew_then (a.users k) (b.users k) (c.users k) (p.users k) (q.users k);
}

later_by : (asked : List Asked) (a b : DeskView) → Makes asked a b → IsLater a b
later_by asked a b m = record {
  same = m.same;
  chans = λ k. gains_grew a.caller (entries_on_chan a.caller k asked) (a.chans k) (b.chans k) (m.chans k);
  users = λ k. gains_grew a.caller (entries_on_user a.caller k asked) (a.users k) (b.users k) (m.users k);
}

pub later_over : (calls : List LossCall) (c : Connected) (peer : Peer) (old new : DeskView) → LosesOver calls (Open c) peer old new → IsLater old new
later_over [] c peer old new over = over.1
later_over (d ∷ calls) c peer old new over =
    let s = lost_by d.now d.asked c d.peer d.desk d.desk_new d.result over.1 in
    later_then old d.desk new over.0 (later_then d.desk d.desk_new new (later_by d.asked d.desk d.desk_new s.makes.calls)
    (later_over calls s.next peer d.desk_new new (subst (λ p. LosesOver calls p peer d.desk_new new) s.peer over.2)))

-- ---- a loss that was made

chan_one : (caller k : ℕ) (ask : Ask) (came : Made) (call : ChanCall) → ask ≡ Chan k call → ComesOf ask came → was_made came ≡ true
    → (answer : ChanAnswer) × (entry_on_chan caller k ask came ≡ entry caller call answer ∷ [])
chan_one caller k (Chan shard c) (made.Chan answer) call is comes done =
    let here : shard ≡ k = cc in
    let same : c ≡ call = cc in
    (answer, cond-true (eqb shard k) (entry caller c answer ∷ []) [] (eq-eqb shard k here) ∙ ap (λ z. entry caller z answer ∷ []) same)
chan_one caller k (Chan shard c) (made.User answer) call is comes done = absurd comes
chan_one caller k (Chan shard c) made.Memory call is comes done = absurd (false≢true done)
chan_one caller k (User shard c) came call is comes done = cc

user_one : (caller k : ℕ) (ask : Ask) (came : Made) (call : UserCall) → ask ≡ User k call → ComesOf ask came → was_made came ≡ true
    → (answer : UserAnswer) × (entry_on_user caller k ask came ≡ entry caller call answer ∷ [])
user_one caller k (User shard c) (made.User answer) call is comes done =
    let here : shard ≡ k = cc in
    let same : c ≡ call = cc in
    (answer, cond-true (eqb shard k) (entry caller c answer ∷ []) [] (eq-eqb shard k here) ∙ ap (λ z. entry caller z answer ∷ []) same)
user_one caller k (User shard c) (made.Chan answer) call is comes done = absurd comes
user_one caller k (User shard c) made.Memory call is comes done = absurd (false≢true done)
user_one caller k (Chan shard c) came call is comes done = cc

chan_there : (caller k : ℕ) (xs : List Asked) (x : Asked) (call : ChanCall) → In x xs → x.ask ≡ Chan k call → IsAnswered x
    → (answer : ChanAnswer) × In (entry caller call answer) (entries_on_chan caller k xs)
chan_there caller k [] x call there is answered = absurd there
chan_there caller k (y ∷ xs) x call there is answered = elim there [
  | inl here ↦
      let one = chan_one caller k x.ask x.came call is answered.0 answered.1 in (
        one.0,
        in_left (entry_on_chan caller k y.ask y.came) (entries_on_chan caller k xs) (entry caller call one.0)
            (subst (In (entry caller call one.0)) (sym (ap (λ (z : Asked). entry_on_chan caller k z.ask z.came) here ∙ one.1)) (inl refl)),
      )
  | inr after ↦ let rest = chan_there caller k xs x call after is answered in
      (rest.0, in_right (entry_on_chan caller k y.ask y.came) (entries_on_chan caller k xs) (entry caller call rest.0) rest.1)
]

user_there : (caller k : ℕ) (xs : List Asked) (x : Asked) (call : UserCall) → In x xs → x.ask ≡ User k call → IsAnswered x
    → (answer : UserAnswer) × In (entry caller call answer) (entries_on_user caller k xs)
user_there caller k [] x call there is answered = absurd there
user_there caller k (y ∷ xs) x call there is answered = elim there [
  | inl here ↦
      let one = user_one caller k x.ask x.came call is answered.0 answered.1 in (
        one.0,
        in_left (entry_on_user caller k y.ask y.came) (entries_on_user caller k xs) (entry caller call one.0)
            (subst (In (entry caller call one.0)) (sym (ap (λ (z : Asked). entry_on_user caller k z.ask z.came) here ∙ one.1)) (inl refl)),
      )
  | inr after ↦ let rest = user_there caller k xs x call after is answered in
      (rest.0, in_right (entry_on_user caller k y.ask y.came) (entries_on_user caller k xs) (entry caller call rest.0) rest.1)
]

-- ---- the call that made it

-- the loss at this place of the row of shards was made by a call, and its entries stand in the list since then
pub record MadeAt (s : Kept) (place : ℕ) (old new : DeskView) : Type 0 where
  pub now : ℕ
  pub asked : List Asked
  pub from : DeskView
  pub to : DeskView
  pub x : Asked
  pub there : In x asked
  pub is : x.ask ≡ loss_at s.chans s.number now place
  pub answered : IsAnswered x
  pub calls : Makes asked from to
  pub before : IsLater old from
  pub after : IsLater to new

made_here : (d : LossCall) (c next : Connected) (old new : DeskView) (place : ℕ) → IsLater old d.desk → IsLater d.desk_new new
    → Makes d.asked d.desk d.desk_new → All IsAnswered d.asked → In (loss_at c.session.chans c.session.number d.now place) (asks_of d.asked)
    → MadeAt c.session place old new
made_here d c next old new place before after calls all there =
    let h = from_map (λ (x : Asked). x.ask) d.asked (loss_at c.session.chans c.session.number d.now place) there in
    record {
      now = d.now;
      asked = d.asked;
      from = d.desk;
      to = d.desk_new;
      x = h.0;
      there = h.1;
      is = h.2;
      answered = all_in IsAnswered d.asked h.0 all h.1;
      calls = calls;
      before = before;
      after = after;
    }

at_now : (s : Kept) (asks : List SettledAsk) (now at place : ℕ) → In (loss_at s.chans s.number now place) (losses_left s asks now)
    → In (loss_at s.chans s.number at place) (losses_left s asks at)
at_now s asks now at place there =
    subst (In (loss_at s.chans s.number at place)) (left_moment s asks now at)
    (subst (λ a. In a (map (at_moment at) (losses_left s asks now))) (loss_moment s.chans s.number now at place)
    (in_map (at_moment at) (losses_left s asks now) (loss_at s.chans s.number now place) there))

made_by : (calls : List LossCall) (c : Connected) (peer : Peer) (old new : DeskView) (start number : ℕ) (asks : List SettledAsk) (place : ℕ)
    → IsSession c.session start number asks → LosesOver calls (Open c) peer old new → EndsOk calls
    → In (loss_at c.session.chans c.session.number 0 place) (losses_left c.session asks 0) → MadeAt c.session place old new
made_by [] c peer old new start number asks place is over ok owed = absurd ok
made_by (d ∷ []) c peer old new start number asks place is over ok owed =
    let s = lost_by d.now d.asked c d.peer d.desk d.desk_new d.result over.1 in
    made_here d c s.next old new place over.0 (over.2).1 s.makes.calls s.makes.answered
    (subst (In (loss_at c.session.chans c.session.number d.now place)) (sym (s.all ok start number asks is)) (at_now c.session asks 0 d.now place owed))
made_by (d ∷ e ∷ calls) c peer old new start number asks place is over ok owed =
    let s = lost_by d.now d.asked c d.peer d.desk d.desk_new d.result over.1 in
    let n = length d.asked in
    let loss = loss_at c.session.chans c.session.number d.now place in
    let left = losses_left c.session asks d.now in
    let later : LosesOver (e ∷ calls) (Open s.next) peer d.desk_new new = subst (λ p. LosesOver (e ∷ calls) p peer d.desk_new new) s.peer over.2 in
    let still = stands_still d.now d.asked c.session s.next.session d.desk d.desk_new start number asks s.makes is in
    let whole : In loss (take n left ++ drop n left) = subst (In loss) (sym (take-append-drop n left)) (at_now c.session asks 0 d.now place owed) in
    let same = s.makes.same in
    elim (in_cases (take n left) (drop n left) loss whole) [
      | inl front ↦ made_here d c s.next old new place over.0 (later_over (e ∷ calls) s.next peer d.desk_new new later) s.makes.calls s.makes.answered
          (subst (In loss) (sym (s.makes.order start number asks is)) front)
      | inr rest ↦
          let chans : s.next.session.chans ≡ c.session.chans = ap (λ (k : Kept). k.chans) same in
          let number_same : s.next.session.number ≡ c.session.number = ap (λ (k : Kept). k.number) same in
          let owed_next : In (loss_at s.next.session.chans s.next.session.number d.now place) (losses_left s.next.session asks d.now) =
          subst (λ i. In (loss_at i s.next.session.number d.now place) (losses_left s.next.session asks d.now)) (sym chans)
          (subst (λ i. In (loss_at c.session.chans i d.now place) (losses_left s.next.session asks d.now)) (sym number_same)
          (subst (In loss) (sym (s.makes.left start number d.now asks is)) rest)) in
          let h = made_by (e ∷ calls) s.next peer d.desk_new new start number asks place still later ok
          (at_now s.next.session asks d.now 0 place owed_next) in
          record {
            now = h.now;
            asked = h.asked;
            from = h.from;
            to = h.to;
            x = h.x;
            there = h.there;
            is = h.is ∙ ap (λ i. loss_at i s.next.session.number h.now place) chans ∙ ap (λ i. loss_at c.session.chans i h.now place) number_same;
            answered = h.answered;
            calls = h.calls;
            before = later_then old d.desk h.from over.0 (later_then d.desk d.desk_new h.from (later_by d.asked d.desk d.desk_new s.makes.calls) h.before);
            after = h.after;
          }
    ]

-- ---- the losses that are owed

owed_step : (b : Bool) (x : Ask) (xs : List Ask) (a : Ask) → In a xs → In a (cond b (x ∷ xs) xs)
owed_step true x xs a there = inr there
owed_step false x xs a there = there

owed_from : (uses : ℕ → Bool) (loss : ℕ → Ask) (left from place : ℕ) → uses place ≡ true → from ≤ place → place < from + left
    → In (loss place) (losses_from uses loss left from)
owed_from uses loss zero from place used low high = absurd (omega (arith, low, high))
owed_from uses loss (suc left) from place used low high = elim (cases_eq from place) [
  | inl same ↦ subst (In (loss place)) (sym (cond-true (uses from) (loss from ∷ losses_from uses loss left (from + 1)) _ (ap uses same ∙ used))) (inl (ap loss same))
  | inr other ↦ owed_step (uses from) (loss from) (losses_from uses loss left (from + 1)) (loss place)
      (owed_from uses loss left (from + 1) place used (omega (arith, low, other)) (omega (arith, high)))
]

pub losses_stand : LossesStand
losses_stand calls c peer old new start number asks is over all =
    let s = c.session in (
      (λ k below used.
          let inside : k < s.chans = omega (arith, below, all.chans) in
          let place : nat_lt k s.chans ≡ true = lt-ltb k s.chans inside in
          let owed : In (loss_at s.chans s.number 0 k) (losses_left s asks 0) =
          owed_from (uses_place s.chans asks) (loss_at s.chans s.number 0) (length s.told.used - s.lost) s.lost k
          (cond-true (nat_lt k s.chans) (uses_chan asks k) (uses_user asks (k - s.chans)) place ∙ used)
          (omega (arith, all.first)) (omega (arith, all.first, all.shards, below)) in
          let h = made_by calls c peer old new start number asks k is over all.ok owed in
          let loss : h.x.ask ≡ Chan k (chan.Lost s.number h.now) = h.is ∙ cond-true (nat_lt k s.chans) (Chan k (chan.Lost s.number h.now)) (User (k - s.chans) (user.Lost s.number h.now)) place in
          let t = chan_there old.caller k h.asked h.x (chan.Lost s.number h.now) h.there loss h.answered in
          let e = entry old.caller (chan.Lost s.number h.now) t.0 in (
            h.now,
            t.0,
            stands_later e (old.chans k) (h.to.chans k) (new.chans k)
                (stands_earlier e (old.chans k) (h.from.chans k) (h.to.chans k) (h.before.chans k)
                (gained_stands old.caller (entries_on_chan old.caller k h.asked) (h.from.chans k) (h.to.chans k) e
                (subst (λ i. Gains i (entries_on_chan i k h.asked) (h.from.chans k) (h.to.chans k)) h.before.same.caller (h.calls.chans k)) t.1))
                (h.after.chans k),
          )),
      (λ k below used.
          let inside : s.chans ≤ s.chans + k = omega arith in
          let place : nat_lt (s.chans + k) s.chans ≡ false = le-ltb (s.chans + k) s.chans inside in
          let minus : s.chans + k - s.chans ≡ k = omega arith in
          let owed : In (loss_at s.chans s.number 0 (s.chans + k)) (losses_left s asks 0) =
          owed_from (uses_place s.chans asks) (loss_at s.chans s.number 0) (length s.told.used - s.lost) s.lost (s.chans + k)
          (cond-false (nat_lt (s.chans + k) s.chans) (uses_chan asks (s.chans + k)) (uses_user asks (s.chans + k - s.chans)) place ∙ ap (uses_user asks) minus ∙ used)
          (omega (arith, all.first)) (omega (arith, all.first, all.shards, all.chans, below)) in
          let h = made_by calls c peer old new start number asks (s.chans + k) is over all.ok owed in
          let loss : h.x.ask ≡ User k (user.Lost s.number h.now) =
          h.is ∙ cond-false (nat_lt (s.chans + k) s.chans) (Chan (s.chans + k) (chan.Lost s.number h.now)) (User (s.chans + k - s.chans) (user.Lost s.number h.now)) place
          ∙ ap (λ i. User i (user.Lost s.number h.now)) minus in
          let t = user_there old.caller k h.asked h.x (user.Lost s.number h.now) h.there loss h.answered in
          let e = entry old.caller (user.Lost s.number h.now) t.0 in (
            h.now,
            t.0,
            stands_later e (old.users k) (h.to.users k) (new.users k)
                (stands_earlier e (old.users k) (h.from.users k) (h.to.users k) (h.before.users k)
                (gained_stands old.caller (entries_on_user old.caller k h.asked) (h.from.users k) (h.to.users k) e
                (subst (λ i. Gains i (entries_on_user i k h.asked) (h.from.users k) (h.to.users k)) h.before.same.caller (h.calls.users k)) t.1))
                (h.after.users k),
          )),
    )
