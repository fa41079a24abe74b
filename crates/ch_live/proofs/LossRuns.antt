-- The losses of several calls, one after another.
use Rattle.std.proofs.Common.{◌≡◌, ℕ, zero, suc, ◌+◌, ◌-◌, Bool, true, false, cond, List, [], ◌∷◌, ◌++◌, take, drop, map, length, length-append, ap, sym, subst, refl, ◌∙◌, append-nil, inl, inr, arith}
use Rattle.std.specs.Prelude.{⊤, nat_lt, Result, Ok, Err, OnOk, IsOk}
use Rattle.std.proofs.lemmas.Bool.{cases_lt, cond-true, cond-false, lt-ltb, le-ltb, false≢true}
use Rattle.std.proofs.lemmas.List.{map-append, take-append-drop, take-map}
use Rattle.ch_base.specs.declared.memory.Memory.{Memory}
use Rattle.ch_desk.specs.Views.{DeskView}
use Rattle.ch_dispatch.specs.Losses.{AreAllLosses, MakesLosses}
use Rattle.ch_protocol.specs.Asks.{Asked, asks_of}
use Rattle.ch_protocol.specs.Settling.{SettledAsk}
use Rattle.ch_protocol.specs.declared.ask.Ask.{Ask}
use Rattle.ch_session.specs.Kept.{Kept, IsSession, losses_left}
use Rattle.ch_session.specs.Losses.{losses_from, loss_at}
use Rattle.ch_session.specs.Told.{uses_place}
use Rattle.ch_live.specs.Connections.{Connected}
use Rattle.ch_live.specs.LossLaws.{LossesGoOn, LossesEnd}
use Rattle.ch_live.specs.LossRuns.{LosesOver, at_moment, losses_in}
use Rattle.ch_live.specs.Losses.{Loses}
use Rattle.ch_live.specs.declared.peer.Peer.{Peer}
use Rattle.ch_live.specs.declared.peer.Peer.TheVariants.{Open, Refused}

-- ---- the moment of a loss

pub loss_moment : (chans socket now at place : ℕ) → at_moment at (loss_at chans socket now place) ≡ loss_at chans socket at place
loss_moment chans socket now at place = elim (cases_lt place chans) [
  | inl low ↦ ap (at_moment at) (cond-true (nat_lt place chans) _ _ (lt-ltb place chans low)) ∙ sym (cond-true (nat_lt place chans) _ _ (lt-ltb place chans low))
  | inr high ↦ ap (at_moment at) (cond-false (nat_lt place chans) _ _ (le-ltb place chans high)) ∙ sym (cond-false (nat_lt place chans) _ _ (le-ltb place chans high))
]

moments_step : (f : Ask → Ask) (b : Bool) (x y : Ask) (xs ys : List Ask) → f x ≡ y → map f xs ≡ ys → map f (cond b (x ∷ xs) xs) ≡ cond b (y ∷ ys) ys
moments_step f true x y xs ys p q = λ i. p i ∷ q i
moments_step f false x y xs ys p q = q

-- the losses that are left are the same at every moment, but for the moment
losses_moment : (uses : ℕ → Bool) (chans socket now at left from : ℕ)
    → map (at_moment at) (losses_from uses (loss_at chans socket now) left from) ≡ losses_from uses (loss_at chans socket at) left from
losses_moment uses chans socket now at zero from = refl
losses_moment uses chans socket now at (suc left) from =
    moments_step (at_moment at) (uses from) (loss_at chans socket now from) (loss_at chans socket at from)
    (losses_from uses (loss_at chans socket now) left (from + 1)) (losses_from uses (loss_at chans socket at) left (from + 1))
    (loss_moment chans socket now at from) (losses_moment uses chans socket now at left (from + 1))

pub left_moment : (s : Kept) (asks : List SettledAsk) (now at : ℕ) → map (at_moment at) (losses_left s asks now) ≡ losses_left s asks at
left_moment s asks now at = losses_moment (uses_place s.chans asks) s.chans s.number now at (length s.told.used - s.lost) s.lost

-- ---- lists

take_none : {A : Type 0} (n : ℕ) → take {A = A} n [] ≡ []
take_none zero = refl
take_none (suc n) = refl

take_then : {A : Type 0} (n m : ℕ) (xs : List A) → take n xs ++ take m (drop n xs) ≡ take (n + m) xs
take_then zero m xs = let same : m ≡ 0 + m = omega arith in ap (λ k. take k xs) same
take_then (suc n) m [] = take_none m ∙ sym (take_none (suc n + m))
take_then (suc n) m (x ∷ xs) =
    let more : suc n + m ≡ suc (n + m) = omega arith in
    ap (λ z. x ∷ z) (take_then n m xs) ∙ sym (ap (λ k. take k (x ∷ xs)) more)

-- ---- one call

on_ok : {T P : Type 0} (r : Result T Memory) → OnOk r P → IsOk r → P
on_ok (Ok x) p ok = p
on_ok (Err e) p ok = absurd (false≢true ok)

-- what one call did to an open connection
pub record Lost (now : ℕ) (asked : List Asked) (c : Connected) (p : Peer) (desk desk_new : DeskView) (r : Result ⊤ Memory) : Type 0 where
  pub next : Connected
  pub peer : p ≡ Open next
  pub makes : MakesLosses now asked c.session next.session desk desk_new
  pub all : IsOk r → AreAllLosses now asked c.session

pub lost_by : (now : ℕ) (asked : List Asked) (c : Connected) (p : Peer) (desk desk_new : DeskView) (r : Result ⊤ Memory)
    → Loses now asked (Open c) p desk desk_new r → Lost now asked c p desk desk_new r
lost_by now asked c (Open x) desk desk_new r h = record { next = x; peer = refl; makes = h.0; all = on_ok r h.2 }
lost_by now asked c (Refused code) desk desk_new r h = absurd h

-- the session still stands for its settled asks
pub stands_still : (now : ℕ) (asked : List Asked) (old new : Kept) (desk desk_new : DeskView) (start number : ℕ) (asks : List SettledAsk)
    → MakesLosses now asked old new desk desk_new → IsSession old start number asks → IsSession new start number asks
stands_still now asked old new desk desk_new start number asks m is =
    subst (λ s. IsSession s start number asks) (sym m.same) (record { started = is.started; numbered = is.numbered; tells = is.tells })

-- the losses of one call, and then others
then_others : (now at : ℕ) (asked : List Asked) (others : List Ask) (old new : Kept) (desk desk_new : DeskView) (start number : ℕ) (asks : List SettledAsk)
    → MakesLosses now asked old new desk desk_new → IsSession old start number asks
    → map (at_moment at) (asks_of asked ++ others) ≡ take (length asked) (losses_left old asks at) ++ map (at_moment at) others
then_others now at asked others old new desk desk_new start number asks m is =
    map-append (at_moment at) (asks_of asked) others
    ∙ ap (λ z. z ++ map (at_moment at) others)
    (ap (map (at_moment at)) (m.order start number asks is) ∙ sym (take-map (at_moment at) (length asked) (losses_left old asks now))
    ∙ ap (take (length asked)) (left_moment old asks now at))

asks_then : (xs ys : List Asked) → asks_of (xs ++ ys) ≡ asks_of xs ++ asks_of ys
asks_then xs ys = map-append (λ (x : Asked). x.ask) xs ys

-- ---- several calls

pub losses_go_on : LossesGoOn
losses_go_on [] c peer old new start number asks is over at = refl
losses_go_on (d ∷ calls) c peer old new start number asks is over at =
    let s = lost_by d.now d.asked c d.peer d.desk d.desk_new d.result over.1 in
    let rest = losses_in calls in
    let later : LosesOver calls (Open s.next) peer d.desk_new new = subst (λ p. LosesOver calls p peer d.desk_new new) s.peer over.2 in
    let still = stands_still d.now d.asked c.session s.next.session d.desk d.desk_new start number asks s.makes is in
    ap (map (at_moment at)) (asks_then d.asked rest)
    ∙ then_others d.now at d.asked (asks_of rest) c.session s.next.session d.desk d.desk_new start number asks s.makes is
    ∙ ap (λ z. take (length d.asked) (losses_left c.session asks at) ++ z)
    (losses_go_on calls s.next peer d.desk_new new start number asks still later at
    ∙ ap (take (length rest)) (s.makes.left start number at asks is))
    ∙ take_then (length d.asked) (length rest) (losses_left c.session asks at)
    ∙ ap (λ n. take n (losses_left c.session asks at)) (sym (length-append d.asked rest))

pub losses_end : LossesEnd
losses_end [] c peer old new start number asks is over ok at = absurd ok
losses_end (d ∷ []) c peer old new start number asks is over ok at =
    let s = lost_by d.now d.asked c d.peer d.desk d.desk_new d.result over.1 in
    ap (λ xs. map (at_moment at) (asks_of xs)) (append-nil d.asked)
    ∙ ap (map (at_moment at)) (s.all ok start number asks is) ∙ left_moment c.session asks d.now at
losses_end (d ∷ e ∷ calls) c peer old new start number asks is over ok at =
    let s = lost_by d.now d.asked c d.peer d.desk d.desk_new d.result over.1 in
    let rest = losses_in (e ∷ calls) in
    let later : LosesOver (e ∷ calls) (Open s.next) peer d.desk_new new = subst (λ p. LosesOver (e ∷ calls) p peer d.desk_new new) s.peer over.2 in
    let still = stands_still d.now d.asked c.session s.next.session d.desk d.desk_new start number asks s.makes is in
    ap (map (at_moment at)) (asks_then d.asked rest)
    ∙ then_others d.now at d.asked (asks_of rest) c.session s.next.session d.desk d.desk_new start number asks s.makes is
    ∙ ap (λ z. take (length d.asked) (losses_left c.session asks at) ++ z)
    (losses_end (e ∷ calls) s.next peer d.desk_new new start number asks still later ok at ∙ s.makes.left start number at asks is)
    ∙ take-append-drop (length d.asked) (losses_left c.session asks at)
