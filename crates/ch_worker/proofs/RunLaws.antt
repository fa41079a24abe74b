-- The laws of several turns.
use Rattle.std.proofs.Common.{◌≡◌, ◌+◌, List, [], ◌∷◌, length, ap, sym, subst, refl, ◌∙◌, arith, length-append}
use Rattle.std.specs.Prelude.{⊤, Option, Some, None, Result, Ok, Err, is_ok, sum_by, if◌then◌else◌}
use Rattle.std.specs.Option.{option_to_list}
use Rattle.std.proofs.lemmas.List.Sums.{sum_by-cons}
use Rattle.ch_base.specs.declared.memory.Memory.{Memory}
use Rattle.ch_clients.proofs.Sound.{in_turn_length, length_placed}
use Rattle.ch_clients.specs.Clients.{Client}
use Rattle.ch_clients.specs.Leaving.{Left, IsLeft, still_leaving, still_there}
use Rattle.ch_clients.specs.Serving.{Fate, Stays, Leaves, Dropped, IsServed, Turned, client_of, leavers, staying}
use Rattle.ch_desk.proofs.OwnEntries.{Makes-none, Makes-then}
use Rattle.ch_desk.specs.OwnEntries.{Makes}
use Rattle.ch_io.specs.Counts.{raised}
use Rattle.ch_live.specs.declared.peer.Peer.{Peer}
use Rattle.ch_worker.proofs.Counts.{raised_twice, raised_none}
use Rattle.ch_worker.proofs.Turning.{length_all_handed}
use Rattle.ch_worker.specs.Laws.{AllIsDone, NobodyIsLost, TurnsChain, TurnsCount, TurnsMake}
use Rattle.ch_worker.specs.Runs.{Took, TakesTurns, calls_in, ended, gone, newcomers_in}
use Rattle.ch_worker.specs.Taking.{frames_of}
use Rattle.ch_worker.specs.Turns.{Scene, TakesCourse, after_frames, calls_of, served, setting_at, with_newcomer}

pub turns_chain : TurnsChain
turns_chain [] us a b c same later = subst (λ s. TakesTurns us s c) same later
turns_chain (t ∷ ts) us a b c (next, here, rest) later = (next, here, turns_chain ts us next b c rest later)

pub turns_make : TurnsMake
turns_make [] old new same = subst (λ s. Makes [] old.desk s.desk) (sym same) (Makes-none old.desk)
turns_make (t ∷ ts) old new (next, here, rest) =
    Makes-then (calls_of t.course) (calls_in ts) old.desk next.desk new.desk here.calls (turns_make ts next new rest)

pub turns_count : TurnsCount
turns_count [] old new same = (
  ap (λ s. s.worker.turns) same ∙ sym (raised_none old.worker.turns),
  ap (λ s. s.worker.taken) same ∙ sym (raised_none old.worker.taken),
)
turns_count (t ∷ ts) old new (next, here, rest) =
    let counts = turns_count ts next new rest in
    let one = length (option_to_list t.course.newcomer) in (
      counts.0 ∙ ap (λ n. raised n (length ts)) here.turn ∙ raised_twice old.worker.turns 1 (length ts) ∙ ap (λ n. raised old.worker.turns n) (omega arith),
      counts.1 ∙ ap (λ n. raised n (newcomers_in ts)) here.taken ∙ raised_twice old.worker.taken one (newcomers_in ts)
          ∙ ap (λ n. raised old.worker.taken n) (sym (sum_by-cons (λ (t : Took). length (option_to_list t.course.newcomer)) t ts)),
    )

-- ---- who is there

one_fate : (fate : Fate) → length (client_of fate) + ended fate ≡ 1
one_fate (Stays client) = refl
one_fate (Leaves peer) = refl
one_fate Dropped = refl

one_left : (peer : Peer) (r : Result ⊤ Memory) → length (if is_ok r then [] else peer ∷ []) + (if is_ok r then 1 else 0) ≡ 1
one_left peer (Ok u) = refl
one_left peer (Err m) = refl

all_turned : (turns : List Turned) → length (staying turns) + sum_by (λ u. ended u.fate) turns ≡ length turns
all_turned [] = refl
all_turned (t ∷ ts) =
    omega (arith, length-append (client_of t.fate) (staying ts), one_fate t.fate, sum_by-cons (λ (u : Turned). ended u.fate) t ts, all_turned ts)

all_left : (lefts : List Left) → length (still_leaving lefts) + sum_by gone lefts ≡ length lefts
all_left [] = refl
all_left (l ∷ ls) = omega (arith, length-append (still_there l) (still_leaving ls), one_left l.peer l.result, sum_by-cons gone l ls, all_left ls)

length_served : (n : Option Client) (clients : List Client) → length (with_newcomer n clients) ≡ length clients + length (option_to_list n)
length_served None clients = omega arith
length_served (Some client) clients = omega (arith, length_placed client clients)

-- one turn
one_turn : (t : Took) (old new : Scene) → TakesCourse t.moment t.course old new t.result
    → (length old.worker.clients.connected + length (option_to_list t.course.newcomer) ≡ length new.worker.clients.connected + sum_by (λ u. ended u.fate) t.course.turns)
    × (length old.worker.clients.leaving + length (leavers t.course.turns) ≡ length new.worker.clients.leaving + sum_by gone t.course.lefts)
one_turn t old new h =
    let c = t.course in
    let s = setting_at old.worker t.moment in (
      omega (
        arith,
        ap (λ x. length x.connected) h.clients,
        all_turned c.turns,
        in_turn_length (IsServed s) (served c old.worker) c.turns c.desk_lost new.desk h.turns,
        length_served c.newcomer (after_frames c old.worker),
        length_all_handed old.worker.clients.connected (frames_of c.takes),
      ),
      omega (
        arith,
        ap (λ x. length x.leaving) h.clients,
        length-append (still_leaving c.lefts) (leavers c.turns),
        all_left c.lefts,
        in_turn_length (IsLeft t.moment.now) old.worker.clients.leaving c.lefts c.desk_taken c.desk_lost h.losses,
      ),
    )

pub nobody_is_lost : NobodyIsLost
nobody_is_lost [] old new same = (omega (arith, ap (λ s. length s.worker.clients.connected) same), omega (arith, ap (λ s. length s.worker.clients.leaving) same))
nobody_is_lost (t ∷ ts) old new (next, here, rest) =
    let one = one_turn t old next here in
    let more = nobody_is_lost ts next new rest in (
      omega (arith, one.0, more.0, sum_by-cons (λ (u : Took). length (option_to_list u.course.newcomer)) t ts, sum_by-cons (λ (u : Took). sum_by (λ v. ended v.fate) u.course.turns) t ts),
      omega (arith, one.1, more.1, sum_by-cons (λ (u : Took). length (leavers u.course.turns)) t ts, sum_by-cons (λ (u : Took). sum_by gone u.course.lefts) t ts),
    )

pub all_is_done : AllIsDone
all_is_done ts old new takes none nobody =
    let n = nobody_is_lost ts old new takes in (
      omega (arith, n.0, ap length none.0, ap length nobody.0),
      omega (arith, n.1, ap length none.1, ap length nobody.1),
    )
