-- Turns of a worker's thread, one after another.
use Rattle.std.proofs.Common.{◌≡◌, ℕ, ◌+◌, [], ◌∷◌, ◌++◌, refl, ap, ◌∙◌, length, length-append, arith}
use Rattle.ch_clients.specs.declared.answer.WorkerTurn.{WorkerTurn}
use Rattle.ch_house.specs.DeskViews.{NamesTellHouses}
use Rattle.ch_io.specs.Counts.{raised}
use Rattle.ch_worker.proofs.Counts.{raised_none}
use Rattle.ch_worker.specs.Laws.{TurnsChain, TurnsCount}
use Rattle.ch_worker.specs.Runs.{TakesTurns}
use Rattle.ch_worker.specs.Turns.{Course, Moment, TakesCourse}
use Rattle.ch_serve.specs.Served.{Seat, Turned, scene_of}
use Rattle.std.proofs.Common.{sym}

pub turned_once : (m : Moment) (course : Course) (result : WorkerTurn) (old new : Seat) → NamesTellHouses → TakesCourse m course (scene_of old) (scene_of new) result → Turned 1 old new
turned_once m course result old new tells t = record {
  took = record { moment = m; course = course; result = result } ∷ [];
  count = refl;
  each = (scene_of new, t, refl);
  house = tells new.passes.house old.passes.house t.calls.same.house;
  caller = t.calls.same.caller;
  turns_now = t.turn;
}

pub turned_none : (s : Seat) → Turned 0 s s
turned_none s = record {
  took = [];
  count = refl;
  each = refl;
  house = refl;
  caller = refl;
  turns_now = sym (raised_none s.worker.turns);
}

pub turned_more : (n : ℕ) (a b c : Seat) → TurnsChain → TurnsCount → Turned n a b → Turned 1 b c → Turned (n + 1) a c
turned_more n a b c chain count x y =
    let long : length (x.took ++ y.took) ≡ n + 1 = omega (arith, length-append x.took y.took, x.count, y.count) in
    let each : TakesTurns (x.took ++ y.took) (scene_of a) (scene_of c) = chain x.took y.took (scene_of a) (scene_of b) (scene_of c) x.each y.each in
    record {
      took = x.took ++ y.took;
      count = long;
      each = each;
      house = y.house ∙ x.house;
      caller = y.caller ∙ x.caller;
      turns_now = (count (x.took ++ y.took) (scene_of a) (scene_of c) each).0 ∙ ap (raised a.worker.turns) long;
    }
