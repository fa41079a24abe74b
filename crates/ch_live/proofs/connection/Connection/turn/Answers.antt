use Rattle.std.proofs.Common.{◌≡◌, ◌<◌, ◌≤◌, ℕ, true, false, ltb, length, refl, ◌∙◌, arith}
use Rattle.std.proofs.lemmas.Bool.{ltb-true, ltb-false}
use Rattle.ch_live.specs.declared.turn.Turn.TheVariants.{Memory, Ended}
use Rattle.ch_live.specs.declared.turn.End.TheVariants.{Fault}
use Rattle.ch_live.proofs.Turning.{ends_here, turn_stops, turn_waits, turn_receives}
use Rattle.ch_live.proofs.connection.Connection.turn.Goals as goal

pub returns-in-Some-clause-course : goal.returns-in-Some-clause-course
returns-in-Some-clause-course g c =
    let x = c.end_with.ensures in
    ends_here c.args.config.now c.args.now c.args.self.now c.look.new.self (g.W.Wire.told c.args.wire.now) (g.W.Wire.told c.end_with.new.wire) (g.D.Desk.view c.args.desk.now)
    c.in-Some.code c.end_with.result c.in-Some.ensures.code c.in-Some.ensures.looked x.ends x.moves x.last

moved_facts : (m n x y : ℕ) → m ≡ x → n ≡ y → (ltb m n ≡ true → x < y) × (ltb m n ≡ false → y ≤ x)
moved_facts m n x y p q = (λ t. omega (arith, ltb-true m n t, p, q), λ t. omega (arith, ltb-false m n t, p, q))

pub returns-in-All-clause-course : goal.returns-in-All-clause-course
returns-in-All-clause-course g c =
    let a = c.args in
    let m = moved_facts c.len.result c.len-waiting.result (length c.send_on-sending.new.backlog.frames) (length c.self.inside.backlog.frames) c.len.ensures c.len-waiting.ensures in
    turn_receives a.config.now a.now a.self.now c.self.inside.session c.self.inside.backlog c.send_on-sending.new.backlog c.start_second-start.result
    (g.W.Wire.told a.wire.now) (g.W.Wire.told c.send_on-sending.new.wire) (g.D.Desk.view a.desk.now) c.send_on-sending.result c.send_on-sending.ensures
    c.in_default.ensures.code (c.self.view_is ∙ c.in_default.ensures.looked) c.start_second-start.ensures
    (ltb c.len.result c.len-waiting.result) m.0 m.1 c.in-All.ensures.stops c.receive.new.self (g.W.Wire.told c.receive.new.wire) (g.D.Desk.view c.receive.new.desk) c.receive.result c.receive.ensures

pub returns-in-Waiting-clause-course : goal.returns-in-Waiting-clause-course
returns-in-Waiting-clause-course g c =
    let a = c.args in
    let m = moved_facts c.len.result c.len-waiting.result (length c.send_on-sending.new.backlog.frames) (length c.self.inside.backlog.frames) c.len.ensures c.len-waiting.ensures in
    turn_waits a.config.now a.now a.self.now c.self.inside.session c.self.inside.backlog c.send_on-sending.new.backlog c.start_second-start.result
    (g.W.Wire.told a.wire.now) (g.W.Wire.told c.send_on-sending.new.wire) (g.D.Desk.view a.desk.now) c.send_on-sending.result c.send_on-sending.ensures
    c.in_default.ensures.code (c.self.view_is ∙ c.in_default.ensures.looked) c.start_second-start.ensures
    (ltb c.len.result c.len-waiting.result) m.0 m.1 c.in-Waiting.ensures.stops c.moved_or_idle.result c.moved_or_idle.ensures

pub returns-in-Memory-clause-course : goal.returns-in-Memory-clause-course
returns-in-Memory-clause-course g c =
    let a = c.args in
    turn_stops a.config.now a.now a.self.now c.self.inside.session c.self.inside.backlog c.send_on-sending.new.backlog c.start_second-start.result
    (g.W.Wire.told a.wire.now) (g.W.Wire.told c.send_on-sending.new.wire) (g.D.Desk.view a.desk.now) c.send_on-sending.result c.send_on-sending.ensures
    c.in_default.ensures.code (c.self.view_is ∙ c.in_default.ensures.looked) c.start_second-start.ensures Memory (refl, refl, c.in-Memory.ensures.stops)

pub returns-in-Failed-clause-course : goal.returns-in-Failed-clause-course
returns-in-Failed-clause-course g c =
    let a = c.args in
    turn_stops a.config.now a.now a.self.now c.self.inside.session c.self.inside.backlog c.send_on-sending.new.backlog c.start_second-start.result
    (g.W.Wire.told a.wire.now) (g.W.Wire.told c.send_on-sending.new.wire) (g.D.Desk.view a.desk.now) c.send_on-sending.result c.send_on-sending.ensures
    c.in_default.ensures.code (c.self.view_is ∙ c.in_default.ensures.looked) c.start_second-start.ensures (Ended Fault) (refl, refl, c.in-Failed.ensures.stops)
