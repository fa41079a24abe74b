use Rattle.std.proofs.Common.{◌∙◌, ◌++◌, refl, ap, arith}
use Rattle.ch_history.specs.Held.{due, not_due, vacated_events}
use Rattle.ch_cache.specs.Latest.{latest_in}
use Rattle.ch_outbox.specs.Outbox.{frames_of}
use Rattle.ch_shard.specs.Moves.{Released}
use Rattle.ch_shard.specs.Parts.{Parts, IsUnchanged}
use Rattle.ch_shard.proofs.Simulation.{Holds-moves, Holds-unchanged, Released-none, Moves-as}
use Rattle.ch_shard.proofs.TakeSteps.{takes_frames, none_due}
use Rattle.ch_shard.proofs.channels.Channels.serve.Goals as goal

pub returns-in-Take-clause-stands : goal.returns-in-Take-clause-stands
returns-in-Take-clause-stands c = λ h clocked stands.
    let new : Parts = c.take.new.self in
    let none = none_due h c.args.now c.args.call.now new.held c.in-Take.is clocked (c.take.ensures.held ∙ stands.held) in
    Holds-moves c.args.self.now new new h c.args.now _ c.requires.caller c.requires.formed clocked stands
    (Moves-as c.args.self.now new c.args.now c.args.caller _ _ c.take.result c.in-Take.is (takes_frames c.args.self.now new c.args.now c.args.caller c.take.result c.take.ensures))
    (Released-none new c.args.now none)

pub returns-in_ok-answer-in_default : goal.returns-in_ok-answer-in_default
returns-in_ok-answer-in_default c =
    let reserved : Parts = record {
      subs = c.self.inside.subs;
      cache = c.self.inside.cache;
      outbox = c.self.inside.outbox;
      log = c.reserve.new.self.hooks;
      held = c.reserve.new.self.held;
      spare = c.reserve.new.self.spare;
    } in
    let room_alone : IsUnchanged c.args.self.now reserved = record {
      subs = ap (λ (k : Parts). k.subs) c.self.view_is;
      latest = λ d at. ap (λ (k : Parts). latest_in k.cache d at) c.self.view_is;
      frames = λ w. ap (λ (k : Parts). frames_of k.outbox w) c.self.view_is;
      log = c.reserve.ensures.hooks ∙ ap (λ (k : Parts). k.log) c.self.view_is;
      held = c.reserve.ensures.held ∙ ap (λ (k : Parts). k.held) c.self.view_is;
      spare = let before = ap (λ (k : Parts). k.spare) c.self.view_is in omega (arith, before, c.reserve.ensures.spare);
    } in
    let released : Released c.answer.new.self _ c.args.now = record {
      subs = ap (λ (k : Parts). k.subs) c.self-in_default.view_is;
      latest = λ d at. ap (λ (k : Parts). latest_in k.cache d at) c.self-in_default.view_is;
      frames = λ w. ap (λ (k : Parts). frames_of k.outbox w) c.self-in_default.view_is;
      log = c.release.ensures.hooks ∙ ap (λ (k : Parts). k.log ++ vacated_events (due c.args.now k.held)) c.self-in_default.view_is;
      held = c.release.ensures.held ∙ ap (λ (k : Parts). not_due c.args.now k.held) c.self-in_default.view_is;
    } in
    record {
      stands = λ h clocked stands.
          Holds-moves reserved c.answer.new.self _ h c.args.now _ c.requires.caller c.requires.formed clocked
          (Holds-unchanged c.args.self.now reserved h stands room_alone) c.in_ok-answer-in_default.ensures.moves released;
      take = λ is. refl;
      kind = c.in_ok-answer-in_default.ensures.kind;
    }
