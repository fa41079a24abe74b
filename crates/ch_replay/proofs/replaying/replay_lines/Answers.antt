use Rattle.std.proofs.Common.{◌≡◌, ◌≤◌, ◌∙◌, ℕ, List, subst, arith}
use Rattle.ch_config.specs.declared.config.Config.{Config}
use Rattle.ch_io.specs.Counts.{Rose}
use Rattle.ch_transcript.specs.Outcomes.{Plays}
use Rattle.ch_player.specs.Playing.{config_of}
use Rattle.ch_replay.specs.Serving.{Serves, Stops}
use Rattle.ch_replay.proofs.Naming.{Runs-names, Runs-names_last, Runs-names_long}
use Rattle.ch_replay.proofs.Running.{Runs-line, Runs-ended, Runs-failed, Runs-memory, Runs-last, Runs-stop, Runs-stop_last, Runs-long, Runs-smaller, no_read_failed, nothing_ran}
use Rattle.ch_replay.proofs.replaying.replay_lines.Goals as goal

earlier : (a b d : ℕ) → a ≤ b → Rose b d → Rose a d
earlier a b d h r = omega arith

-- by an equal configuration, of an equal line
by_both : (P : Config → List ℕ → Type 0) {a b : Config} {x y : List ℕ} → a ≡ b → x ≡ y → P a x → P b y
by_both P {a} {b} {x} {y} same_config same_line h =
    let Q : List ℕ → Type 0 = λ z. P a z in
    let R : Config → Type 0 = λ k. P k y in
    subst R same_config (subst Q same_line h)

pub returns-in_default-clause-ran : goal.returns-in_default-clause-ran
returns-in_default-clause-ran g c = nothing_ran c.args.config _ _ _

pub lines-smaller : goal.lines-smaller
lines-smaller g c = Runs-smaller c.in-Whole.ensures.gives

pub lines-preserved : goal.lines-preserved
lines-preserved g c =
    let r = c.lines.invariant.runs in
    let P : Config → List ℕ → Type 0 = λ k z. Serves c.serve.new.player (g.K.Sink.told c.lines.sink) (g.K.Sink.told c.serve.new.sink) (Plays k r.p z) in
    record {
      runs = Runs-line r c.in-Whole.ensures.gives (by_both P c.lines.invariant.over c.as_slice.ensures.value (c.in-Ok-serve.ensures.serves r.p r.is));
      sound = c.in-Ok-serve.ensures.sound;
      over = c.in-Ok-serve.ensures.over ∙ c.lines.invariant.over;
      read = omega (arith, c.lines.invariant.read, c.in-Whole.ensures.later);
      wrote = omega (arith, c.lines.invariant.wrote, c.in-Ok-serve.ensures.later);
    }

pub returns-in-Err-clause-ran : goal.returns-in-Err-clause-ran
returns-in-Err-clause-ran g c =
    let r = c.lines.invariant.runs in
    let P : Config → List ℕ → Type 0 = λ k z. Stops c.in-Err.ending (g.K.Sink.told c.lines.sink) (g.K.Sink.told c.serve.new.sink) (Plays k r.p z) in
    Runs-stop _ _ (earlier _ (g.K.Sink.faults c.serve.new.sink) _ (omega (arith, c.lines.invariant.wrote, c.in-Err.ensures.later))) r c.in-Whole.ensures.gives c.in-Err.ending c.end_at.result
    (by_both P c.lines.invariant.over c.as_slice.ensures.value (c.in-Err.ensures.serves r.p r.is)) c.end_at.ensures.ends

pub returns-in-Ended-clause-ran : goal.returns-in-Ended-clause-ran
returns-in-Ended-clause-ran g c = Runs-ended c.lines.invariant.runs c.in-Ended.ensures.gives

pub returns-in-Long-clause-ran : goal.returns-in-Long-clause-ran
returns-in-Long-clause-ran g c =
    Runs-long _ (earlier _ (g.K.Sink.faults c.lines.sink) _ c.lines.invariant.wrote) c.lines.invariant.runs c.in-Long.ensures.gives c.end_at-in-Long.result c.end_at-in-Long.ensures.ends

pub returns-in-Failed-clause-ran : goal.returns-in-Failed-clause-ran
returns-in-Failed-clause-ran g c = Runs-failed c.lines.invariant.runs c.in-Failed.ensures.gives

pub returns-in-Memory-clause-ran : goal.returns-in-Memory-clause-ran
returns-in-Memory-clause-ran g c = Runs-memory c.lines.invariant.runs c.in-Memory.ensures.gives

pub returns-in-Ok-serve-2-clause-ran : goal.returns-in-Ok-serve-2-clause-ran
returns-in-Ok-serve-2-clause-ran g c =
    let r = c.lines.invariant.runs in
    let P : Config → List ℕ → Type 0 = λ k z. Serves c.serve-in-Last.new.player (g.K.Sink.told c.lines.sink) (g.K.Sink.told c.serve-in-Last.new.sink) (Plays k r.p z) in
    Runs-last r c.in-Last.ensures.gives (by_both P c.lines.invariant.over c.as_slice-in-Last.ensures.value (c.in-Ok-serve-2.ensures.serves r.p r.is))

pub returns-in-Err-serve-clause-ran : goal.returns-in-Err-serve-clause-ran
returns-in-Err-serve-clause-ran g c =
    let r = c.lines.invariant.runs in
    let P : Config → List ℕ → Type 0 = λ k z. Stops c.in-Err-serve.ending (g.K.Sink.told c.lines.sink) (g.K.Sink.told c.serve-in-Last.new.sink) (Plays k r.p z) in
    Runs-stop_last _ _ (earlier _ (g.K.Sink.faults c.serve-in-Last.new.sink) _ (omega (arith, c.lines.invariant.wrote, c.in-Err-serve.ensures.later))) r c.in-Last.ensures.gives c.in-Err-serve.ending c.end_at-in-Err-serve.result
    (by_both P c.lines.invariant.over c.as_slice-in-Last.ensures.value (c.in-Err-serve.ensures.serves r.p r.is)) c.end_at-in-Err-serve.ensures.ends

pub returns-in-Err-clause-read_fault : goal.returns-in-Err-clause-read_fault
returns-in-Err-clause-read_fault g c =
    let r = c.lines.invariant.runs in
    λ is. absurd (no_read_failed _ _ (Plays (config_of c.lines.player) r.p c.as_slice.result.now) c.in-Err.ending c.end_at.result c.end_at.ensures.only (c.in-Err.ensures.serves r.p r.is) is)

pub returns-in-Err-serve-clause-read_fault : goal.returns-in-Err-serve-clause-read_fault
returns-in-Err-serve-clause-read_fault g c =
    let r = c.lines.invariant.runs in
    λ is. absurd (no_read_failed _ _ (Plays (config_of c.lines.player) r.p c.as_slice-in-Last.result.now) c.in-Err-serve.ending c.end_at-in-Err-serve.result c.end_at-in-Err-serve.ensures.only (c.in-Err-serve.ensures.serves r.p r.is) is)

pub returns-in-Err-clause-named : goal.returns-in-Err-clause-named
returns-in-Err-clause-named g c =
    let r = c.lines.invariant.runs in
    let P : Config → List ℕ → Type 0 = λ k z. Stops c.in-Err.ending (g.K.Sink.told c.lines.sink) (g.K.Sink.told c.serve.new.sink) (Plays k r.p z) in
    Runs-names g.K.Sink.told g.K.Sink.faults _ c.lines.sink c.serve.new.sink _ (omega (arith, c.lines.invariant.wrote, c.in-Err.ensures.later)) r c.in-Whole.ensures.gives c.in-Err.ending c.end_at.result
    (by_both P c.lines.invariant.over c.as_slice.ensures.value (c.in-Err.ensures.serves r.p r.is)) c.end_at.ensures.ends

pub returns-in-Long-clause-named : goal.returns-in-Long-clause-named
returns-in-Long-clause-named g c =
    Runs-names_long g.K.Sink.told g.K.Sink.faults _ c.lines.sink _ c.lines.invariant.wrote c.lines.invariant.runs c.in-Long.ensures.gives c.end_at-in-Long.result c.end_at-in-Long.ensures.ends

pub returns-in-Err-serve-clause-named : goal.returns-in-Err-serve-clause-named
returns-in-Err-serve-clause-named g c =
    let r = c.lines.invariant.runs in
    let P : Config → List ℕ → Type 0 = λ k z. Stops c.in-Err-serve.ending (g.K.Sink.told c.lines.sink) (g.K.Sink.told c.serve-in-Last.new.sink) (Plays k r.p z) in
    Runs-names_last g.K.Sink.told g.K.Sink.faults _ c.lines.sink c.serve-in-Last.new.sink _ (omega (arith, c.lines.invariant.wrote, c.in-Err-serve.ensures.later)) r c.in-Last.ensures.gives c.in-Err-serve.ending c.end_at-in-Err-serve.result
    (by_both P c.lines.invariant.over c.as_slice-in-Last.ensures.value (c.in-Err-serve.ensures.serves r.p r.is)) c.end_at-in-Err-serve.ensures.ends
