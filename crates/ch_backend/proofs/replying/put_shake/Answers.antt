use Rattle.std.proofs.Common.{◌≡◌, ◌++◌, sym, subst}
use Rattle.std.specs.Prelude.{OnOk}
use Rattle.ch_transcript.specs.Printing.{shake_line}
use Rattle.ch_backend.proofs.replying.put_shake.Goals as goal

pub returns-in-Ok : goal.returns-in-Ok
returns-in-Ok c = record { ok = subst (λ k. OnOk c.put_switching.result (c.put_switching.new.out.items ≡ c.args.out.now.items ++ shake_line k)) (sym c.in-Ok.ensures.accepted) (c.put_switching.ensures.ok c.in-Ok.field-0.now); err = c.put_switching.ensures.err }
