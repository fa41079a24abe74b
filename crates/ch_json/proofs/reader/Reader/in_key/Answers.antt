use Rattle.std.proofs.Common.{refl, sym, ap}
use Rattle.ch_json.specs.Machine as spec
use Rattle.ch_json.specs.Machine.{step, start, after_step, span}
use Rattle.ch_json.proofs.reader.Reader.in_key.Goals as goal

pub returns-in-Ends : goal.returns-in-Ends
unfolding step
returns-in-Ends c = λ ms room fs open_ so_far.
    (_, room, fs, ap (spec.key_outcome c.args.from ms c.args.at_key c.args.at room fs) (sym c.in-Ends.ensures), record { mode = (ms, refl, so_far); brackets = open_ })

pub returns-in-On : goal.returns-in-On
unfolding step
returns-in-On c = λ ms room fs open_ so_far.
    (_, room, fs, ap (spec.key_outcome c.args.from ms c.args.at_key c.args.at room fs) (sym c.in-On.ensures), record { mode = (ms, refl, so_far); brackets = open_ })

pub returns-in-Fault : goal.returns-in-Fault
unfolding step
returns-in-Fault c = λ ms room fs open_ so_far. (refl, ap (spec.key_outcome c.args.from ms c.args.at_key c.args.at room fs) (sym c.in-Fault.ensures))
