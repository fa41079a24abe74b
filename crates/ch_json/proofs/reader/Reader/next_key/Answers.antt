use Rattle.std.proofs.Common.{arith, refl}
use Rattle.ch_json.specs.Machine as spec
use Rattle.ch_json.specs.Machine.{step, start, after_step, span}
use Rattle.ch_json.proofs.reader.Reader.next_key.Goals as goal

pub returns-then-is_blank_byte : goal.returns-then-is_blank_byte
unfolding step
returns-then-is_blank_byte c = λ ms room fs open_ so_far. (spec.next_key c.args.from ms, room, fs, grind arith, record { mode = (ms, refl, so_far); brackets = open_ })

pub returns-then-byte-ne34 : goal.returns-then-byte-ne34
unfolding step
returns-then-byte-ne34 c = λ ms room fs open_ so_far. (refl, grind arith)

pub returns : goal.returns
unfolding step
returns c = λ ms room fs open_ so_far. (_, room, fs, grind arith, record { mode = (ms, refl, so_far); brackets = open_ })
