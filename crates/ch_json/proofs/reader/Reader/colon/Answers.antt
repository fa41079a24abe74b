use Rattle.std.proofs.Common.{arith, refl, ◌∷◌}
use Rattle.ch_json.specs.Machine as spec
use Rattle.ch_json.specs.Machine.{step}
use Rattle.ch_json.specs.Entries.{span_of}
use Rattle.ch_json.proofs.Follow.{memory_follows, push_object}
use Rattle.ch_json.proofs.reader.Reader.colon.Goals as goal

pub returns-then-is_blank_byte : goal.returns-then-is_blank_byte
unfolding step
returns-then-is_blank_byte c = λ ms room fs open_ so_far. (spec.colon c.args.from ms (span_of c.args.key), room, fs, grind arith, record { mode = (ms, refl, so_far); brackets = open_ })

pub returns-then-byte-ne58 : goal.returns-then-byte-ne58
unfolding step
returns-then-byte-ne58 c = λ ms room fs open_ so_far. (refl, grind arith)

pub returns-in_err-push : goal.returns-in_err-push
returns-in_err-push c = λ ms room fs open_ so_far. memory_follows c.args.at c.from_residual.result _ _ c.from_residual.ensures.1

pub returns : goal.returns
unfolding step
returns c = λ ms room fs open_ so_far. (spec.value, room, spec.in_object c.args.from ms (span_of c.args.key) ∷ fs, grind arith, record { mode = refl; brackets = push_object c.args.self.now _ _ c.args.from ms (span_of c.args.key) room fs refl c.in_ok-push.ensures.items (refl, refl, so_far) open_ })
