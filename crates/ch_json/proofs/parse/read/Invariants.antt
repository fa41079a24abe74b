use Rattle.std.proofs.Common.{◌≡◌, ℕ, List, take}
use Rattle.ch_base.specs.declared.limits.TheConstants.{MAX_DEPTH}
use Rattle.ch_json.specs.Machine as spec
use Rattle.ch_json.specs.Machine.{run, begin, go}
use Rattle.ch_json.specs.ReaderView.{Sees}
use Rattle.ch_json.proofs.parse.read.Given as goal

abbrev pub invariant-loop-i : goal.invariant-loop-i
invariant-loop-i l = (m : spec.Mode) × (room : ℕ) × (fs : List spec.Frame) × (run (begin MAX_DEPTH) 0 (take l.i l.text) ≡ go m room fs) × Sees l.reader l.mode m room fs
