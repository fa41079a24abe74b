-- Bytes that a link in memory gives in pieces.
use Rattle.std.proofs.Common.{◌≡◌, ℕ, ◌+◌, List, [], ◌++◌, append-nil, length, take, drop, sym, arith}
use Rattle.std.proofs.Math.Seq.{take-add, take-append_seam}
use Rattle.std.proofs.lemmas.Grind.{common_steps}
use Rattle.std.proofs.lemmas.List.{take-append-drop}
use Rattle.std.specs.Prelude.{Some}
use Rattle.ch_io.specs.Counts.{NeverFall}
use Rattle.ch_io.specs.declared.counts.Counts.{Counts}
use Rattle.ch_net.specs.Links.{LinkTold, LinkMoves}

next_left : (n at : ℕ) (bytes copied old : List ℕ) → copied ≡ take n (drop at bytes) → length copied ≡ n
    → drop at bytes ≡ take n (copied ++ old) ++ drop (at + n) bytes
next_left n at bytes copied old is len = Prim.grind (arith, common_steps, take-append-drop n (drop at bytes), take-append_seam copied old)

next_given : (n at : ℕ) (bytes copied old : List ℕ) → copied ≡ take n (drop at bytes) → length copied ≡ n
    → take (at + n) bytes ≡ take at bytes ++ take n (copied ++ old)
next_given n at bytes copied old is len = Prim.grind (arith, common_steps, take-add at n bytes, take-append_seam copied old)

-- what a link in memory tells
abbrev pub link_at : (at : ℕ) (bytes written : List ℕ) (counts : Counts) → LinkTold
link_at at bytes written counts = record { left = Some (drop at bytes); gave = Some (take at bytes); written = Some written; counts = counts }

pub read_moves : (n at : ℕ) (bytes copied old written : List ℕ) (k l : Counts) → NeverFall k l → copied ≡ take n (drop at bytes) → length copied ≡ n
    → LinkMoves (link_at at bytes written k) (link_at (at + n) bytes written l) (take n (copied ++ old)) []
read_moves n at bytes copied old written k l later is len = record {
  left = next_left n at bytes copied old is len;
  gave = next_given n at bytes copied old is len;
  written = sym (append-nil written);
  counts = later;
}
