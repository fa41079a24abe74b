-- What moves over a wire or a link in several calls.
use Rattle.std.proofs.Common.{◌≡◌, ◌∙◌, ap, sym, refl, ℕ, List, [], ◌∷◌, ◌++◌, length, length-append}
use Rattle.std.specs.Prelude.{Option, Some}
use Rattle.ch_io.proofs.Counting.{NeverFall-then, NeverFall-none, raised-then, raised-none}
use Rattle.ch_io.proofs.Lists.{Takes-then, Adds-then, Takes-none, Adds-none}
use Rattle.ch_io.specs.Counts.{raised}
use Rattle.ch_net.specs.Links.{LinkTold, LinkMoves}
use Rattle.ch_net.specs.Wires.{WireTold, WireMoves, last_code}
use Rattle.ch_net.specs.declared.wire.Message.{Message}

last_code-then : (code : Option ℕ) (xs ys : List ℕ) → last_code (last_code code xs) ys ≡ last_code code (xs ++ ys)
last_code-then code [] ys = refl
last_code-then code (x ∷ xs) ys = last_code-then (Some x) xs ys

pub WireMoves-then : (a b c : WireTold) (messages more_messages : List Message) (texts more_texts : List (List ℕ)) (codes more_codes : List ℕ)
    → WireMoves a b messages texts codes → WireMoves b c more_messages more_texts more_codes
    → WireMoves a c (messages ++ more_messages) (texts ++ more_texts) (codes ++ more_codes)
WireMoves-then a b c ms ns ts us ks ls p q = record {
  left = Takes-then a.left b.left c.left ms ns p.left q.left;
  sent = Adds-then a.sent b.sent c.sent ts us p.sent q.sent;
  closes = q.closes ∙ ap (λ n. raised n (length ls)) p.closes ∙ raised-then a.closes (length ks) (length ls) ∙ ap (raised a.closes) (sym (length-append ks ls));
  code = q.code ∙ ap (λ k. last_code k ls) p.code ∙ last_code-then a.code ks ls;
  counts = NeverFall-then a.counts b.counts c.counts p.counts q.counts;
}

pub WireMoves-none : (a : WireTold) → WireMoves a a [] [] []
WireMoves-none a = record { left = Takes-none a.left; sent = Adds-none a.sent; closes = raised-none a.closes; code = refl; counts = NeverFall-none a.counts }

pub LinkMoves-then : (a b c : LinkTold) (reads more_reads writes more_writes : List ℕ)
    → LinkMoves a b reads writes → LinkMoves b c more_reads more_writes
    → LinkMoves a c (reads ++ more_reads) (writes ++ more_writes)
LinkMoves-then a b c rs ss ws xs p q = record {
  left = Takes-then a.left b.left c.left rs ss p.left q.left;
  gave = Adds-then a.gave b.gave c.gave rs ss p.gave q.gave;
  written = Adds-then a.written b.written c.written ws xs p.written q.written;
  counts = NeverFall-then a.counts b.counts c.counts p.counts q.counts;
}

pub LinkMoves-none : (a : LinkTold) → LinkMoves a a [] []
LinkMoves-none a = record { left = Takes-none a.left; gave = Adds-none a.gave; written = Adds-none a.written; counts = NeverFall-none a.counts }
