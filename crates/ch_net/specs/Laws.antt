-- What several calls on a wire or a link do, one after another.
use Rattle.std.specs.Prelude.{ℕ, List, [], ◌++◌}
use Rattle.ch_net.specs.Links.{LinkTold, LinkMoves}
use Rattle.ch_net.specs.Wires.{WireTold, WireMoves}
use Rattle.ch_net.specs.declared.wire.Message.{Message}

-- what several calls on a wire do is what each does, joined; where there was none, nothing moved
pub record WiresLaw : Type 0 where
  pub chain : (a b c : WireTold) (messages more_messages : List Message) (texts more_texts : List (List ℕ)) (codes more_codes : List ℕ)
      → WireMoves a b messages texts codes → WireMoves b c more_messages more_texts more_codes
      → WireMoves a c (messages ++ more_messages) (texts ++ more_texts) (codes ++ more_codes)
  pub stay : (a : WireTold) → WireMoves a a [] [] []

-- what several calls on a link do is what each does, joined; where there was none, nothing moved
pub record LinksLaw : Type 0 where
  pub chain : (a b c : LinkTold) (reads more_reads writes more_writes : List ℕ)
      → LinkMoves a b reads writes → LinkMoves b c more_reads more_writes
      → LinkMoves a c (reads ++ more_reads) (writes ++ more_writes)
  pub stay : (a : LinkTold) → LinkMoves a a [] []
