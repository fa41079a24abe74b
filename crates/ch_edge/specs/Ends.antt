-- What accepting and dialling answer, and the counts that rise.
use Rattle.std.specs.Prelude.{◌≡◌, ℕ}
use Rattle.ch_io.specs.Counts.{Rose, nothing_counted}
use Rattle.ch_io.specs.Known.{IsNothing}
use Rattle.ch_io.specs.declared.counts.Counts.{Counts}
use Rattle.ch_net.specs.Links.{LinkTold}
use Rattle.ch_edge.specs.declared.accept.Accepted.{Accepted}
use Rattle.ch_edge.specs.declared.accept.Accepted.TheVariants as accepted
use Rattle.ch_edge.specs.declared.dial.Dialed.{Dialed}
use Rattle.ch_edge.specs.declared.dial.Dialed.TheVariants as dialed

-- nothing was read from the link or written to it, and nothing was counted
pub record IsNewLink (link : LinkTold) : Type 0 where
  pub gave : IsNothing link.gave
  pub written : IsNothing link.written
  pub counts : link.counts ≡ nothing_counted

module _ {L : Type 0} where
  -- of a link that came in, this holds
  abbrev pub IfAccepted : Accepted L → (L → Type 0) → Type 0
  IfAccepted (accepted.Made link) P = P link
  IfAccepted _ P = Unit {0}

  -- the count that rose, where an answer needs one
  abbrev pub AcceptHasCause : Accepted L → Counts → Counts → Type 0
  AcceptHasCause (accepted.Made link) old new = Unit {0}
  AcceptHasCause accepted.NotYet old new = Rose old.stalls new.stalls
  AcceptHasCause accepted.Failed old new = Rose old.faults new.faults

  -- of a link that was dialled, this holds
  abbrev pub IfDialed : Dialed L → (L → Type 0) → Type 0
  IfDialed (dialed.Made link) P = P link
  IfDialed dialed.Failed P = Unit {0}

  -- dialling fails only where the count of faults rose
  abbrev pub DialHasCause : Dialed L → ℕ → ℕ → Type 0
  DialHasCause (dialed.Made link) old new = Unit {0}
  DialHasCause dialed.Failed old new = Rose old new
