-- What may come of an ask, and the asks that were made.
use Rattle.ch_history.specs.AnswerKinds.{IsAnswerTo, IsUserAnswerTo}
use Rattle.std.specs.Prelude.{List, map}
use Rattle.ch_protocol.specs.declared.ask.Ask.{Ask}
use Rattle.ch_protocol.specs.declared.ask.Ask.TheVariants.{Chan, User}
use Rattle.ch_protocol.specs.declared.ask.Made.{Made}
use Rattle.ch_protocol.specs.declared.ask.Made.TheVariants as made

-- this may come of the ask: an answer of its call, or want of memory
abbrev pub ComesOf : Ask → Made → Type 0
ComesOf ask made.Memory = Unit {0}
ComesOf (Chan shard call) (made.Chan answer) = IsAnswerTo call answer
ComesOf (User shard call) (made.User answer) = IsUserAnswerTo call answer
ComesOf _ _ = ⊥

-- an ask that was made, and what came of it
pub record Asked : Type 0 where
  pub ask : Ask
  pub came : Made

-- the asks alone
abbrev pub asks_of : List Asked → List Ask
asks_of asked = map (λ x. x.ask) asked

-- what came of them alone
abbrev pub came_of : List Asked → List Made
came_of asked = map (λ x. x.came) asked
