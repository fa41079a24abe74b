-- Where a caller is alone nothing lies between its calls, so each is answered as the definitions say, at once.
use Rattle.std.specs.Prelude.{◌≡◌, ◌<◌, ℕ, List, All}
use Rattle.ch_protocol.specs.Asks.{Asked, asks_of, came_of}
use Rattle.ch_protocol.specs.Shards.{Shards, after_asks, made_of_all}
use Rattle.ch_desk.specs.OwnEntries.{AreBy, IsAnswered, Makes}
use Rattle.ch_desk.specs.Views.{DeskView, IsLegalDesk}

-- it is the desk of caller 0, no other ever called on its shards, and each list is a legal history
pub record IsAlone (desk : DeskView) : Type 0 where
  pub caller : desk.caller ≡ 0
  pub chans : (k : ℕ) → AreBy 0 (desk.chans k)
  pub users : (k : ℕ) → AreBy 0 (desk.users k)
  pub legal : IsLegalDesk desk

-- the lists of the desk's shards are these
pub record IsAt (desk : DeskView) (shards : Shards) : Type 0 where
  pub chans : (k : ℕ) → k < desk.chan_shards → desk.chans k ≡ shards.chans k
  pub users : (k : ℕ) → k < desk.user_shards → desk.users k ≡ shards.users k

-- what came of the asks is what the definitions say of asks that are made one after another on these shards, and so are
-- the desk's lists then
pub record ComesAlone (asked : List Asked) (new : DeskView) (shards : Shards) : Type 0 where
  pub came : came_of asked ≡ made_of_all shards (asks_of asked)
  pub lists : IsAt new (after_asks shards (asks_of asked))

-- asks that a caller made which was alone
abbrev pub CallsAlone : Type 0
CallsAlone = (asked : List Asked) (old new : DeskView) (shards : Shards) → Makes asked old new → All IsAnswered asked → IsAlone new
    → IsAt old shards → ComesAlone asked new shards

-- who is alone after some calls was alone before them
abbrev pub AloneBefore : Type 0
AloneBefore = (asked : List Asked) (old new : DeskView) → Makes asked old new → IsAlone new → IsAlone old
