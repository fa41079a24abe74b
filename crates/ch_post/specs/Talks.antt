-- What is said over one link: the request that is written, and the bytes that come back. (Of private functions.)
use Rattle.std.specs.Prelude.{◌≡◌, ◌⊎◌, ◌≤◌, ◌<◌, ◌++◌, ℕ, Bool, true, false, List, [], length, Some}
use Rattle.ch_io.specs.declared.counts.Counts.{Counts}
use Rattle.ch_net.specs.Links.{LinkTold, LinkMoves}
use Rattle.ch_post.specs.StatusLines.{first_line}
use Rattle.ch_post.specs.declared.seen.TheConstants.{MOST_SEEN}
use Rattle.ch_post.specs.declared.talk.TheConstants.{MOST_STALLS}

-- what the link tells, and whether the talk goes on
pub record TalkView : Type 0 where
  pub link : LinkTold
  pub goes_on : Bool

-- the link failed or ended, or asked for patience too often
abbrev pub IsStuck : Counts → Type 0
IsStuck counts = (1 ≤ counts.faults) ⊎ ((1 ≤ counts.ends) ⊎ (MOST_STALLS ≤ counts.stalls))

-- A call was to write these bytes: the first of them were written, and this is left. Nothing is left where the talk goes on, and
-- nothing was written where it didn't go on before.
pub record Writes (bytes : List ℕ) (old new : TalkView) : Type 0 where
  pub sent : List ℕ
  pub rest : List ℕ
  pub moves : LinkMoves old.link new.link [] sent
  pub front : bytes ≡ sent ++ rest
  pub whole : new.goes_on ≡ true → rest ≡ []
  pub went_on : new.goes_on ≡ true → old.goes_on ≡ true
  pub silent : old.goes_on ≡ false → sent ≡ []
  pub stuck : old.goes_on ≡ true → new.goes_on ≡ false → IsStuck new.link.counts

-- the same since the link was new
pub record HasWritten (fresh : LinkTold) (all : List ℕ) (talk : TalkView) : Type 0 where
  pub sent : List ℕ
  pub rest : List ℕ
  pub moves : LinkMoves fresh talk.link [] sent
  pub front : all ≡ sent ++ rest
  pub whole : talk.goes_on ≡ true → rest ≡ []
  pub stuck : talk.goes_on ≡ false → IsStuck talk.link.counts

-- no more is wanted: there is a first line, or as many bytes as are kept
abbrev pub IsEnough : ℕ → List ℕ → Type 0
IsEnough most seen = ((line : List ℕ) × (first_line seen ≡ Some line)) ⊎ (length seen ≡ most)

-- a call read these bytes, until there were enough or the talk got stuck; it read none where the talk didn't go on before
pub record Reads (seen : List ℕ) (old new : TalkView) : Type 0 where
  pub moves : LinkMoves old.link new.link seen []
  pub silent : old.goes_on ≡ false → seen ≡ []
  pub enough : (new.goes_on ≡ true × IsEnough MOST_SEEN seen) ⊎ ((new.goes_on ≡ false) × (old.goes_on ≡ true → IsStuck new.link.counts))

-- the talk counted no more stalls than its link, and goes on only while they are few
pub record IsPatient (link : LinkTold) (goes_on : Bool) (stalls : ℕ) : Type 0 where
  pub counted : stalls ≤ link.counts.stalls
  pub few : goes_on ≡ true → stalls < MOST_STALLS
