-- What a post over a link did.
use Rattle.std.specs.Prelude.{◌≡◌, ◌⊎◌, ◌++◌, ℕ, List, [], length, Option, Some, None}
use Rattle.ch_edge.specs.Ends.{IsNewLink}
use Rattle.ch_io.specs.Counts.{Rose}
use Rattle.ch_io.specs.declared.post.Handed.{Handed}
use Rattle.ch_io.specs.declared.post.Posted.{Posted}
use Rattle.ch_io.specs.declared.post.Posted.TheVariants.{Status, Failed}
use Rattle.ch_net.specs.Links.{LinkTold, LinkMoves}
use Rattle.ch_post.specs.Requests.{request_text}
use Rattle.ch_post.specs.StatusLines.{first_line, status_in}
use Rattle.ch_post.specs.Talks.{IsStuck}
use Rattle.ch_post.specs.declared.seen.TheConstants.{MOST_SEEN}

-- what stands before the key in each request, the link of the last post and the bytes that were read from it, the answer of the
-- last post, and the counts of faults of the post and of what dials
pub record LinkPostView : Type 0 where
  pub front : List ℕ
  pub link : Option LinkTold
  pub seen : List ℕ
  pub last : Option Posted
  pub faults : ℕ
  pub dial_faults : ℕ

-- no first line came: the link was stuck, or gave as many bytes as are kept
abbrev pub HasNoLine : LinkTold → List ℕ → Type 0
HasNoLine link seen = (first_line seen ≡ None) × (IsStuck link.counts ⊎ (length seen ≡ MOST_SEEN))

-- the first line is no status line
abbrev pub HasOtherLine : List ℕ → Type 0
HasOtherLine seen = (line : List ℕ) × (first_line seen ≡ Some line) × (status_in line ≡ None)

-- the answer is told by the first line: its status; or there is none, or none in it
abbrev pub Answers : List ℕ → Posted → Type 0
Answers seen (Status status) = (line : List ℕ) × (first_line seen ≡ Some line) × (status_in line ≡ Some status)
Answers seen Failed = (first_line seen ≡ None) ⊎ HasOtherLine seen

-- a status is that of the first line, and nothing is left of the request; a failure has its cause
abbrev pub TellsAnswer : List ℕ → LinkTold → List ℕ → Posted → Type 0
TellsAnswer rest link seen (Status status) =
    (rest ≡ []) × ((line : List ℕ) × (first_line seen ≡ Some line) × (status_in line ≡ Some status))
TellsAnswer rest link seen Failed = HasNoLine link seen ⊎ HasOtherLine seen

-- The talk over a link that was new: these bytes were read, this much of the request was written, and this is left of it.
pub record Talks (request : List ℕ) (link : LinkTold) (seen : List ℕ) (result : Posted) : Type 0 where
  pub fresh : LinkTold
  pub new : IsNewLink fresh
  pub sent : List ℕ
  pub moves : LinkMoves fresh link seen sent
  pub rest : List ℕ
  pub front : request ≡ sent ++ rest
  pub answer : TellsAnswer rest link seen result

-- dialling failed, or there was a talk over a new link
abbrev pub HasPosted : LinkPostView → LinkPostView → Handed → Posted → Type 0
HasPosted old new item result =
    ((new.link ≡ None) × (new.seen ≡ []) × (result ≡ Failed) × Rose old.dial_faults new.dial_faults)
    ⊎ ((link : LinkTold) × (new.link ≡ Some link) × Talks (request_text old.front item) link new.seen result)
