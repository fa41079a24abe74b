-- What a post tells of itself, and what a call does to that.
use Rattle.std.specs.Prelude.{ℕ, List, [], ◌∷◌, take, Option}
use Rattle.ch_io.specs.Known.{Adds}
use Rattle.ch_io.specs.declared.post.Handed.{Handed}
use Rattle.ch_io.specs.declared.post.Posted.{Posted}
use Rattle.ch_io.specs.declared.post.Posted.TheVariants as posted

-- what the posts were handed, where it is known, the answer of the last one, and the count of faults
pub record PostTold : Type 0 where
  pub handed : Option (List Handed)
  pub last : Option Posted
  pub faults : ℕ

-- a post that has an answer was handed this, and one that failed this or nothing
abbrev pub HandsOver : Posted → Handed → Option (List Handed) → Option (List Handed) → Type 0
HandsOver (posted.Status status) item old new = Adds old new (item ∷ [])
HandsOver posted.Failed item old new = (n : ℕ) × Adds old new (take n (item ∷ []))
