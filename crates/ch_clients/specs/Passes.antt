-- A pass over a list: each element has its turn, and comes to those that stand in its place then. (Of private functions.)
use Rattle.std.specs.Prelude.{◌≡◌, ◌+◌, ◌++◌, ℕ, List, length, map, take, drop, Some, slice_get}
use Rattle.std.specs.List.{flat_map}
use Rattle.ch_clients.specs.Answers.{strongest}
use Rattle.ch_clients.specs.InTurn.{InTurn}
use Rattle.ch_clients.specs.declared.answer.WorkerTurn.{WorkerTurn}
use Rattle.ch_clients.specs.declared.next.Next.{Next}

module _ {A : Type 0} where
  -- these stand in the place of the element at a place
  abbrev pub replaced : ℕ → List A → List A → List A
  replaced place these xs = take place xs ++ (these ++ drop (place + 1) xs)

module _ {A B S : Type 0} where
  -- the element at a place had its turn, of which this came; P says what a turn is, and keeps who stands in the place then
  pub record HasTurn (P : A → B → S → S → Type 0) (keeps : B → List A) (part_of : B → WorkerTurn)
      (place : ℕ) (xs xs_new : List A) (old new : S) (y : B) (next : Next) : Type 0 where
    pub x : A
    pub there : slice_get xs place ≡ Some x
    pub turn : P x y old new
    pub replaced : xs_new ≡ replaced place (keeps y) xs
    pub part : next.part ≡ part_of y
    pub follows : next.place ≡ place + length (keeps y)

  -- the elements before a place are what is left of those that had their turn, and the rest still wait for it
  pub record HasPassed (P : A → B → S → S → Type 0) (keeps : B → List A) (part_of : B → WorkerTurn)
      (old xs : List A) (before now : S) (ys : List B) (place : ℕ) (part : WorkerTurn) : Type 0 where
    pub done : List A
    pub rest : List A
    pub split : old ≡ done ++ rest
    pub turns : InTurn P done ys before now
    pub is : xs ≡ flat_map keeps ys ++ rest
    pub at : place ≡ length (flat_map keeps ys)
    pub comes : part ≡ strongest (map part_of ys)
