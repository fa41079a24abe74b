-- The frames that wait for each owner, and for how many more there is room.
use Rattle.std.specs.Prelude.{◌≡◌, ◌≢◌, ℕ, ◌+◌, ◌++◌, ◌∷◌, [], List, slice_index_or}
use Rattle.ch_base.specs.declared.frame.FrameFor.{FrameFor}

-- the frames that wait for one owner, and its spare room
pub record Waiting : Type 0 where
  pub frames : List FrameFor
  pub spare : ℕ

-- what an owner has that nothing was reserved for
abbrev pub none_waiting : Waiting
none_waiting = record { frames = []; spare = 0 }

-- what the owner has
abbrev pub row_of : List Waiting → ℕ → Waiting
row_of rows owner = slice_index_or rows owner none_waiting

-- the frames that wait for the owner, the oldest first
abbrev pub frames_of : List Waiting → ℕ → List FrameFor
frames_of rows owner = (row_of rows owner).frames

-- for how many more frames of the owner there is room
abbrev pub spare_of : List Waiting → ℕ → ℕ
spare_of rows owner = (row_of rows owner).spare

-- the item is added at the end of the owner's frames and takes one spare place; other owners have what they had
pub record Puts (old new : List Waiting) (owner : ℕ) (item : FrameFor) : Type 0 where
  pub frames : frames_of new owner ≡ frames_of old owner ++ item ∷ []
  pub spare : spare_of new owner + 1 ≡ spare_of old owner
  pub others : (w : ℕ) → w ≢ owner → row_of new w ≡ row_of old w
