-- Rows, each with a name and a socket, the oldest first.
use Rattle.std.specs.Prelude.{◌≡◌, ℕ, Bool, false, not, ◌&&◌, ◌==◌, List, [], ◌∷◌, bytes_eq, filter, map}
use Rattle.std.specs.List.{list_any}
use Rattle.ch_history.specs.Texts.{ascending}

module _ {R : Type 0} (name : R → List ℕ) where
  -- those with the name c
  abbrev pub named : List R → List ℕ → List R
  named xs c = filter (λ r. bytes_eq (name r) c) xs

  -- their names, each once, ascending
  abbrev pub names : List R → List (List ℕ)
  names xs = ascending (map name xs)

  module _ (socket : R → ℕ) where
    -- whether the row has this socket and the name c
    abbrev pub is_of : ℕ → List ℕ → R → Bool
    is_of s c r = (socket r == s) && bytes_eq (name r) c

    -- whether a row has this socket and the name c
    abbrev pub has_row : List R → ℕ → List ℕ → Bool
    has_row xs s c = list_any (is_of s c) xs

    -- no socket has a name twice
    abbrev pub EachOnce : List R → Type 0
    EachOnce [] = Unit {0}
    EachOnce (r ∷ xs) = (has_row xs (socket r) (name r) ≡ false) × EachOnce xs

    -- those of the socket
    abbrev pub of_socket : List R → ℕ → List R
    of_socket xs s = filter (λ r. socket r == s) xs

    -- the names of the socket, each once, ascending
    abbrev pub names_in : List R → ℕ → List (List ℕ)
    names_in xs s = names (of_socket xs s)

    -- without the socket's with the name c
    abbrev pub without_one : List R → ℕ → List ℕ → List R
    without_one xs s c = filter (λ r. not (is_of s c r)) xs

    -- without the socket's
    abbrev pub without_all : List R → ℕ → List R
    without_all xs s = filter (λ r. not (socket r == s)) xs
