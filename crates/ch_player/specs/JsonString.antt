-- A text that is a JSON string, from quote to quote.
use Rattle.std.specs.Prelude.{ℕ, Bool, false, ◌&&◌, ◌==◌}
use Rattle.ch_base.specs.JsonTree.{Tree, plain, string}

-- the value is a string that stands from the first byte of a text of this length to the last
abbrev pub is_whole_string : ℕ → Tree → Bool
is_whole_string n (plain string s) = (s.from == 0) && (s.to == n)
is_whole_string n _ = false
