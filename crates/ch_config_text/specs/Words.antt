-- The texts that name an app and its secret.
use Rattle.std.specs.Prelude.{ℕ, Bool, ◌&&◌, nat_le, List, length}
use Rattle.std.specs.List.{list_all}
use Rattle.std.specs.Char.{is_ascii_alphanumeric}
use Rattle.ch_config.specs.declared.limits.TheConstants.{LONGEST_WORD, LONGEST_SECRET}

-- 1 to `LONGEST_WORD` letters or digits
abbrev pub is_word : List ℕ → Bool
is_word text = nat_le 1 (length text) && nat_le (length text) LONGEST_WORD && list_all is_ascii_alphanumeric text

-- 1 to `LONGEST_SECRET` bytes
abbrev pub is_secret : List ℕ → Bool
is_secret text = nat_le 1 (length text) && nat_le (length text) LONGEST_SECRET
