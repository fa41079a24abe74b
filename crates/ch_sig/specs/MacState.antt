-- what a `Mac` has taken in
use Rattle.std.specs.Prelude.{ℕ, List, ◌++◌}
use Rattle.sha2.specs.Hashers.{Holds256}
use Rattle.ch_sig.specs.Hmac.{key_block, padded}
use Rattle.ch_sig.specs.declared.hmac.Mac.{Mac}
use Rattle.ch_sig.specs.declared.hmac.TheConstants.{INNER_PAD, OUTER_PAD}

-- it stands for this message under this secret
abbrev pub MacHolds : Mac → List ℕ → List ℕ → Type 0
MacHolds mac secret message =
    Holds256 mac.inner (padded INNER_PAD (key_block secret) ++ message)
    × Holds256 mac.outer (padded OUTER_PAD (key_block secret))
