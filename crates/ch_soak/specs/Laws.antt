-- What holds of every soak.
use Rattle.std.specs.Prelude.{◌≤◌}
use Rattle.ch_config.specs.Config.{built_in}
use Rattle.ch_replay.specs.Playable.{IsPlayable}
use Rattle.ch_soak.specs.declared.limits.TheConstants.{MOST_LINES}
use Rattle.ch_soak.specs.Generator.{transcript}
use Rattle.ch_soak.specs.declared.words.Soak.{Soak}

-- no line of the transcript is refused, whichever outcome it has
abbrev pub EachIsPlayable : Type 0
EachIsPlayable = (soak : Soak) → soak.lines ≤ MOST_LINES → IsPlayable built_in (transcript soak)
