-- What counts the steps of a script.
use Rattle.ch_io.specs.Counts.{Rose}
use Rattle.ch_io.specs.declared.counts.Counts.{Counts}
use Rattle.ch_net.specs.declared.script.Step.{Step}
use Rattle.ch_net.specs.declared.script.Step.TheVariants as step

-- the count that rose, where a step needs one
abbrev pub StepHasCause : Step → Counts → Counts → Type 0
StepHasCause step.Goes old new = Unit {0}
StepHasCause step.Stalls old new = Rose old.stalls new.stalls
StepHasCause step.Fails old new = Rose old.faults new.faults
