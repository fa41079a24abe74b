use Rattle.std.proofs.Common.{◌≡◌, ℕ, refl, sym, ◌∙◌}
use Rattle.std.specs.Prelude.{None, Some}
use Rattle.std.proofs.lemmas.Bool.{and_parts, and_from}
use Rattle.ch_history.specs.declared.limits.TheConstants.{MAX_NAME}
use Rattle.ch_history.specs.ChannelName.{is_name_byte}
use Rattle.ch_names.proofs.FaultLemmas.{no_position, no_length_fault}
use Rattle.ch_names.proofs.channel_name.kind.Goals as goal

Some_is_no_None : (n : ℕ) → Some n ≡ None → ⊥
Some_is_no_None n both = cc

pub returns-in-Some-clause-good : goal.returns-in-Some-clause-good
returns-in-Some-clause-good c = (
  λ no. absurd (cc),
  λ good.
      let none_strays = (no_position is_name_byte 0 c.args.name.now).1 (and_parts _ _ good).1 in
      let one_strays = rw c.as_bytes.ensures.value at c.in-Some.ensures in
      absurd (Some_is_no_None _ (one_strays ∙ none_strays)),
)

pub returns-in-None-clause-good : goal.returns-in-None-clause-good
returns-in-None-clause-good c = (
  λ _.
      let none_strays = rw c.as_bytes.ensures.value at c.in-None.ensures in
      and_from _ _
      ((no_length_fault MAX_NAME c.args.name.now).0 (sym c.in_ok-check_length.ensures))
      ((no_position is_name_byte 0 c.args.name.now).0 (sym none_strays)),
  λ _. refl,
)
