use Rattle.ch_config_text.proofs.Computed as shown
use Rattle.ch_config_text.proofs.built_in.built_in_text.Goals as goal

pub returns-clause-reads : goal.returns-clause-reads
returns-clause-reads c = shown.spells_built_in
