use Rattle.std.proofs.Common.{◌∙◌, ap, sym}
use Rattle.std.specs.Option.{option_copied}
use Rattle.std.specs.BTreeMap.{get}
use Rattle.ch_index.proofs.Reading.{sorted_none}
use Rattle.ch_index.proofs.nest.Nest.nth.Goals as goal

pub returns-in-None-clause-ordered : goal.returns-in-None-clause-ordered
returns-in-None-clause-ordered g c =
    sorted_none g.J.Ord.cmp (get g.K.Ord.cmp c.args.self.now.maps c.args.key.now) (sym c.get.ensures.value ∙ ap option_copied c.in-None.is)
