use Rattle.ch_json.specs.Entries.{span_of}
use Rattle.ch_json.proofs.PartsOf.{part_cuttable}
use Rattle.ch_json.proofs.span.Span.part.Goals as goal

pub range-requires-clause-start_le_end : goal.range-requires-clause-start_le_end
range-requires-clause-start_le_end c = (part_cuttable c.args.text.now (span_of c.args.self) c.utf8.text c.requires).order

pub range-requires-clause-end_boundary : goal.range-requires-clause-end_boundary
range-requires-clause-end_boundary c = (part_cuttable c.args.text.now (span_of c.args.self) c.utf8.text c.requires).end
