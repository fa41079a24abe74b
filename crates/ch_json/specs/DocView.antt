-- What contracts see of a `Doc`.
use Rattle.std.specs.Prelude.{map}
use Rattle.ch_json.specs.Document.{Document}
use Rattle.ch_json.specs.Entries.{held}
use Rattle.ch_json.specs.declared.doc.Doc.TheInside.{Inside}

abbrev pub document_of : Inside → Document
document_of d = record { nodes = map held d.entries.items; top = d.top }
