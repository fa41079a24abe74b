-- The parameters of a query, by one member after another.
use Rattle.std.specs.Prelude.{List, is_some, if◌then◌else◌}
use Rattle.ch_sig.specs.Parameters.{value_of, with_param}
use Rattle.ch_sig.specs.declared.query.Param.{Param}

-- the parameters with one more member; a name that is there keeps its value
abbrev pub with_member : List Param → Param → List Param
with_member params p = if is_some (value_of params p.name) then params else with_param params p
