-- The members of a query (URL Standard, section 5; Pusher Channels documentation, HTTP API, "Authentication").
use Rattle.std.specs.Prelude.{ℕ, Bool, false, ◌||◌, List, [], ◌∷◌, map, bytes_eq, is_some, if◌then◌else◌}
use Rattle.std.specs.List.{list_any}
use Rattle.std.specs.Str.{str_to_ascii_lowercase}
use Rattle.form_urlencoded.specs.Form.{raw_pairs}
use Rattle.ch_sig.specs.Parameters.{value_of, with_param}
use Rattle.ch_sig.specs.declared.query.Param.{Param}
use Rattle.ch_protocol.specs.Targets.{form_text}

-- a member, decoded, with its name in lower case
abbrev pub param_of : List ℕ × List ℕ → Param
param_of p = record { name = str_to_ascii_lowercase (form_text p.0); value = form_text p.1 }

-- the members in order
abbrev pub members_of : List ℕ → List Param
members_of query = map param_of (raw_pairs query)

-- the parameters with more members; a name that is there keeps its value
abbrev pub with_members : List Param → List Param → List Param
with_members params [] = params
with_members params (p ∷ more) =
    with_members (if is_some (value_of params p.name) then params else with_param params p) more

-- the parameters of a query, ascending by name, each name with its first value
abbrev pub params_of : List ℕ → List Param
params_of query = with_members [] (members_of query)

-- whether a name stands twice
abbrev pub has_double : List Param → Bool
has_double [] = false
has_double (p ∷ ps) = list_any (λ q. bytes_eq q.name p.name) ps || has_double ps
