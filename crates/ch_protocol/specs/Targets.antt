-- Which targets open a connection (Pusher Channels protocol, "Making a connection" and "Error codes"; URL Standard, section
-- 5, for the members of the query).
use Rattle.std.specs.Prelude.{ℕ, Bool, ◌&&◌, ◌||◌, ◌==◌, not, List, [], ◌∷◌, length, drop, bytes_eq, codes, Option, Some, None, if◌then◌else◌}
use Rattle.std.specs.List.{before_first, after_first, list_any, list_all}
use Rattle.std.specs.Char.{is_ascii_digit}
use Rattle.std.specs.Str.Lossy.{utf8_lossy}
use Rattle.form_urlencoded.specs.Form.{raw_pairs, decode}
use Rattle.ch_history.specs.ChannelName.{begins}
use Rattle.ch_history.specs.OpenRows.{is_empty}
use Rattle.ch_base.specs.declared.error_codes.TheConstants.{UNKNOWN_APP, UNKNOWN_PATH, INVALID_VERSION, UNSUPPORTED_VERSION, NO_VERSION}

-- ---- the two parts of a target

abbrev pub is_question : ℕ → Bool
is_question b = b == 63

abbrev pub path_of : List ℕ → List ℕ
path_of target = before_first is_question target

abbrev pub query_of : List ℕ → List ℕ
query_of target = after_first is_question target

-- ---- the app

abbrev pub app_prefix : List ℕ
app_prefix = codes "/app/"

-- what names the app in a path
abbrev pub app_in : List ℕ → List ℕ
app_in path = drop (length app_prefix) path

abbrev pub is_slash : ℕ → Bool
is_slash b = b == 47

-- one part after the prefix
abbrev pub is_app_path : List ℕ → Bool
is_app_path path = begins app_prefix path && not (is_empty (app_in path)) && not (list_any is_slash (app_in path))

-- ---- the version of the protocol

-- a name or a value of a query, decoded; U+FFFD stands for what isn't UTF-8
abbrev pub form_text : List ℕ → List ℕ
form_text raw = utf8_lossy (decode raw)

-- the value of the first member with the name
abbrev pub first_value : List ℕ → List (List ℕ × List ℕ) → Option (List ℕ)
first_value name [] = None
first_value name (p ∷ ps) = if bytes_eq (form_text p.0) name then Some (form_text p.1) else first_value name ps

-- the version that the query asks for
abbrev pub version_in : List ℕ → Option (List ℕ)
version_in query = first_value (codes "protocol") (raw_pairs query)

-- version 7 is served
abbrev pub version_refusal : Option (List ℕ) → Option ℕ
version_refusal None = Some NO_VERSION
version_refusal (Some version) =
    if is_empty version || not (list_all is_ascii_digit version) then Some INVALID_VERSION
    else if bytes_eq version (codes "7") then None
    else Some UNSUPPORTED_VERSION

-- ---- targets

-- the code that refuses the target, where the app has this key; none where it opens a connection
abbrev pub target_refusal : List ℕ → List ℕ → Option ℕ
target_refusal key target =
    if not (is_app_path (path_of target)) then Some UNKNOWN_PATH
    else if not (bytes_eq (app_in (path_of target)) key) then Some UNKNOWN_APP
    else version_refusal (version_in (query_of target))
