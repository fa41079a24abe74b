-- What a path asks for (Pusher Channels documentation, HTTP API; RFC 3986, section 3.3).
use Rattle.std.specs.Prelude.{ℕ, ◌&&◌, not, List, [], ◌∷◌, bytes_eq, codes, Option, Some, None, if◌then◌else◌}
use Rattle.std.specs.List.{slice_split}
use Rattle.std.specs.Str.{is_utf8}
use Rattle.percent_encoding.specs.Percent.{percent_decode}
use Rattle.ch_history.specs.OpenRows.{is_empty}
use Rattle.ch_protocol.specs.Targets.{is_slash}
use Rattle.ch_requests.specs.declared.request.Route.{Route}
use Rattle.ch_requests.specs.declared.request.Route.TheVariants.{Events, BatchEvents, Channels, Channel, ChannelUsers, Terminate}

-- the parts of a path, between its slashes; the first is what stands before the first slash
abbrev pub parts_of : List ℕ → List (List ℕ)
parts_of path = slice_split is_slash path

-- one part after the app's id
abbrev pub route_by_word : List ℕ → Option Route
route_by_word word =
    if bytes_eq word (codes "events") then Some Events
    else if bytes_eq word (codes "batch_events") then Some BatchEvents
    else if bytes_eq word (codes "channels") then Some Channels
    else None

-- three parts after the app's id, of which the second is a name
abbrev pub route_by_name : List ℕ → List ℕ → List ℕ → Option Route
route_by_name word name more =
    if bytes_eq word (codes "channels") && bytes_eq more (codes "users") then Some (ChannelUsers name)
    else if bytes_eq word (codes "users") && bytes_eq more (codes "terminate_connections") then Some (Terminate name)
    else None

-- the parts after the app's id; a name isn't empty
abbrev pub route_below : List (List ℕ) → Option Route
route_below [] = None
route_below (word ∷ []) = route_by_word word
route_below (word ∷ name ∷ []) = if bytes_eq word (codes "channels") && not (is_empty name) then Some (Channel name) else None
route_below (word ∷ name ∷ more ∷ []) = if is_empty name then None else route_by_name word name more
route_below (word ∷ name ∷ more ∷ other ∷ parts) = None

-- the parts of a path: an empty one, `apps`, the app's id, and the others
abbrev pub route_in : List ℕ → List (List ℕ) → Option Route
route_in app (front ∷ apps ∷ id ∷ parts) =
    if is_empty front && bytes_eq apps (codes "apps") && bytes_eq id app then route_below parts else None
route_in app _ = None

-- the route of a path, with its name as sent, on the server of the app with this id
abbrev pub route_of : List ℕ → List ℕ → Option Route
route_of app path = route_in app (parts_of path)

-- what a name stands for, where that is UTF-8
abbrev pub decoded : List ℕ → Option (List ℕ)
decoded name = if is_utf8 (percent_decode name) then Some (percent_decode name) else None

abbrev pub named : (List ℕ → Route) → Option (List ℕ) → Option Route
named route None = None
named route (Some name) = Some (route name)

-- the route with its name decoded
abbrev pub decoded_route : Route → Option Route
decoded_route (Channel name) = named Channel (decoded name)
decoded_route (ChannelUsers name) = named ChannelUsers (decoded name)
decoded_route (Terminate name) = named Terminate (decoded name)
decoded_route route = Some route

-- ---- methods

abbrev pub get_method : List ℕ
get_method = codes "GET"

abbrev pub post_method : List ℕ
post_method = codes "POST"

abbrev pub method_of : Route → List ℕ
method_of Events = post_method
method_of BatchEvents = post_method
method_of Channels = get_method
method_of (Channel name) = get_method
method_of (ChannelUsers name) = get_method
method_of (Terminate name) = post_method
