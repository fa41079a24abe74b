-- What the bytes that came so far are: a request, a handshake, or neither yet (RFC 9112; RFC 6455, section 4.2.1; Pusher
-- Channels documentation, HTTP API).
use Rattle.std.specs.Prelude.{◌≡◌, ℕ, Bool, ◌&&◌, nat_lt, List, [], length, take, drop, bytes_eq, codes, Option, Some, None, if◌then◌else◌}
use Rattle.ch_protocol.specs.Targets.{path_of, query_of}
use Rattle.ch_requests.specs.declared.limits.TheConstants.{LONGEST_CONTENT}
use Rattle.ch_requests.specs.Heads.{Heading, hopeless, unfinished, whole, IsHeading, first_bytes, is_full}
use Rattle.ch_requests.specs.Fields.{field_lists, BodyLength, missing, bad, is, body_length}
use Rattle.ch_requests.specs.Queries.{members_of, params_of, has_double}
use Rattle.ch_requests.specs.Routes.{route_of, decoded_route, method_of, get_method}
use Rattle.ch_requests.specs.declared.head.Head.{Head}
use Rattle.ch_requests.specs.declared.request.Look.{Look}
use Rattle.ch_requests.specs.declared.request.Look.TheVariants.{Need, Upgrade, Ready, Refuse}
use Rattle.ch_requests.specs.declared.request.Request.{Request}
use Rattle.ch_requests.specs.declared.request.Route.{Route}

-- ---- whole heads

-- a GET that asks for a WebSocket
abbrev pub is_upgrade : Head → Bool
is_upgrade head = bytes_eq head.method get_method && field_lists (codes "upgrade") (codes "websocket") head.fields

-- the request of a head, with this route and body
abbrev pub request_of : Head → Route → List ℕ → Request
request_of head route body = record {
  route = route;
  path = path_of head.target;
  params = params_of (query_of head.target);
  doubled = has_double (members_of (query_of head.target));
  body = body;
}

-- the body is among the bytes behind the head, once all of it is there
abbrev pub with_length : Head → Route → List ℕ → BodyLength → Look
with_length head route behind missing = Refuse 411
with_length head route behind bad = Refuse 400
with_length head route behind (is n) =
    if nat_lt LONGEST_CONTENT n then Refuse 413
    else if nat_lt (length behind) n then Need
    else Ready (request_of head route (take n behind))

-- a GET has no body, whatever its length says
abbrev pub with_body : Head → Route → List ℕ → Look
with_body head route behind =
    if bytes_eq head.method get_method then Ready (request_of head route [])
    else with_length head route behind (body_length head.fields)

abbrev pub with_name : Head → List ℕ → Option Route → Look
with_name head behind None = Refuse 400
with_name head behind (Some route) = with_body head route behind

-- by the route of the path: the method has to be its own
abbrev pub with_route : Head → List ℕ → Option Route → Look
with_route head behind None = Refuse 404
with_route head behind (Some route) =
    if bytes_eq head.method (method_of route) then with_name head behind (decoded_route route) else Refuse 405

-- a whole head, with the bytes behind it
abbrev pub look_behind : List ℕ → Head → List ℕ → Look
look_behind app head behind =
    if is_upgrade head then Upgrade head else with_route head behind (route_of app (path_of head.target))

-- ---- all bytes

-- by what the first bytes hold of a head
abbrev pub look_by : List ℕ → List ℕ → Heading → Look
look_by app bytes hopeless = Refuse 400
look_by app bytes unfinished = if is_full (first_bytes bytes) then Refuse 431 else Need
look_by app bytes (whole head) = look_behind app head (drop head.used bytes)

-- a request that isn't whole in time is refused
abbrev pub in_time : Bool → Look → Look
in_time late Need = if late then Refuse 408 else Need
in_time late look = look

-- The verdict on all bytes that came so far, on the server of the app with this id; late: whether the time of the request is
-- over.
abbrev pub IsVerdict : List ℕ → List ℕ → Bool → Look → Type 0
IsVerdict app bytes late look =
    (heading : Heading) × IsHeading (first_bytes bytes) heading × (look ≡ in_time late (look_by app bytes heading))
