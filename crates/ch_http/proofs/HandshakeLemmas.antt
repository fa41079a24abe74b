-- The head of a handshake lies in the bytes that came.
use Rattle.std.proofs.Common.{ℕ, ◌≤◌, List, [], length, take, drop, Bool, true, false, cond, Option, Some, None, sym, subst, arith}
use Rattle.std.specs.Prelude.{nat_lt, bytes_eq}
use Rattle.ch_protocol.specs.Targets.{path_of}
use Rattle.ch_requests.specs.Fields.{BodyLength, missing, bad, is, body_length}
use Rattle.ch_requests.specs.declared.limits.TheConstants.{LONGEST_CONTENT}
use Rattle.ch_requests.specs.Heads.{Heading, hopeless, unfinished, whole, IsHeading, first_bytes, is_full}
use Rattle.ch_requests.specs.Routes.{route_of, decoded_route, method_of, get_method}
use Rattle.ch_requests.specs.Verdict.{IsVerdict, look_by, with_route, with_name, with_length, request_of, is_upgrade, in_time}
use Rattle.ch_requests.specs.declared.head.Head.{Head}
use Rattle.ch_requests.specs.declared.request.Look.{Look}
use Rattle.ch_requests.specs.declared.request.Look.TheVariants.{Need, Upgrade, Ready, Refuse}
use Rattle.ch_requests.specs.declared.request.Route.{Route}
use Rattle.ch_http.proofs.FirstLemmas.{length-first_bytes}
use Rattle.ch_http.proofs.HeadingLemmas.{used_within}

-- a head that the look tells has at most so many bytes
abbrev TellsAtMost : ℕ → Look → Type 0
TellsAtMost n Need = Unit {0}
TellsAtMost n (Upgrade head) = head.used ≤ n
TellsAtMost n (Ready request) = Unit {0}
TellsAtMost n (Refuse status) = Unit {0}

either : (n : ℕ) (b : Bool) (one other : Look) → TellsAtMost n one → TellsAtMost n other → TellsAtMost n (cond b one other)
either n true one other first second = first
either n false one other first second = second

with_length_tells : (n : ℕ) (head : Head) (route : Route) (behind : List ℕ) (size : BodyLength)
    → TellsAtMost n (with_length head route behind size)
with_length_tells n head route behind missing = tt
with_length_tells n head route behind bad = tt
with_length_tells n head route behind (is m) =
    either n (nat_lt LONGEST_CONTENT m) (Refuse 413) (cond (nat_lt (length behind) m) Need (Ready (request_of head route (take m behind)))) tt
    (either n (nat_lt (length behind) m) Need (Ready (request_of head route (take m behind))) tt tt)

with_name_tells : (n : ℕ) (head : Head) (behind : List ℕ) (route : Option Route) → TellsAtMost n (with_name head behind route)
with_name_tells n head behind None = tt
with_name_tells n head behind (Some route) =
    either n (bytes_eq head.method get_method) (Ready (request_of head route [])) (with_length head route behind (body_length head.fields)) tt
    (with_length_tells n head route behind (body_length head.fields))

with_route_tells : (n : ℕ) (head : Head) (behind : List ℕ) (route : Option Route) → TellsAtMost n (with_route head behind route)
with_route_tells n head behind None = tt
with_route_tells n head behind (Some route) =
    either n (bytes_eq head.method (method_of route)) (with_name head behind (decoded_route route)) (Refuse 405)
    (with_name_tells n head behind (decoded_route route)) tt

look_by_tells : (app bytes : List ℕ) (heading : Heading) → IsHeading (first_bytes bytes) heading
    → TellsAtMost (length bytes) (look_by app bytes heading)
look_by_tells app bytes hopeless is_heading = tt
look_by_tells app bytes unfinished is_heading = either (length bytes) (is_full (first_bytes bytes)) (Refuse 431) Need tt tt
look_by_tells app bytes (whole head) is_heading =
    let used = used_within (first_bytes bytes) head is_heading in
    let shorter = length-first_bytes bytes in
    let behind = drop head.used bytes in
    either (length bytes) (is_upgrade head) (Upgrade head) (with_route head behind (route_of app (path_of head.target)))
    (omega (arith, used, shorter)) (with_route_tells (length bytes) head behind (route_of app (path_of head.target)))

in_time_tells : (n : ℕ) (late : Bool) (look : Look) → TellsAtMost n look → TellsAtMost n (in_time late look)
in_time_tells n late Need tells = either n late (Refuse 408) Need tt tt
in_time_tells n late (Upgrade head) tells = tells
in_time_tells n late (Ready request) tells = tt
in_time_tells n late (Refuse status) tells = tt

pub head_within : (app bytes : List ℕ) (late : Bool) (head : Head) → IsVerdict app bytes late (Upgrade head) → head.used ≤ length bytes
head_within app bytes late head (heading, is_heading, verdict) =
    subst (TellsAtMost (length bytes)) (sym verdict)
    (in_time_tells (length bytes) late (look_by app bytes heading) (look_by_tells app bytes heading is_heading))
