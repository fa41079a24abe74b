-- The verdict on the bytes that came, where more bytes follow.
use Rattle.std.proofs.Common.{◌≡◌, ◌≢◌, ℕ, ◌≤◌, List, [], ◌++◌, length, take, drop, Bool, true, false, cond, Option, Some, None, sym, refl, ap, ◌∙◌, subst, arith, length-append}
use Rattle.std.specs.Prelude.{nat_lt, bytes_eq}
use Rattle.std.proofs.lemmas.Bool.{ltb-false, le-ltb}
use Rattle.std.proofs.lemmas.List.{take-append-le, drop-append-le}
use Rattle.ch_protocol.specs.Targets.{path_of}
use Rattle.ch_requests.specs.Fields.{BodyLength, missing, bad, is, body_length}
use Rattle.ch_requests.specs.declared.limits.TheConstants.{LONGEST_CONTENT}
use Rattle.ch_requests.specs.Heads.{Heading, hopeless, unfinished, whole, IsHeading, first_bytes, is_full}
use Rattle.ch_requests.specs.Routes.{route_of, decoded_route, method_of, get_method}
use Rattle.ch_requests.specs.Verdict.{IsVerdict, look_by, look_behind, with_route, with_name, with_body, with_length, request_of, is_upgrade, in_time}
use Rattle.ch_requests.specs.declared.head.Head.{Head}
use Rattle.ch_requests.specs.declared.request.Look.{Look}
use Rattle.ch_requests.specs.declared.request.Look.TheVariants.{Need, Upgrade, Ready, Refuse}
use Rattle.ch_requests.specs.declared.request.Route.{Route}
use Rattle.ch_http.proofs.FirstLemmas.{first_bytes_goes_on, first_bytes_stays, length-first_bytes}
use Rattle.ch_http.proofs.HeadingLemmas.{hopeless_more, whole_more, one_heading, used_within}

-- ---- behind a head

with_length_more : (head : Head) (route : Route) (behind more : List ℕ) (length : BodyLength)
    → with_length head route behind length ≢ Need
    → with_length head route (behind ++ more) length ≡ with_length head route behind length
with_length_more head route behind more missing done = refl
with_length_more head route behind more bad done = refl
with_length_more head route behind more (is n) done = by_size (nat_lt LONGEST_CONTENT n) done
  where
    by_wait : (waits : Bool) → nat_lt (length behind) n ≡ waits
        → cond waits Need (Ready (request_of head route (take n behind))) ≢ Need
        → cond (nat_lt (length (behind ++ more)) n) Need (Ready (request_of head route (take n (behind ++ more))))
        ≡ cond waits Need (Ready (request_of head route (take n behind)))
    by_wait true _ done = absurd (done refl)
    by_wait false here _ =
        let within : n ≤ length behind = ltb-false (length behind) n here in
        let longer : n ≤ length (behind ++ more) = omega (arith, length-append behind more) in
        rw (le-ltb (length (behind ++ more)) n longer, take-append-le n behind more within) refl

    by_size : (large : Bool)
        → cond large (Refuse 413) (cond (nat_lt (length behind) n) Need (Ready (request_of head route (take n behind)))) ≢ Need
        → cond large (Refuse 413) (cond (nat_lt (length (behind ++ more)) n) Need (Ready (request_of head route (take n (behind ++ more)))))
        ≡ cond large (Refuse 413) (cond (nat_lt (length behind) n) Need (Ready (request_of head route (take n behind))))
    by_size true done = refl
    by_size false done = by_wait (nat_lt (length behind) n) refl done

with_body_more : (head : Head) (route : Route) (behind more : List ℕ) → with_body head route behind ≢ Need
    → with_body head route (behind ++ more) ≡ with_body head route behind
with_body_more head route behind more = by (bytes_eq head.method get_method)
  where
    by : (get : Bool)
        → cond get (Ready (request_of head route [])) (with_length head route behind (body_length head.fields)) ≢ Need
        → cond get (Ready (request_of head route [])) (with_length head route (behind ++ more) (body_length head.fields))
        ≡ cond get (Ready (request_of head route [])) (with_length head route behind (body_length head.fields))
    by true done = refl
    by false done = with_length_more head route behind more (body_length head.fields) done

with_name_more : (head : Head) (behind more : List ℕ) (route : Option Route) → with_name head behind route ≢ Need
    → with_name head (behind ++ more) route ≡ with_name head behind route
with_name_more head behind more None done = refl
with_name_more head behind more (Some route) done = with_body_more head route behind more done

with_route_more : (head : Head) (behind more : List ℕ) (route : Option Route) → with_route head behind route ≢ Need
    → with_route head (behind ++ more) route ≡ with_route head behind route
with_route_more head behind more None done = refl
with_route_more head behind more (Some route) done = by (bytes_eq head.method (method_of route)) done
  where
    by : (own : Bool) → cond own (with_name head behind (decoded_route route)) (Refuse 405) ≢ Need
        → cond own (with_name head (behind ++ more) (decoded_route route)) (Refuse 405)
        ≡ cond own (with_name head behind (decoded_route route)) (Refuse 405)
    by true done = with_name_more head behind more (decoded_route route) done
    by false done = refl

look_behind_more : (app : List ℕ) (head : Head) (behind more : List ℕ) → look_behind app head behind ≢ Need
    → look_behind app head (behind ++ more) ≡ look_behind app head behind
look_behind_more app head behind more = by (is_upgrade head)
  where
    by : (upgrade : Bool) → cond upgrade (Upgrade head) (with_route head behind (route_of app (path_of head.target))) ≢ Need
        → cond upgrade (Upgrade head) (with_route head (behind ++ more) (route_of app (path_of head.target)))
        ≡ cond upgrade (Upgrade head) (with_route head behind (route_of app (path_of head.target)))
    by true done = refl
    by false done = with_route_more head behind more (route_of app (path_of head.target)) done

-- ---- the verdict while there is time

in_time_early : (look : Look) → in_time false look ≡ look
in_time_early Need = refl
in_time_early (Upgrade head) = refl
in_time_early (Ready request) = refl
in_time_early (Refuse status) = refl

pub unfinished_verdict : (app bytes : List ℕ) (look : Look) → IsHeading (first_bytes bytes) unfinished
    → look ≡ look_by app bytes unfinished → IsVerdict app bytes false look
unfinished_verdict app bytes look is_heading is_look = (unfinished, is_heading, is_look ∙ sym (in_time_early (look_by app bytes unfinished)))

pub whole_verdict : (app bytes : List ℕ) (head : Head) (look : Look) → IsHeading (first_bytes bytes) (whole head)
    → look ≡ look_behind app head (drop head.used bytes) → IsVerdict app bytes false look
whole_verdict app bytes head look is_heading is_look =
    (whole head, is_heading, is_look ∙ sym (in_time_early (look_behind app head (drop head.used bytes))))

-- the verdict where the time may be over
pub late_verdict : (app bytes : List ℕ) (late : Bool) (look : Look) → IsVerdict app bytes false look → IsVerdict app bytes late (in_time late look)
late_verdict app bytes late look (heading, is_heading, is_look) =
    (heading, is_heading, ap (in_time late) (is_look ∙ in_time_early (look_by app bytes heading)))

-- ---- the laws

-- the heading of the first bytes where more follow
heading_more : (bytes more : List ℕ) (heading : Heading) → ((w further : List ℕ) → IsHeading w heading → IsHeading (w ++ further) heading)
    → IsHeading (first_bytes bytes) heading → IsHeading (first_bytes (bytes ++ more)) heading
heading_more bytes more heading goes_on is_heading =
    let further = first_bytes_goes_on bytes more in
    subst (λ w. IsHeading w heading) (sym further.1) (goes_on (first_bytes bytes) further.0 is_heading)

unfinished_stays : (app bytes more : List ℕ) (look : Look) → IsHeading (first_bytes bytes) unfinished
    → look ≡ in_time false (look_by app bytes unfinished) → look ≢ Need → IsVerdict app (bytes ++ more) false look
unfinished_stays app bytes more look is_heading verdict done = by (is_full (first_bytes bytes)) refl verdict
  where
    by : (full : Bool) → is_full (first_bytes bytes) ≡ full → look ≡ in_time false (cond full (Refuse 431) Need)
        → IsVerdict app (bytes ++ more) false look
    by true full refused =
        let same = first_bytes_stays bytes more full in
        let still_full = ap is_full same ∙ full in (
          unfinished,
          subst (λ w. IsHeading w unfinished) (sym same) is_heading,
          refused ∙ ap (λ b. in_time false (cond b (Refuse 431) Need)) (sym still_full),
        )
    by false _ waits = absurd (done waits)

whole_stays : (app bytes more : List ℕ) (look : Look) (head : Head) → IsHeading (first_bytes bytes) (whole head)
    → look ≡ in_time false (look_by app bytes (whole head)) → look ≢ Need → IsVerdict app (bytes ++ more) false look
whole_stays app bytes more look head is_heading verdict done =
    let used = used_within (first_bytes bytes) head is_heading in
    let shorter = length-first_bytes bytes in
    let within : head.used ≤ length bytes = omega (arith, used, shorter) in
    let here = verdict ∙ in_time_early (look_behind app head (drop head.used bytes)) in
    let same = look_behind_more app head (drop head.used bytes) more (λ waits. done (here ∙ waits)) in
    let behind = drop-append-le head.used bytes more within in (
      whole head,
      heading_more bytes more (whole head) (λ w further. whole_more w further head) is_heading,
      verdict ∙ ap (in_time false) (sym same ∙ ap (look_behind app head) (sym behind)),
    )

pub verdict_stays : (app bytes more : List ℕ) (look : Look) → IsVerdict app bytes false look → look ≢ Need
    → IsVerdict app (bytes ++ more) false look
verdict_stays app bytes more look (heading, is_heading, verdict) done = by heading is_heading verdict
  where
    by : (heading : Heading) → IsHeading (first_bytes bytes) heading → look ≡ in_time false (look_by app bytes heading)
        → IsVerdict app (bytes ++ more) false look
    by hopeless is_heading verdict = (hopeless, heading_more bytes more hopeless hopeless_more is_heading, verdict)
    by unfinished is_heading verdict = unfinished_stays app bytes more look is_heading verdict done
    by (whole head) is_heading verdict = whole_stays app bytes more look head is_heading verdict done

pub one_verdict : (app bytes : List ℕ) (late : Bool) (one other : Look) → IsVerdict app bytes late one
    → IsVerdict app bytes late other → one ≡ other
one_verdict app bytes late one other (heading, is_heading, verdict) (again, is_again, verdict_again) =
    verdict ∙ ap (λ h. in_time late (look_by app bytes h)) (one_heading (first_bytes bytes) heading again is_heading is_again)
    ∙ sym verdict_again
