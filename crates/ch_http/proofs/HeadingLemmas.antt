-- What the first bytes hold of a head, and what more bytes do to it.
use Rattle.std.proofs.Common.{◌≡◌, ℕ, ◌≤◌, List, [], ◌∷◌, ◌++◌, length, sym, refl, ap, ◌∙◌, subst, append_assoc, append-nil, inl, inr, ⊎_elim, arith, length-append}
use Rattle.httparse.specs.Grammar.{ReadsRequest, HasNoRequest, NeverHasRequest, MayBecomeRequest, EndsInTarget, print_request}
use Rattle.httparse.specs.Pieces.{Completes, RequestStart, Stops, is_newline}
use Rattle.httparse.proofs.GrammarLemmas.{request_unique, ReadsRequest-append}
use Rattle.httparse.proofs.OpenLemmas.{line_blank, line_method, Word_cut, BlankLines_after, Newline_after_cr, request_may_from_line, letter_is_token}
use Rattle.httparse.proofs.PieceLemmas.{Stops_token}
use Rattle.httparse.specs.Grammar.{is_token_byte}
use Rattle.ch_requests.specs.Heads.{Heading, hopeless, unfinished, whole, IsHeading, head_of}
use Rattle.ch_requests.specs.declared.head.Head.{Head}
use Rattle.ch_http.specs.declared.place.Place.{Place}
use Rattle.ch_http.specs.declared.place.Place.TheVariants.{Start, AfterReturn, Method, Target, Elsewhere}
use Rattle.ch_http.specs.Places.{place_of}
use Rattle.ch_http.proofs.PlaceLemmas.{Read, read_of, ends_from_target, target_from_ends, place_of-append}

-- ---- hopeless bytes

never_more : (w more : List ℕ) → NeverHasRequest w → NeverHasRequest (w ++ more)
never_more w more never after h rest reads =
    never (more ++ after) h rest (subst (λ bytes. ReadsRequest bytes h rest) (append_assoc w more after) reads)

elsewhere_stays : (w : List ℕ) → place_of Elsewhere w ≡ Elsewhere
elsewhere_stays [] = refl
elsewhere_stays (b ∷ w) = elsewhere_stays w

may_from_start : (w : List ℕ) → Completes RequestStart w → MayBecomeRequest w
may_from_start w completes = request_may_from_line (inl completes)

-- where the place isn't lost, a request may follow
may_from_read : (w : List ℕ) (place : Place) → Read place w → (place ≡ Elsewhere → ⊥) → MayBecomeRequest w
may_from_read w Start (blank, is) _ =
    may_from_start w (line_blank (record { more = []; tree = blank; reads = λ rest. ap (λ l. l ++ rest) is }))
may_from_read w AfterReturn (blank, is) _ = may_from_start w (line_blank (BlankLines_after blank is (Newline_after_cr refl)))
may_from_read w Method (blank, method, token, is) _ =
    may_from_start w
    (line_method blank (is, subst (λ l. Stops is_newline l) (append-nil method) (Stops_token method [] token.0 token.1))
    (Word_cut is_token_byte 32 65 letter_is_token token.1))
may_from_read w Target ends _ = inr ends
may_from_read w Elsewhere _ lost = absurd (lost refl)

hopeless_is_lost : (w : List ℕ) → NeverHasRequest w → (EndsInTarget w → ⊥) → place_of Start w ≡ Elsewhere
hopeless_is_lost w never outside = by (place_of Start w) refl
  where
    may : (place : Place) → place_of Start w ≡ place → (place ≡ Elsewhere → ⊥) → MayBecomeRequest w
    may place is lost = may_from_read w place (subst (λ p. Read p w) is (read_of w)) lost

    never_may : MayBecomeRequest w → ⊥
    never_may may = ⊎_elim (λ x. never x.0 x.1 [] x.2) outside may

    by : (place : Place) → place_of Start w ≡ place → place_of Start w ≡ Elsewhere
    by Start is = absurd (never_may (may Start is (λ e. cc e)))
    by AfterReturn is = absurd (never_may (may AfterReturn is (λ e. cc e)))
    by Method is = absurd (never_may (may Method is (λ e. cc e)))
    by Target is = absurd (outside (ends_from_target w is))
    by Elsewhere is = is

outside_more : (w more : List ℕ) → NeverHasRequest w → (EndsInTarget w → ⊥) → EndsInTarget (w ++ more) → ⊥
outside_more w more never outside ends =
    let here = sym (target_from_ends (w ++ more) ends) ∙ place_of-append Start w more
    ∙ ap (λ place. place_of place more) (hopeless_is_lost w never outside) ∙ elsewhere_stays more in
    cc here

-- what can't begin a head can't whatever follows
pub hopeless_more : (w more : List ℕ) → IsHeading w hopeless → IsHeading (w ++ more) hopeless
hopeless_more w more (never, outside) = (never_more w more never, outside_more w more never outside)

-- a whole head stays whatever follows
pub whole_more : (w more : List ℕ) (head : Head) → IsHeading w (whole head) → IsHeading (w ++ more) (whole head)
whole_more w more head (h, rest, reads, is) = (h, rest ++ more, ReadsRequest-append w h rest more reads, is)

-- ---- there is one heading

none_yet : (w : List ℕ) → NeverHasRequest w → HasNoRequest w
none_yet w never = subst HasNoRequest (append-nil w) (never [])

not_both : (w : List ℕ) → IsHeading w hopeless → IsHeading w unfinished → ⊥
not_both w (never, outside) (none, may) = ⊎_elim (λ x. never x.0 x.1 [] x.2) outside may

pub one_heading : (w : List ℕ) (one other : Heading) → IsHeading w one → IsHeading w other → one ≡ other
one_heading w hopeless hopeless _ _ = refl
one_heading w hopeless unfinished a b = absurd (not_both w a b)
one_heading w hopeless (whole head) a b = absurd (none_yet w a.0 b.0 b.1 b.2)
one_heading w unfinished hopeless a b = absurd (not_both w b a)
one_heading w unfinished unfinished _ _ = refl
one_heading w unfinished (whole head) a b = absurd (a.0 b.0 b.1 b.2)
one_heading w (whole head) hopeless a b = absurd (none_yet w b.0 a.0 a.1 a.2)
one_heading w (whole head) unfinished a b = absurd (b.0 a.0 a.1 a.2)
one_heading w (whole head) (whole other) (h, rest, reads, is) (k, others, also, is_other) =
    ap whole (is ∙ ap head_of (request_unique w h k rest others reads also).0 ∙ sym is_other)

-- a whole head lies in the bytes
pub used_within : (w : List ℕ) (head : Head) → IsHeading w (whole head) → head.used ≤ length w
used_within w head (h, rest, reads, is) =
    let whole_length = ap length reads.1 ∙ length-append (print_request h) rest in
    let used = ap (λ x. x.used) is in
    omega (arith, whole_length, used)
