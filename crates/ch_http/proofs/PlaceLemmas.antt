-- The place after some bytes, against the grammar of request lines.
use Rattle.std.proofs.Common.{◌≡◌, ℕ, List, [], ◌∷◌, ◌++◌, Bool, true, false, ◌==◌, sym, refl, ap, ◌∙◌, subst, append_assoc, append-nil, true≢false, arith}
use Rattle.std.specs.Prelude.{IsTrue, if◌then◌else◌}
use Rattle.std.proofs.lemmas.Bool.{eqb-true, ne_eqb}
use Rattle.std.proofs.lemmas.List.{length_push}
use Rattle.std.proofs.lemmas.List.Elements.{All-head, All-tail, All-push}
use Rattle.httparse.specs.Grammar.{AllPass, IsToken, LineEnd, crlf, lf, print_end, print_blank, is_token_byte, is_uri_byte, EndsInTarget}
use Rattle.httparse.proofs.PieceLemmas.{space_ends_token}
use Rattle.ch_http.specs.declared.place.Place.{Place}
use Rattle.ch_http.specs.declared.place.Place.TheVariants.{Start, AfterReturn, Method, Target, Elsewhere}
use Rattle.ch_http.specs.Places.{place_after, place_of}

pub place_of-append : (place : Place) (xs ys : List ℕ) → place_of place (xs ++ ys) ≡ place_of (place_of place xs) ys
place_of-append place [] ys = refl
place_of-append place (x ∷ xs) ys = place_of-append (place_after place x) xs ys

-- ---- the parts of a request line lead to their places

token_differs : (b other : ℕ) → is_token_byte b ≡ true → is_token_byte other ≡ false → (b == other) ≡ false
token_differs b other token ends = ne_eqb b other (λ same. true≢false (sym token ∙ ap is_token_byte same ∙ ends))

line_feed_ends_token : is_token_byte 10 ≡ false
unfolding is_token_byte
line_feed_ends_token = refl

return_ends_token : is_token_byte 13 ≡ false
unfolding is_token_byte
return_ends_token = refl

place_of-print_blank : (blank : List LineEnd) → place_of Start (print_blank blank) ≡ Start
place_of-print_blank [] = refl
place_of-print_blank (crlf ∷ blank) = place_of-print_blank blank
place_of-print_blank (lf ∷ blank) = place_of-print_blank blank

place_of-token : (m : List ℕ) → AllPass is_token_byte m → place_of Method m ≡ Method
place_of-token [] all = refl
place_of-token (b ∷ m) all =
    let token = All-head (λ x. IsTrue (is_token_byte x)) b m all in
    let no_space = token_differs b 32 token space_ends_token in
    rw (no_space, token) (place_of-token m (All-tail (λ x. IsTrue (is_token_byte x)) b m all))

place_of-method : (m : List ℕ) → IsToken m → place_of Start m ≡ Method
place_of-method [] token = absurd (omega (arith, token.0))
place_of-method (b ∷ m) token =
    let first = All-head (λ x. IsTrue (is_token_byte x)) b m token.1 in
    let no_feed = token_differs b 10 first line_feed_ends_token in
    let no_return = token_differs b 13 first return_ends_token in
    rw (no_feed, no_return, first) (place_of-token m (All-tail (λ x. IsTrue (is_token_byte x)) b m token.1))

place_of-uri : (t : List ℕ) → AllPass is_uri_byte t → place_of Target t ≡ Target
place_of-uri [] all = refl
place_of-uri (b ∷ t) all =
    let uri = All-head (λ x. IsTrue (is_uri_byte x)) b t all in
    rw uri (place_of-uri t (All-tail (λ x. IsTrue (is_uri_byte x)) b t all))

pub target_from_ends : (w : List ℕ) → EndsInTarget w → place_of Start w ≡ Target
target_from_ends w (blank, method, target, token, uri, whole) =
    ap (place_of Start) (whole ∙ append_assoc (print_blank blank) method (32 ∷ target))
    ∙ place_of-append Start (print_blank blank) (method ++ 32 ∷ target)
    ∙ ap (λ p. place_of p (method ++ 32 ∷ target)) (place_of-print_blank blank)
    ∙ place_of-append Start method (32 ∷ target)
    ∙ ap (λ p. place_of p (32 ∷ target)) (place_of-method method token)
    ∙ place_of-uri target uri

-- ---- what was read where the place is so

abbrev pub Read : Place → List ℕ → Type 0
Read Start w = (blank : List LineEnd) × (w ≡ print_blank blank)
Read AfterReturn w = (blank : List LineEnd) × (w ≡ print_blank blank ++ 13 ∷ [])
Read Method w = (blank : List LineEnd) × (method : List ℕ) × IsToken method × (w ≡ print_blank blank ++ method)
Read Target w = EndsInTarget w
Read Elsewhere w = Unit {0}

one_end_more : (blank : List LineEnd) (e : LineEnd) → print_blank blank ++ print_end e ≡ print_blank (blank ++ e ∷ [])
one_end_more [] e = sym (append-nil (print_end e))
one_end_more (d ∷ blank) e = append_assoc (print_end d) (print_blank blank) (print_end e) ∙ ap (λ l. print_end d ++ l) (one_end_more blank e)

one_more : (test : ℕ → Bool) (xs : List ℕ) (b : ℕ) → AllPass test xs → test b ≡ true → AllPass test (xs ++ b ∷ [])
one_more test xs b all passes = All-push (λ x. IsTrue (test x)) xs b all passes

token_more : (m : List ℕ) (b : ℕ) → IsToken m → is_token_byte b ≡ true → IsToken (m ++ b ∷ [])
token_more m b token passes = (omega (arith, length_push m b), one_more is_token_byte m b token.1 passes)

read_after_start : (w : List ℕ) (b : ℕ) → Read Start w → Read (place_after Start b) (w ++ b ∷ [])
read_after_start w b (blank, whole) = by_feed (b == 10) refl
  where
    by_token : (t : Bool) → is_token_byte b ≡ t → Read (if t then Method else Elsewhere) (w ++ b ∷ [])
    by_token true token = (blank, b ∷ [], one_more_token, ap (λ l. l ++ b ∷ []) whole)
      where
        one_more_token : IsToken (b ∷ [])
        one_more_token = (omega arith, one_more is_token_byte [] b (λ k d small. absurd (omega (arith, small))) token)
    by_token false _ = tt

    by_return : (t : Bool) → (b == 13) ≡ t → Read (if t then AfterReturn else if is_token_byte b then Method else Elsewhere) (w ++ b ∷ [])
    by_return true is_return = (blank, rw (eqb-true b 13 is_return) (ap (λ l. l ++ 13 ∷ []) whole))
    by_return false _ = by_token (is_token_byte b) refl

    by_feed : (t : Bool) → (b == 10) ≡ t → Read (if t then Start else if b == 13 then AfterReturn else if is_token_byte b then Method else Elsewhere) (w ++ b ∷ [])
    by_feed true is_feed = (blank ++ lf ∷ [], rw (eqb-true b 10 is_feed) (ap (λ l. l ++ 10 ∷ []) whole ∙ one_end_more blank lf))
    by_feed false _ = by_return (b == 13) refl

read_after_return : (w : List ℕ) (b : ℕ) → Read AfterReturn w → Read (place_after AfterReturn b) (w ++ b ∷ [])
read_after_return w b (blank, whole) = by_feed (b == 10) refl
  where
    by_feed : (t : Bool) → (b == 10) ≡ t → Read (if t then Start else Elsewhere) (w ++ b ∷ [])
    by_feed true is_feed = (
      blank ++ crlf ∷ [],
      rw (eqb-true b 10 is_feed) (ap (λ l. l ++ 10 ∷ []) whole ∙ append_assoc (print_blank blank) (13 ∷ []) (10 ∷ []) ∙ one_end_more blank crlf),
    )
    by_feed false _ = tt

read_after_method : (w : List ℕ) (b : ℕ) → Read Method w → Read (place_after Method b) (w ++ b ∷ [])
read_after_method w b (blank, method, token, whole) = by_space (b == 32) refl
  where
    by_token : (t : Bool) → is_token_byte b ≡ t → Read (if t then Method else Elsewhere) (w ++ b ∷ [])
    by_token true passes = (
      blank,
      method ++ b ∷ [],
      token_more method b token passes,
      ap (λ l. l ++ b ∷ []) whole ∙ append_assoc (print_blank blank) method (b ∷ []),
    )
    by_token false _ = tt

    by_space : (t : Bool) → (b == 32) ≡ t → Read (if t then Target else if is_token_byte b then Method else Elsewhere) (w ++ b ∷ [])
    by_space true is_space = (
      blank,
      method,
      [],
      token,
      (λ k d small. absurd (omega (arith, small))),
      rw (eqb-true b 32 is_space) (ap (λ l. l ++ 32 ∷ []) whole),
    )
    by_space false _ = by_token (is_token_byte b) refl

read_after_target : (w : List ℕ) (b : ℕ) → Read Target w → Read (place_after Target b) (w ++ b ∷ [])
read_after_target w b (blank, method, target, token, uri, whole) = by_uri (is_uri_byte b) refl
  where
    by_uri : (t : Bool) → is_uri_byte b ≡ t → Read (if t then Target else Elsewhere) (w ++ b ∷ [])
    by_uri true passes = (
      blank,
      method,
      target ++ b ∷ [],
      token,
      one_more is_uri_byte target b uri passes,
      ap (λ l. l ++ b ∷ []) whole ∙ append_assoc (print_blank blank ++ method) (32 ∷ target) (b ∷ []),
    )
    by_uri false _ = tt

read_after : (place : Place) (w : List ℕ) (b : ℕ) → Read place w → Read (place_after place b) (w ++ b ∷ [])
read_after Start w b read = read_after_start w b read
read_after AfterReturn w b read = read_after_return w b read
read_after Method w b read = read_after_method w b read
read_after Target w b read = read_after_target w b read
read_after Elsewhere w b read = tt

read_more : (place : Place) (w more : List ℕ) → Read place w → Read (place_of place more) (w ++ more)
read_more place w [] read = subst (Read place) (sym (append-nil w)) read
read_more place w (b ∷ more) read =
    subst (Read (place_of (place_after place b) more)) (append_assoc w (b ∷ []) more)
    (read_more (place_after place b) (w ++ b ∷ []) more (read_after place w b read))

pub read_of : (w : List ℕ) → Read (place_of Start w) w
read_of w = read_more Start [] w ([], refl)

pub ends_from_target : (w : List ℕ) → place_of Start w ≡ Target → EndsInTarget w
ends_from_target w in_target = subst (λ place. Read place w) in_target (read_of w)
