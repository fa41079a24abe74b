-- A head as its spans tell it.
use Rattle.std.proofs.Common.{◌≡◌, ℕ, ◌<◌, List, [], ◌∷◌, take, map, All, IsTrue, IsUtf8, true, refl, ap, sym, subst, arith}
use Rattle.std.proofs.lemmas.Bool.Decides.{nat_tests}
use Rattle.std.proofs.lemmas.Str.{IsUtf8-from_ascii}
use Rattle.std.proofs.lemmas.Str.Ascii.{IsAscii-from_all}
use Rattle.std.proofs.lemmas.List.Elements.{All-cons, All-head, All-tail, All-weaker}
use Rattle.httparse.specs.Grammar.{Field, IsField, IsToken, RequestHead, is_token_byte}
use Rattle.httparse.specs.Spans.{span_bytes, header_bytes, name_and_value, IsRequestAt}
use Rattle.httparse.specs.declared.spans.HeaderSpan.{HeaderSpan}
use Rattle.httparse.specs.declared.spans.RequestSpans.{RequestSpans}
use Rattle.ch_requests.specs.Heads.{field_of}
use Rattle.ch_http.specs.Headings.{HasTextName, field_at}

-- ---- a token is a text

token_is_ascii : (b : ℕ) → is_token_byte b ≡ true → b < 128
unfolding is_token_byte
token_is_ascii b token = grind (arith, nat_tests)

token_is_text : (bytes : List ℕ) → IsToken bytes → IsUtf8 bytes
token_is_text bytes token =
    IsUtf8-from_ascii bytes
    (IsAscii-from_all bytes (All-weaker (λ b. IsTrue (is_token_byte b)) (λ b. b < 128) token_is_ascii bytes token.1))

-- ---- methods and fields

pub method_is_text : (first : List ℕ) (headers : List HeaderSpan) (spans : RequestSpans) (h : RequestHead)
    → IsRequestAt first headers spans h → IsUtf8 (span_bytes first spans.method)
method_is_text first headers spans h at = subst IsUtf8 (sym at.method) (token_is_text h.method at.reads.0.method)

pub target_is_text : (first : List ℕ) (headers : List HeaderSpan) (spans : RequestSpans) (h : RequestHead)
    → IsRequestAt first headers spans h → IsUtf8 (span_bytes first spans.path)
target_is_text first headers spans h at = subst IsUtf8 (sym at.path) at.reads.0.target_text

all_names : (first : List ℕ) (headers : List HeaderSpan) (fields : List Field)
    → map (header_bytes first) headers ≡ map name_and_value fields → All IsField fields → All (HasTextName first) headers
all_names first [] fields same all = λ k d within. absurd (omega (arith, within))
all_names first (header ∷ headers) [] same all = cc same
all_names first (header ∷ headers) (f ∷ fields) same all =
    let here : header_bytes first header ≡ name_and_value f = cc same in
    let name = ap (λ p. p.0) here in
    let others : map (header_bytes first) headers ≡ map name_and_value fields = cc same in
    All-cons (HasTextName first) header headers
    (subst IsUtf8 (sym name) (token_is_text f.name (All-head IsField f fields all).name))
    (all_names first headers fields others (All-tail IsField f fields all))

pub names_are_text : (first : List ℕ) (headers : List HeaderSpan) (spans : RequestSpans) (h : RequestHead)
    → IsRequestAt first headers spans h → All (HasTextName first) (take spans.headers headers)
names_are_text first headers spans h at = all_names first (take spans.headers headers) h.fields at.fields at.reads.0.fields

all_fields : (first : List ℕ) (headers : List HeaderSpan) (fields : List Field)
    → map (header_bytes first) headers ≡ map name_and_value fields → map (field_at first) headers ≡ map field_of fields
all_fields first [] [] same = refl
all_fields first [] (f ∷ fields) same = cc same
all_fields first (header ∷ headers) [] same = cc same
all_fields first (header ∷ headers) (f ∷ fields) same =
    let here : header_bytes first header ≡ name_and_value f = cc same in
    let name = ap (λ p. p.0) here in
    let value = ap (λ p. p.1) here in
    let others : map (header_bytes first) headers ≡ map name_and_value fields = cc same in
    let later = all_fields first headers fields others in
    rw (name, value, later) refl

pub fields_are : (first : List ℕ) (headers : List HeaderSpan) (spans : RequestSpans) (h : RequestHead)
    → IsRequestAt first headers spans h → map (field_at first) (take spans.headers headers) ≡ map field_of h.fields
fields_are first headers spans h at = all_fields first (take spans.headers headers) h.fields at.fields
