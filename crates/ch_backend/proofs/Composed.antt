-- The text of a request, part by part.
use Rattle.std.proofs.Common.{◌≡◌, ℕ, ◌∙◌, List, ◌++◌, append_assoc}
use Rattle.std.specs.Prelude.{codes}
use Rattle.ch_requests.specs.Replies.{crlf}
use Rattle.ch_backend.specs.Composing.{composed}

pub composed_is : (m p q l b : List ℕ) → composed m p q l b
    ≡ m ++ (codes " " ++ (p ++ (codes "?" ++ (q ++ (codes " HTTP/1.1" ++ (crlf ++ (codes "Host: localhost" ++ (crlf ++ (l ++ (crlf ++ b))))))))))
composed_is m p q l b =
    let a1 = m ++ codes " " in
    let a2 = a1 ++ p in
    let a3 = a2 ++ codes "?" in
    let a4 = a3 ++ q in
    let a5 = a4 ++ codes " HTTP/1.1" in
    let a6 = a5 ++ crlf in
    let a7 = a6 ++ codes "Host: localhost" in
    let a8 = a7 ++ crlf in
    let x1 = crlf ++ b in
    let x2 = l ++ x1 in
    let x3 = crlf ++ x2 in
    let x4 = codes "Host: localhost" ++ x3 in
    let x5 = crlf ++ x4 in
    let x6 = codes " HTTP/1.1" ++ x5 in
    let x7 = q ++ x6 in
    let x8 = codes "?" ++ x7 in
    append_assoc (a8 ++ l) crlf b ∙ append_assoc a8 l x1 ∙ append_assoc a7 crlf x2 ∙ append_assoc a6 (codes "Host: localhost") x3
    ∙ append_assoc a5 crlf x4 ∙ append_assoc a4 (codes " HTTP/1.1") x5 ∙ append_assoc a3 q x6 ∙ append_assoc a2 (codes "?") x7
    ∙ append_assoc a1 p x8 ∙ append_assoc m (codes " ") (p ++ x8)
