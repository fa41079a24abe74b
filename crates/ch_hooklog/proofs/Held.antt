-- What is due of the notices that are held.
use Rattle.std.proofs.Common.{◌≡◌, ℕ, suc, ◌+◌, ◌<◌, ◌≤◌, Bool, true, false, not, cond, List, [], ◌∷◌, ◌++◌, All, nat_le, drop, get_or, length, take, refl, ap, sym, ◌∙◌, arith}
use Rattle.std.proofs.Math.Seq.{drop-cons, take-suc}
use Rattle.std.proofs.lemmas.Bool.Decides.{nat_tests}
use Rattle.std.proofs.lemmas.List.{length-append, map-append, take-append-drop}
use Rattle.std.proofs.lemmas.List.Elements.{All-head, All-tail, filter-append}
use Rattle.ch_base.specs.declared.webhook.Hook.TheVariants.{Vacated}
use Rattle.ch_history.specs.declared.limits.TheConstants.{HELD_FOR}
use Rattle.ch_history.specs.declared.rows.HeldNotice.{HeldNotice}
use Rattle.ch_history.specs.Held.{is_due, due, not_due, vacated_events}

-- no notice is older than the moment
abbrev pub IsSince : ℕ → HeldNotice → Type 0
IsSince oldest notice = oldest ≤ notice.since

later : (oldest since now : ℕ) → oldest ≤ since → nat_le (oldest + HELD_FOR) now ≡ false → nat_le (since + HELD_FOR) now ≡ false
later oldest since now after early = grind (arith, nat_tests)

-- nor than an earlier one
pub since_less : (oldest earlier : ℕ) (notices : List HeldNotice) → earlier ≤ oldest → All (IsSince oldest) notices → All (IsSince earlier) notices
since_less oldest earlier notices less since k n inside = let own = since k n inside in omega (arith, own)

-- where one as old as the oldest wouldn't be due, none is
pub none_due : (now oldest : ℕ) (notices : List HeldNotice) → nat_le (oldest + HELD_FOR) now ≡ false → All (IsSince oldest) notices → due now notices ≡ []
none_due now oldest [] early since = refl
none_due now oldest (n ∷ ns) early since =
    ap (λ b. cond b (n ∷ due now ns) (due now ns)) (later oldest n.since now (All-head (IsSince oldest) n ns since) early)
    ∙ none_due now oldest ns early (All-tail (IsSince oldest) n ns since)

pub all_stay : (now oldest : ℕ) (notices : List HeldNotice) → nat_le (oldest + HELD_FOR) now ≡ false → All (IsSince oldest) notices → not_due now notices ≡ notices
all_stay now oldest [] early since = refl
all_stay now oldest (n ∷ ns) early since =
    ap (λ b. cond (not b) (n ∷ not_due now ns) (not_due now ns)) (later oldest n.since now (All-head (IsSince oldest) n ns since) early)
    ∙ ap (λ zs. n ∷ zs) (all_stay now oldest ns early (All-tail (IsSince oldest) n ns since))

-- The notices go round once

-- the first of those that haven't gone round is the next one, and the others and those that stayed are left
pub next : (now i : ℕ) (ns : List HeldNotice) (n : HeldNotice) (left : List HeldNotice) → i < length ns → drop i ns ++ not_due now (take i ns) ≡ n ∷ left
    → (take (i + 1) ns ≡ take i ns ++ n ∷ []) × (left ≡ drop (i + 1) ns ++ not_due now (take i ns))
next now i ns n left inside is =
    let one : i + 1 ≡ suc i = omega arith in
    let split : get_or ns i n ∷ (drop (suc i) ns ++ not_due now (take i ns)) ≡ n ∷ left = ap (λ zs. zs ++ not_due now (take i ns)) (sym (drop-cons ns i n inside)) ∙ is in
    let first : get_or ns i n ≡ n = cc in
    let rest : drop (suc i) ns ++ not_due now (take i ns) ≡ left = cc in
    (ap (λ k. take k ns) one ∙ take-suc ns i n inside ∙ ap (λ x. take i ns ++ x ∷ []) first, sym rest ∙ ap (λ k. drop k ns ++ not_due now (take i ns)) (sym one))

-- what is due of one more notice
pub due-push : (now : ℕ) (ns : List HeldNotice) (n : HeldNotice) (b : Bool) → is_due now n ≡ b → due now (ns ++ n ∷ []) ≡ due now ns ++ cond b (n ∷ []) []
due-push now ns n b is = filter-append (is_due now) ns (n ∷ []) ∙ ap (λ x. due now ns ++ cond x (n ∷ []) []) is

pub not_due-push : (now : ℕ) (ns : List HeldNotice) (n : HeldNotice) (b : Bool) → is_due now n ≡ b → not_due now (ns ++ n ∷ []) ≡ not_due now ns ++ cond b [] (n ∷ [])
not_due-push now ns n true is = filter-append (λ n. not (is_due now n)) ns (n ∷ []) ∙ ap (λ x. not_due now ns ++ cond (not x) (n ∷ []) []) is
not_due-push now ns n false is = filter-append (λ n. not (is_due now n)) ns (n ∷ []) ∙ ap (λ x. not_due now ns ++ cond (not x) (n ∷ []) []) is

pub vacated-push : (ns : List HeldNotice) (n : HeldNotice) → vacated_events (ns ++ n ∷ []) ≡ vacated_events ns ++ Vacated n.channel ∷ []
vacated-push ns n = map-append (λ notice. Vacated notice.channel) ns (n ∷ [])

-- there is room for one more that is due
pub due-room : (now i : ℕ) (ns : List HeldNotice) (n : HeldNotice) → take (i + 1) ns ≡ take i ns ++ n ∷ [] → is_due now n ≡ true → length (due now (take i ns)) < length (due now ns)
due-room now i ns n more is =
    let front : List HeldNotice = due now (take i ns) in
    let back : List HeldNotice = due now (drop (i + 1) ns) in
    let all : due now ns ≡ (front ++ n ∷ []) ++ back =
    ap (due now) (sym (take-append-drop (i + 1) ns)) ∙ filter-append (is_due now) (take (i + 1) ns) (drop (i + 1) ns) ∙ ap (λ zs. zs ++ back) (ap (due now) more ∙ due-push now (take i ns) n true is) in
    let count : length (due now ns) ≡ (length front + 1) + length back = ap length all ∙ length-append (front ++ n ∷ []) back ∙ ap (λ k. k + length back) (length-append front (n ∷ [])) in
    omega (arith, count)
