-- the text of the signed parameters, one more at a time
use Rattle.std.proofs.Common.{◌≡◌, ◌<◌, ◌+◌, ℕ, length, take, get_or, add-one, take-suc, List, [], ◌∷◌, ◌++◌, true, false, refl, ap, sym, ◌∙◌, map, append_assoc}
use Rattle.std.specs.List.{join_with_byte, filter}
use Rattle.std.proofs.lemmas.List.{map-append, append-nil}
use Rattle.std.proofs.lemmas.List.Elements.{filter-append}
use Rattle.ch_sig.specs.SignedText.{is_signed, param_text, query_text}
use Rattle.ch_sig.specs.declared.query.Param.{Param}

-- what stands between these and a further piece
abbrev pub separator_after : {A : Type 0} → List A → List ℕ
separator_after [] = []
separator_after (x ∷ xs) = 38 ∷ []

join-push : (pieces : List (List ℕ)) (piece : List ℕ) →
    join_with_byte 38 (pieces ++ piece ∷ []) ≡ join_with_byte 38 pieces ++ (separator_after pieces ++ piece)
join-push [] piece = refl
join-push (x ∷ []) piece = refl
join-push (x ∷ y ∷ xs) piece = ap (λ rest. x ++ 38 ∷ rest) (join-push (y ∷ xs) piece) ∙ simp append_assoc

separator_after-map : (ps : List Param) → separator_after (map param_text ps) ≡ separator_after ps
separator_after-map [] = refl
separator_after-map (p ∷ ps) = refl

-- those before a place, and the one there
pub take-next : (ps : List Param) (i : ℕ) (p : Param) → i < length ps → p ≡ get_or ps i p → take (i + 1) ps ≡ take i ps ++ p ∷ []
take-next ps i p within here = rw add-one (take-suc ps i p within ∙ ap (λ q. take i ps ++ q ∷ []) (sym here))

pub separator_after-signed : (ps : List Param) (p : Param) → is_signed p ≡ true → separator_after (filter is_signed (ps ++ p ∷ [])) ≡ 38 ∷ []
separator_after-signed ps p signed = rw (filter-append, signed) (go (filter is_signed ps))
  where
    go : (signed_ones : List Param) → separator_after (signed_ones ++ p ∷ []) ≡ 38 ∷ []
    go [] = refl
    go (q ∷ qs) = refl

pub separator_after-unsigned : (ps : List Param) (p : Param) → is_signed p ≡ false →
    separator_after (filter is_signed (ps ++ p ∷ [])) ≡ separator_after (filter is_signed ps)
separator_after-unsigned ps p unsigned = rw (filter-append, unsigned, append-nil) refl

-- one that is signed comes last, behind its separator
pub query_text-signed : (ps : List Param) (p : Param) → is_signed p ≡ true → (message : List ℕ) →
    ((message ++ query_text ps) ++ separator_after (filter is_signed ps)) ++ param_text p ≡ message ++ query_text (ps ++ p ∷ [])
query_text-signed ps p signed message =
    rw (filter-append, signed, map-append, join-push, separator_after-map) (simp append_assoc)

pub query_text-unsigned : (ps : List Param) (p : Param) → is_signed p ≡ false → query_text (ps ++ p ∷ []) ≡ query_text ps
query_text-unsigned ps p unsigned = rw (filter-append, unsigned, append-nil) refl
