-- an authorization by its three parts
use Rattle.std.proofs.Common.{◌≡◌, ℕ, List, ◌∷◌, [], ◌++◌, length, take, drop, refl, ap, sym, ◌∙◌, append_assoc}
use Rattle.std.proofs.lemmas.List.{take-append-drop}
use Rattle.std.proofs.Math.Seq.{take-append_seam, drop-append_seam}
use Rattle.ch_sig.specs.SignedText.{authorization_text}

pub authorization_from_parts : (given key signature : List ℕ) (n : ℕ) →
    take n given ≡ key → take 1 (drop n given) ≡ 58 ∷ [] → drop 1 (drop n given) ≡ signature →
    given ≡ authorization_text key signature
authorization_from_parts given key signature n of_key of_colon of_signature =
    sym (take-append-drop n given)
    ∙ ap (λ rest. take n given ++ rest) (sym (take-append-drop 1 (drop n given)))
    ∙ rw (of_key, of_colon, of_signature) (sym (append_assoc key (58 ∷ []) signature))

-- the parts of what is an authorization
pub record Parts (given key signature : List ℕ) : Type 0 where
  pub of_key : take (length key) given ≡ key
  pub of_colon : take 1 (drop (length key) given) ≡ 58 ∷ []
  pub of_signature : drop 1 (drop (length key) given) ≡ signature

pub parts_of_authorization : (key signature : List ℕ) → Parts (authorization_text key signature) key signature
parts_of_authorization key signature = record {
  of_key = rw append_assoc (take-append_seam _ _);
  of_colon = rw (append_assoc, drop-append_seam) refl;
  of_signature = rw (append_assoc, drop-append_seam) refl;
}
