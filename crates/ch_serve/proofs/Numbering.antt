-- The numbers of the connections that an accepting thread puts into the intake.
use Rattle.std.proofs.Common.{◌≡◌, ◌≢◌, ℕ, ◌+◌, ◌≤◌, ◌==◌, Bool, true, false, List, [], ◌∷◌, ◌++◌, map, refl, ap, sym, ◌∙◌, subst, arith, append-nil}
use Rattle.std.specs.Prelude.{if◌then◌else◌}
use Rattle.std.specs.List.{AllByRecursion}
use Rattle.std.proofs.lemmas.Bool.Decides.{nat_tests}
use Rattle.std.proofs.lemmas.List.{map-append}
use Rattle.std.proofs.lemmas.List.Elements.{All-from_recursion, recursion_from_All}
use Rattle.ch_intake.specs.declared.step.Step.{Step}
use Rattle.ch_intake.specs.declared.step.Step.TheVariants.{Push, Pop}
use Rattle.ch_intake.specs.Orders.{caller_of}
use Rattle.ch_serve.specs.Accepting.{Came, nobody, waits, closed, Comes, AllCome, AscendFrom, AreNumberedOnce, Door, numbers_by, put_by}
use Rattle.ch_serve.specs.declared.numbered.Numbered.{Numbered}

-- ---- ascending numbers

-- each is at most n
abbrev AtMost : ℕ → List ℕ → Type 0
AtMost n [] = Unit {0}
AtMost n (x ∷ xs) = (x ≤ n) × AtMost n xs

at_most_next : (n : ℕ) (xs : List ℕ) → AtMost n xs → AtMost (n + 1) xs
at_most_next n [] h = tt
at_most_next n (x ∷ xs) (h, rest) = (omega arith, at_most_next n xs rest)

at_most_more : (n : ℕ) (xs : List ℕ) → AtMost n xs → AtMost (n + 1) (xs ++ (n + 1) ∷ [])
at_most_more n [] h = (omega arith, tt)
at_most_more n (x ∷ xs) (h, rest) = (omega arith, at_most_more n xs rest)

at_most_all : (n : ℕ) (xs : List ℕ) → AtMost n xs → AllByRecursion (λ x. x ≤ n) xs
at_most_all n [] h = tt
at_most_all n (x ∷ xs) (h, rest) = (h, at_most_all n xs rest)

ascend_more : (m n : ℕ) (xs : List ℕ) → AscendFrom m xs → m ≤ n → AtMost n xs → AscendFrom m (xs ++ (n + 1) ∷ [])
ascend_more m n [] h low below = (omega arith, tt)
ascend_more m n (x ∷ xs) (h, rest) low (here, below) = (h, ascend_more x n xs rest here below)

-- ---- what is put into the intake

module _ {L : Type 0} where
  cons_if : (b : Bool) (x : Numbered L) (zs xs ys : List (Numbered L)) → zs ≡ xs ++ ys → (if b then x ∷ zs else zs) ≡ (if b then x ∷ xs else xs) ++ ys
  cons_if true x zs xs ys e = ap (λ (l : List (Numbered L)). x ∷ l) e
  cons_if false x zs xs ys e = e

  put_both : (caller : ℕ) (xs ys : List (Step (Numbered L))) → put_by caller (xs ++ ys) ≡ put_by caller xs ++ put_by caller ys
  put_both caller [] ys = refl
  put_both caller (Push by item ∷ xs) ys = cons_if (by == caller) item (put_by caller (xs ++ ys)) (put_by caller xs) (put_by caller ys) (put_both caller xs ys)
  put_both caller (Pop by item ∷ xs) ys = put_both caller xs ys

  none_put : (caller : ℕ) (more : List (Step (Numbered L))) → AllByRecursion (λ s. caller_of s ≢ caller) more → put_by caller more ≡ []
  none_put caller [] h = refl
  none_put caller (Push by item ∷ more) (h, rest) = let e : (by == caller) ≡ false = grind (arith, nat_tests) in rw e (none_put caller more rest)
  none_put caller (Pop by item ∷ more) (h, rest) = none_put caller more rest

  one_put : (caller : ℕ) (item : Numbered L) → put_by caller (Push caller item ∷ []) ≡ item ∷ []
  one_put caller item = let e : (caller == caller) ≡ true = grind (arith, nat_tests) in rw e refl

  -- the numbers so far ascend, and are at most those that were given
  record Ascends (caller : ℕ) (d : Door L) : Type 0 where
    ascend : AscendFrom 0 (numbers_by caller d.seen)
    below : AtMost d.numbered (numbers_by caller d.seen)

  comes_next : (caller : ℕ) (c : Came L) (old new : Door L) → Comes caller c old new → Ascends caller old → Ascends caller new
  comes_next caller nobody old new same a = subst (λ (d : Door L). Ascends caller d) (sym same) a
  comes_next caller (waits item) old new (number, numbered, (until, (more, others, until_is), new_is)) a =
      let seen : put_by caller new.seen ≡ put_by caller old.seen ++ item ∷ [] =
      ap (put_by caller) new_is ∙ (put_both caller until (Push caller item ∷ [])
      ∙ ap (λ (l : List (Numbered L)). l ++ put_by caller (Push caller item ∷ [])) (ap (put_by caller) until_is ∙ (put_both caller old.seen more
      ∙ (ap (λ (l : List (Numbered L)). put_by caller old.seen ++ l) (none_put caller more (recursion_from_All (λ s. caller_of s ≢ caller) more others))
      ∙ append-nil (put_by caller old.seen))))
      ∙ ap (λ (l : List (Numbered L)). put_by caller old.seen ++ l) (one_put caller item)) in
      let numbers : numbers_by caller new.seen ≡ numbers_by caller old.seen ++ (old.numbered + 1) ∷ [] =
      ap (map (λ x. x.arrival.number)) seen ∙ (map-append (λ (x : Numbered L). x.arrival.number) (put_by caller old.seen) (item ∷ [])
      ∙ ap (λ (n : ℕ). numbers_by caller old.seen ++ n ∷ []) number) in
      record {
        ascend = subst (AscendFrom 0) (sym numbers) (ascend_more 0 old.numbered (numbers_by caller old.seen) a.ascend (omega arith) a.below);
        below = subst (λ (n : ℕ). AtMost n (numbers_by caller new.seen)) (sym numbered)
            (subst (AtMost (old.numbered + 1)) (sym numbers) (at_most_more old.numbered (numbers_by caller old.seen) a.below));
      }
  comes_next caller closed old new (numbered, seen, full) a = record {
    ascend = subst (λ (s : List (Step (Numbered L))). AscendFrom 0 (numbers_by caller s)) (sym seen) a.ascend;
    below = subst (λ (n : ℕ). AtMost n (numbers_by caller new.seen)) (sym numbered)
        (subst (λ (s : List (Step (Numbered L))). AtMost (old.numbered + 1) (numbers_by caller s)) (sym seen) (at_most_next old.numbered (numbers_by caller old.seen) a.below));
  }

  come_all : (caller : ℕ) (cs : List (Came L)) (old new : Door L) → AllCome caller cs old new → Ascends caller old → Ascends caller new
  come_all caller [] old new same a = subst (λ (d : Door L). Ascends caller d) (sym same) a
  come_all caller (c ∷ cs) old new (next, here, rest) a = come_all caller cs next new rest (comes_next caller c old next here a)

  at_first : (caller : ℕ) (d : Door L) → d.seen ≡ [] → Ascends caller d
  at_first caller d none = record {
    ascend = subst (λ (s : List (Step (Numbered L))). AscendFrom 0 (numbers_by caller s)) (sym none) tt;
    below = subst (λ (s : List (Step (Numbered L))). AtMost d.numbered (numbers_by caller s)) (sym none) tt;
  }

pub are_numbered_once : (L : Type 0) → AreNumberedOnce L
are_numbered_once L caller cs old new come none zero_ =
    let a = come_all caller cs old new come (at_first caller old none) in
    (a.ascend, All-from_recursion (λ n. n ≤ new.numbered) (numbers_by caller new.seen) (at_most_all new.numbered (numbers_by caller new.seen) a.below))
