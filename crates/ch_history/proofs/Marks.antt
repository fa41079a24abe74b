-- Marks that alternate: one part after another, and over a whole history.
use Rattle.std.proofs.Common.{◌≡◌, Bool, false, List, [], ◌∷◌, ◌++◌, Option, filter_map, refl, ap, ap₂, sym, ◌∙◌, subst}
use Rattle.std.proofs.lemmas.List.Elements.{filter_map-append}
use Rattle.ch_base.specs.declared.webhook.Hook.{Hook}
use Rattle.ch_history.specs.Entries.{ChanEntry, ChanHistory}
use Rattle.ch_history.specs.Held.{hooks}
use Rattle.ch_history.specs.Pending.{hook_list}
use Rattle.ch_history.specs.Legal.{Follows, IsLegal}
use Rattle.ch_history.specs.Laws.{Alternates, last_from, Goes}
use Rattle.ch_history.proofs.Push.{hook_list-push}
use Rattle.ch_history.proofs.Legal.{legal_induction}

Alternates-append : (b : Bool) (xs ys : List Bool) → Alternates b xs → Alternates (last_from b xs) ys → Alternates b (xs ++ ys)
Alternates-append b [] ys first rest = rest
Alternates-append b (x ∷ xs) ys first rest = (first.0, Alternates-append x xs ys first.1 rest)

last_from-append : (b : Bool) (xs ys : List Bool) → last_from b (xs ++ ys) ≡ last_from (last_from b xs) ys
last_from-append b [] ys = refl
last_from-append b (x ∷ xs) ys = last_from-append x xs ys

-- no marks go from b to itself
pub Goes-nowhere : (b : Bool) → Goes b b []
Goes-nowhere b = record { turns = tt; last = refl }

-- one part after another
pub Goes-append : (b m a : Bool) (xs ys : List Bool) → Goes b m xs → Goes m a ys → Goes b a (xs ++ ys)
Goes-append b m a xs ys first rest = record {
  turns = Alternates-append b xs ys first.turns (subst (λ x. Alternates x ys) (sym first.last) rest.turns);
  last = last_from-append b xs ys ∙ ap (λ x. last_from x ys) first.last ∙ rest.last;
}

-- the same marks, from and to the same
pub Goes-same : (b a b' a' : Bool) (xs ys : List Bool) → b ≡ b' → a ≡ a' → xs ≡ ys → Goes b' a' ys → Goes b a xs
Goes-same b a b' a' xs ys from to are goes = record {
  turns = subst (λ zs. Alternates b zs) (sym are) (subst (λ x. Alternates x ys) (sym from) goes.turns);
  last = ap₂ last_from from are ∙ goes.last ∙ sym to;
}

-- where each entry's webhook events go from what is so before it to what is so after it, those of a whole history do
pub hooks_go : (f : Hook → Option Bool) (is_so : ChanHistory → Bool) → is_so [] ≡ false
    → ((h : ChanHistory) (e : ChanEntry) → IsLegal h → Follows h e → Goes (is_so h) (is_so (h ++ e ∷ [])) (filter_map f (hooks h e)))
    → (h : ChanHistory) → IsLegal h → Goes false (is_so h) (filter_map f (hook_list h))
hooks_go f is_so at_first each h legal =
    legal_induction (λ g. Goes false (is_so g) (filter_map f (hook_list g)))
    (record { turns = tt; last = sym at_first })
    (λ g e ok follows so_far.
    Goes-same false (is_so (g ++ e ∷ [])) false (is_so (g ++ e ∷ [])) (filter_map f (hook_list (g ++ e ∷ []))) (filter_map f (hook_list g) ++ filter_map f (hooks g e)) refl refl
    (ap (filter_map f) (hook_list-push g e) ∙ filter_map-append f (hook_list g) (hooks g e))
    (Goes-append false (is_so g) (is_so (g ++ e ∷ [])) (filter_map f (hook_list g)) (filter_map f (hooks g e)) so_far (each g e ok follows)))
    h legal
