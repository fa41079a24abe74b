-- The letters of a shard's last entries are those of the line that shows them.
use Rattle.std.proofs.Common.{◌≡◌, ℕ, ◌+◌, ◌-◌, List, [], ◌∷◌, ◌++◌, map, drop, take, length, get_or, slice_get, Some, refl, ap, ◌∙◌}
use Rattle.std.proofs.lemmas.List.{map-append, take_more}
use Rattle.std.proofs.lemmas.Option.{slice_get_within, get_or_from_slice_get}
use Rattle.ch_history.specs.Entries.{ChanEntry, ChanHistory}
use Rattle.ch_history.specs.Letters.{letter_of}
use Rattle.ch_shard.specs.Tail.{brief_of, tail_of}
use Rattle.ch_shard.specs.declared.brief.Brief.{Brief}
use Rattle.ch_history.specs.declared.limits.TheConstants.{LONGEST_TAIL}

abbrev pub letters : List Brief → List ℕ
letters tail = map (λ (b : Brief). b.letter) tail

letters-briefs : (entries : List ChanEntry) → letters (map brief_of entries) ≡ map (λ (e : ChanEntry). letter_of e.call) entries
letters-briefs [] = refl
letters-briefs (e ∷ entries) = ap (λ (more : List ℕ). letter_of e.call ∷ more) (letters-briefs entries)

pub letters-tail_of : (h : ChanHistory) → letters (tail_of h) ≡ map (λ (e : ChanEntry). letter_of e.call) (drop (length h - LONGEST_TAIL) h)
letters-tail_of h = letters-briefs (drop (length h - LONGEST_TAIL) h)

-- one more entry has one more letter
pub letters-take_more : (tail : List Brief) (i : ℕ) (b : Brief) → slice_get tail i ≡ Some b
    → letters (take (i + 1) tail) ≡ letters (take i tail) ++ b.letter ∷ []
letters-take_more tail i b found =
    ap letters (take_more tail i b (slice_get_within tail i b found))
    ∙ map-append (λ (x : Brief). x.letter) (take i tail) (get_or tail i b ∷ [])
    ∙ ap (λ (x : Brief). letters (take i tail) ++ x.letter ∷ []) (get_or_from_slice_get tail i b b found)
