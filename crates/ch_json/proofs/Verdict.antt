-- What the run over a whole text says of the answer, and the public clauses from it.
use Rattle.std.proofs.Common.{◌≡◌, ℕ, ◌+◌, ◌<◌, ◌≤◌, List, length, take, take_all, get_or, Some, Result, Ok, Err, refl, sym, ap, ◌∙◌, subst}
use Rattle.std.specs.Prelude.{◌↔◌, IfOk, IsOk}
use Rattle.ch_base.specs.JsonTree.{Tree}
use Rattle.ch_base.specs.JsonText.{Spells, SpellsWithin}
use Rattle.ch_base.specs.declared.limits.TheConstants.{MAX_DEPTH}
use Rattle.ch_json.specs.Front.{IsSyntaxFault, IsTooDeep}
use Rattle.ch_json.specs.Document.{Document}
use Rattle.ch_json.specs.NodeOf.{HasTree}
use Rattle.ch_json.specs.Machine as spec
use Rattle.ch_json.specs.Machine.{Outcome, go}
use Rattle.ch_json.specs.ReaderView.{Follows, Ends}
use Rattle.ch_json.specs.declared.error.JsonError.{JsonError}
use Rattle.ch_json.specs.declared.error.JsonError.TheVariants.{Syntax, Deep, Memory}
use Rattle.ch_json.specs.declared.reader.Reader.{Reader}
use Rattle.ch_json.proofs.Fronts.{read_is_spelled}
use Rattle.ch_json.proofs.Faults.{syntax_at, syntax_at_end, deep_at, front_whole, one_longest, one_too_deep}

-- the error is the text's fault
abbrev pub IsFault : List ℕ → JsonError → Type 0
IsFault text (Syntax at) = IsSyntaxFault text at
IsFault text (Deep at) = IsTooDeep text at
IsFault text Memory = Unit {0}

abbrev pub IsVerdict : List ℕ → Result Document JsonError → Type 0
IsVerdict text (Ok d) = (v : Tree) × Spells text v × HasTree d v
IsVerdict text (Err e) = IsFault text e

-- ---- from the run

pub step_fault : (text : List ℕ) (i : ℕ) (m : spec.Mode) (room : ℕ) (fs : List spec.Frame) (e : JsonError) (r : Reader) → i < length text → spec.run (spec.begin MAX_DEPTH) 0 (take i text) ≡ go m room fs
    → Follows i (Err e) r (spec.step m room fs i (get_or text i 0)) → IsFault text e
step_fault text i m room fs (Syntax at) r inside before h = subst (IsSyntaxFault text) (sym h.0) (syntax_at text i m room fs inside before h.1)
step_fault text i m room fs (Deep at) r inside before h = subst (IsTooDeep text) (sym h.0) (deep_at text i m room fs inside before h.1)
step_fault text i m room fs Memory r inside before h = tt

whole : (text : List ℕ) (i : ℕ) (o : Outcome) → length text ≤ i → spec.run (spec.begin MAX_DEPTH) 0 (take i text) ≡ o → spec.run (spec.begin MAX_DEPTH) 0 text ≡ o
whole text i o h e = ap (spec.run (spec.begin MAX_DEPTH) 0) (sym (take_all i text h)) ∙ e

pub end_fault : (text : List ℕ) (i : ℕ) (m : spec.Mode) (room : ℕ) (fs : List spec.Frame) (e : JsonError) (r : Reader) → length text ≤ i → spec.run (spec.begin MAX_DEPTH) 0 (take i text) ≡ go m room fs
    → Ends (length text) (Err e) r (go m room fs) → IsFault text e
end_fault text i m room fs (Syntax at) r past before h = subst (IsSyntaxFault text) (sym h.0) (syntax_at_end text m room fs (whole text i (go m room fs) past before) h.1)
end_fault text i m room fs (Deep at) r past before h = absurd h
end_fault text i m room fs Memory r past before h = tt

pub end_found : (text : List ℕ) (i : ℕ) (m : spec.Mode) (room : ℕ) (fs : List spec.Frame) (v : Tree) → length text ≤ i → spec.run (spec.begin MAX_DEPTH) 0 (take i text) ≡ go m room fs → spec.finish (length text) (go m room fs) ≡ Some v
    → SpellsWithin MAX_DEPTH text v
end_found text i m room fs v past before e = read_is_spelled MAX_DEPTH text v (ap (spec.finish (length text)) (whole text i (go m room fs) past before) ∙ e)

-- ---- the public clauses

pub verdict_tree : (text : List ℕ) (x : Result Document JsonError) → IsVerdict text x → IfOk x (λ d. (v : Tree) × Spells text v × HasTree d v)
verdict_tree text (Ok d) h = h
verdict_tree text (Err e) h = tt

pub verdict_spelled : (text : List ℕ) (x : Result Document JsonError) → IsVerdict text x → (v : Tree) → Spells text v → (x ≡ Err Memory → ⊥) → IsOk x
verdict_spelled text (Ok d) h v spells some = refl
verdict_spelled text (Err (Syntax at)) h v spells some = absurd (h.none v spells)
verdict_spelled text (Err (Deep at)) h v spells some = absurd (h.here (front_whole MAX_DEPTH text (at + 1) v spells))
verdict_spelled text (Err Memory) h v spells some = absurd (some refl)

verdict_syntax_on : (text : List ℕ) (x : Result Document JsonError) → IsVerdict text x → (at : ℕ) → x ≡ Err (Syntax at) → IsSyntaxFault text at
verdict_syntax_on text x h at e = subst (IsVerdict text) e h

verdict_syntax_back : (text : List ℕ) (x : Result Document JsonError) → IsVerdict text x → (at : ℕ) → (x ≡ Err Memory → ⊥) → IsSyntaxFault text at → x ≡ Err (Syntax at)
verdict_syntax_back text (Ok d) h at some fault = absurd (fault.none h.0 h.1)
verdict_syntax_back text (Err (Syntax n)) h at some fault = ap (λ k. Err (Syntax k)) (one_longest text n at h.longest fault.longest)
verdict_syntax_back text (Err (Deep n)) h at some fault = absurd (fault.not_deep n h)
verdict_syntax_back text (Err Memory) h at some fault = absurd (some refl)

pub verdict_syntax : (text : List ℕ) (x : Result Document JsonError) → IsVerdict text x → (at : ℕ) → (x ≡ Err Memory → ⊥) → (x ≡ Err (Syntax at)) ↔ IsSyntaxFault text at
verdict_syntax text x h at some = (verdict_syntax_on text x h at, verdict_syntax_back text x h at some)

verdict_deep_on : (text : List ℕ) (x : Result Document JsonError) → IsVerdict text x → (at : ℕ) → x ≡ Err (Deep at) → IsTooDeep text at
verdict_deep_on text x h at e = subst (IsVerdict text) e h

verdict_deep_back : (text : List ℕ) (x : Result Document JsonError) → IsVerdict text x → (at : ℕ) → (x ≡ Err Memory → ⊥) → IsTooDeep text at → x ≡ Err (Deep at)
verdict_deep_back text (Ok d) h at some fault = absurd (fault.here (front_whole MAX_DEPTH text (at + 1) h.0 h.1))
verdict_deep_back text (Err (Syntax n)) h at some fault = absurd (h.not_deep at fault)
verdict_deep_back text (Err (Deep n)) h at some fault = ap (λ k. Err (Deep k)) (one_too_deep text n at h fault)
verdict_deep_back text (Err Memory) h at some fault = absurd (some refl)

pub verdict_deep : (text : List ℕ) (x : Result Document JsonError) → IsVerdict text x → (at : ℕ) → (x ≡ Err Memory → ⊥) → (x ≡ Err (Deep at)) ↔ IsTooDeep text at
verdict_deep text x h at some = (verdict_deep_on text x h at, verdict_deep_back text x h at some)
