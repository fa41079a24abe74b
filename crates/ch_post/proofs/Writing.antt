-- A request that is written and a response that is read, step by step.
use Rattle.std.proofs.Common.{◌≡◌, ◌∙◌, ℕ, Bool, true, false, List, [], ◌++◌, take, drop, ap, sym, subst, refl, append_assoc, append-nil, inl, inr, arith}
use Rattle.std.proofs.lemmas.List.{take-append-drop}
use Rattle.ch_net.specs.Laws.{LinksLaw}
use Rattle.ch_net.specs.Links.{LinkTold, LinkMoves}
use Rattle.ch_post.specs.Talks.{TalkView, IsStuck, HasWritten, Writes}

-- so much was written, and this is left
pub record Wrote (bytes left : List ℕ) (old new : TalkView) : Type 0 where
  pub sent : List ℕ
  pub moves : LinkMoves old.link new.link [] sent
  pub front : bytes ≡ sent ++ left
  pub went_on : new.goes_on ≡ true → old.goes_on ≡ true
  pub silent : old.goes_on ≡ false → sent ≡ []
  pub stuck : old.goes_on ≡ true → new.goes_on ≡ false → IsStuck new.link.counts

pub wrote_more : LinksLaw → (bytes left rest : List ℕ) (n : ℕ) (old mid new : TalkView) → Wrote bytes left old mid → mid.goes_on ≡ true → new.goes_on ≡ true
    → rest ≡ drop n left → LinkMoves mid.link new.link [] (take n left) → Wrote bytes rest old new
wrote_more law bytes left rest n old mid new w going still is moves = record {
  sent = w.sent ++ take n left;
  moves = law.chain old.link mid.link new.link [] [] w.sent (take n left) w.moves moves;
  front = w.front ∙ ap (λ z. w.sent ++ z) (sym (take-append-drop n left)) ∙ sym (append_assoc w.sent (take n left) (drop n left)) ∙ ap (λ z. (w.sent ++ take n left) ++ z) (sym is);
  went_on = λ t. w.went_on going;
  silent = λ quiet. let h : true ≡ false = sym (w.went_on going) ∙ quiet in cc;
  stuck = λ a b. let h : true ≡ false = sym still ∙ b in cc;
}

-- so much was read
pub record Read (seen : List ℕ) (old new : TalkView) : Type 0 where
  pub moves : LinkMoves old.link new.link seen []
  pub went_on : new.goes_on ≡ true → old.goes_on ≡ true
  pub silent : old.goes_on ≡ false → seen ≡ []
  pub stuck : old.goes_on ≡ true → new.goes_on ≡ false → IsStuck new.link.counts

pub read_more : LinksLaw → (seen more after : List ℕ) (old mid new : TalkView) → Read seen old mid → mid.goes_on ≡ true → new.goes_on ≡ true
    → after ≡ seen ++ more → LinkMoves mid.link new.link more [] → Read after old new
read_more law seen more after old mid new r going still is moves = record {
  moves = subst (λ z. LinkMoves old.link new.link z []) (sym is) (law.chain old.link mid.link new.link seen more [] [] r.moves moves);
  went_on = λ t. r.went_on going;
  silent = λ quiet. let h : true ≡ false = sym (r.went_on going) ∙ quiet in cc;
  stuck = λ a b. let h : true ≡ false = sym still ∙ b in cc;
}

stuck_still : (old new : LinkTold) (sent : List ℕ) → LinkMoves old new [] sent → IsStuck old.counts → IsStuck new.counts
stuck_still old new sent moves (inl faults) = inl (omega (arith, faults, moves.counts.faults))
stuck_still old new sent moves (inr (inl ends)) = inr (inl (omega (arith, ends, moves.counts.ends)))
stuck_still old new sent moves (inr (inr stalls)) = inr (inr (omega (arith, stalls, moves.counts.stalls)))

-- a piece that is to be written goes behind those before
written_by : LinksLaw → (fresh : LinkTold) (all bytes : List ℕ) (mid new : TalkView) (b : Bool) → b ≡ mid.goes_on → HasWritten fresh all mid → Writes bytes mid new → HasWritten fresh (all ++ bytes) new
written_by law fresh all bytes mid new true on h w = record {
  sent = h.sent ++ w.sent;
  rest = w.rest;
  moves = law.chain fresh mid.link new.link [] [] h.sent w.sent h.moves w.moves;
  front = ap (λ z. z ++ bytes) (h.front ∙ ap (λ z. h.sent ++ z) (h.whole (sym on)) ∙ append-nil h.sent) ∙ ap (λ z. h.sent ++ z) w.front ∙ sym (append_assoc h.sent w.sent w.rest);
  whole = w.whole;
  stuck = λ off. w.stuck (sym on) off;
}
written_by law fresh all bytes mid new false off h w = record {
  sent = h.sent;
  rest = h.rest ++ bytes;
  moves = subst (λ z. LinkMoves fresh new.link [] z) (ap (λ z. h.sent ++ z) (w.silent (sym off)) ∙ append-nil h.sent) (law.chain fresh mid.link new.link [] [] h.sent w.sent h.moves w.moves);
  front = ap (λ z. z ++ bytes) h.front ∙ append_assoc h.sent h.rest bytes;
  whole = λ on. let h : false ≡ true = off ∙ w.went_on on in cc;
  stuck = λ o. stuck_still mid.link new.link w.sent w.moves (h.stuck (sym off));
}

pub written_then : LinksLaw → (fresh : LinkTold) (all bytes : List ℕ) (mid new : TalkView) → HasWritten fresh all mid → Writes bytes mid new → HasWritten fresh (all ++ bytes) new
written_then law fresh all bytes mid new h w = written_by law fresh all bytes mid new mid.goes_on refl h w

-- nothing was to be written yet
pub written_none : LinksLaw → (fresh : TalkView) → fresh.goes_on ≡ true → HasWritten fresh.link [] fresh
written_none law fresh on = record {
  sent = [];
  rest = [];
  moves = law.stay fresh.link;
  front = refl;
  whole = λ t. refl;
  stuck = λ off. let h : true ≡ false = sym on ∙ off in cc;
}

-- the same of a piece that is these bytes
pub written_as : LinksLaw → (fresh : LinkTold) (all bytes piece : List ℕ) (mid new : TalkView) → piece ≡ bytes → HasWritten fresh all mid → Writes piece mid new
    → HasWritten fresh (all ++ bytes) new
written_as law fresh all bytes piece mid new is h w = subst (λ z. HasWritten fresh (all ++ z) new) is (written_then law fresh all piece mid new h w)
