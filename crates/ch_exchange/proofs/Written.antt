-- How far a reply was written.
use Rattle.std.proofs.Common.{◌≡◌, ℕ, List, [], ◌++◌, take, drop, ap, sym, subst, refl, ◌∙◌, append_assoc, append-nil}
use Rattle.std.proofs.lemmas.List.{take-append-drop}
use Rattle.ch_net.proofs.Moving.{LinkMoves-none, LinkMoves-then}
use Rattle.ch_net.specs.Links.{LinkTold, LinkMoves}
use Rattle.ch_exchange.specs.Pending.{Pending}
use Rattle.ch_exchange.specs.Writing.{IsWriting, WritesOut}
use Rattle.ch_exchange.specs.declared.writing.Writing.{Writing}
use Rattle.ch_exchange.specs.declared.writing.Writing.TheVariants.{All}

-- a front of what was left is written so far
pub record HasWritten (old now : Pending) (w v : LinkTold) : Type 0 where
  pub written : List ℕ
  pub moves : LinkMoves w v [] written
  pub front : old.left ≡ written ++ now.left
  pub after : now.after ≡ old.after

pub HasWritten-none : (old : Pending) (w : LinkTold) → HasWritten old old w w
HasWritten-none old w = record { written = []; moves = LinkMoves-none w; front = refl; after = refl }

-- after a call of the link that took some bytes
pub HasWritten-next : (old mid new : Pending) (w u v : LinkTold) (count : ℕ) (bytes : List ℕ) → HasWritten old mid w u → bytes ≡ mid.left → LinkMoves u v [] (take count bytes)
    → new ≡ record { left = drop count mid.left; after = mid.after } → HasWritten old new w v
HasWritten-next old mid new w u v count bytes h same moves is = record {
  written = h.written ++ take count mid.left;
  moves = LinkMoves-then w u v [] [] h.written (take count mid.left) h.moves (subst (λ xs. LinkMoves u v [] (take count xs)) same moves);
  front = h.front ∙ ap (λ z. h.written ++ z) (sym (take-append-drop count mid.left) ∙ ap (λ z. take count mid.left ++ z) (sym (ap (λ (p : Pending). p.left) is)))
      ∙ sym (append_assoc h.written (take count mid.left) new.left);
  after = ap (λ (p : Pending). p.after) is ∙ h.after;
}

-- after a call of the link that took nothing
pub HasWritten-stops : (old now : Pending) (w u v : LinkTold) (result : Writing) → HasWritten old now w u → LinkMoves u v [] [] → IsWriting now w v result
    → WritesOut old now w v result
HasWritten-stops old now w u v result h moves far = record {
  written = h.written;
  moves = subst (λ z. LinkMoves w v [] z) (append-nil h.written) (LinkMoves-then w u v [] [] h.written [] h.moves moves);
  front = h.front;
  after = h.after;
  far = far;
}

pub HasWritten-all : (old now : Pending) (w v : LinkTold) → HasWritten old now w v → now.left ≡ [] → WritesOut old now w v All
HasWritten-all old now w v h none = record { written = h.written; moves = h.moves; front = h.front; after = h.after; far = none }
