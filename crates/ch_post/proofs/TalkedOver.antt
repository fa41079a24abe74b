-- A request that was written, and the response that was read: what the post answers.
use Rattle.std.proofs.Common.{◌≡◌, ◌∙◌, ◌⊎◌, ℕ, Bool, true, false, List, [], ap, sym, subst, refl, inl, inr, append-nil, arith}
use Rattle.std.specs.Prelude.{Some, None}
use Rattle.ch_edge.specs.Ends.{IsNewLink}
use Rattle.ch_io.specs.declared.post.Posted.{Posted}
use Rattle.ch_io.specs.declared.post.Posted.TheVariants.{Status, Failed}
use Rattle.ch_net.specs.Laws.{LinksLaw}
use Rattle.ch_net.specs.Links.{LinkTold, LinkMoves}
use Rattle.ch_post.specs.Posts.{Answers, HasNoLine, Talks, TellsAnswer}
use Rattle.ch_post.specs.StatusLines.{first_line}
use Rattle.ch_post.specs.Talks.{TalkView, IsStuck, IsEnough, HasWritten, Reads}
use Rattle.ch_post.specs.declared.seen.TheConstants.{MOST_SEEN}

stays_stuck : (old new : LinkTold) (seen : List ℕ) → LinkMoves old new seen [] → IsStuck old.counts → IsStuck new.counts
stays_stuck old new seen moves (inl faults) = inl (omega (arith, faults, moves.counts.faults))
stays_stuck old new seen moves (inr (inl ends)) = inr (inl (omega (arith, ends, moves.counts.ends)))
stays_stuck old new seen moves (inr (inr stalls)) = inr (inr (omega (arith, stalls, moves.counts.stalls)))

-- where no line came, the link was stuck as the request was written or as the response was read, or there were too many bytes
no_line : (request seen : List ℕ) (fresh : LinkTold) (mid new : TalkView) (b : Bool) → b ≡ mid.goes_on → HasWritten fresh request mid → Reads seen mid new
    → first_line seen ≡ None → ((new.goes_on ≡ true) × IsEnough MOST_SEEN seen) ⊎ ((new.goes_on ≡ false) × (mid.goes_on ≡ true → IsStuck new.link.counts)) → HasNoLine new.link seen
no_line request seen fresh mid new b is w r none (inl (on, inl (line, some))) = let h : None ≡ Some line = sym none ∙ some in cc
no_line request seen fresh mid new b is w r none (inl (on, inr many)) = (none, inr many)
no_line request seen fresh mid new true is w r none (inr (off, stuck)) = (none, inl (stuck (sym is)))
no_line request seen fresh mid new false is w r none (inr (off, stuck)) = (none, inl (stays_stuck mid.link new.link seen r.moves (w.stuck (sym is))))

-- where a line came, the whole request was written
whole : (request seen line : List ℕ) (fresh : LinkTold) (mid new : TalkView) (b : Bool) → b ≡ mid.goes_on → (w : HasWritten fresh request mid) → Reads seen mid new
    → first_line seen ≡ Some line → w.rest ≡ []
whole request seen line fresh mid new true is w r some = w.whole (sym is)
whole request seen line fresh mid new false is w r some =
    let h : None ≡ Some line = sym (ap first_line (r.silent (sym is))) ∙ some in cc

told : (request seen : List ℕ) (fresh : LinkTold) (mid new : TalkView) (w : HasWritten fresh request mid) → Reads seen mid new → (result : Posted)
    → Answers seen result → TellsAnswer w.rest new.link seen result
told request seen fresh mid new w r (Status status) (line, some, is) = (whole request seen line fresh mid new mid.goes_on refl w r some, (line, some, is))
told request seen fresh mid new w r Failed (inl none) = inl (no_line request seen fresh mid new mid.goes_on refl w r none r.enough)
told request seen fresh mid new w r Failed (inr other) = inr other

pub talks : LinksLaw → (request seen : List ℕ) (fresh : LinkTold) (mid new : TalkView) (result : Posted) → IsNewLink fresh → HasWritten fresh request mid
    → Reads seen mid new → Answers seen result → Talks request new.link seen result
talks law request seen fresh mid new result is w r answers = record {
  fresh = fresh;
  new = is;
  sent = w.sent;
  moves = subst (λ z. LinkMoves fresh new.link seen z) (append-nil w.sent) (law.chain fresh mid.link new.link [] seen w.sent [] w.moves r.moves);
  rest = w.rest;
  front = w.front;
  answer = told request seen fresh mid new w r result answers;
}
