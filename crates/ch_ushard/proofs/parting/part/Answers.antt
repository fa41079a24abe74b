use Rattle.std.proofs.Common.{◌≡◌, ◌∙◌, ◌++◌, [], Some, false, ap, sym, append-nil, arith}
use Rattle.std.proofs.lemmas.List.{nil_from_length}
use Rattle.std.proofs.lemmas.Result.{on_ok_weaker}
use Rattle.ch_history.specs.SignIns.{of_user, has_any}
use Rattle.ch_watch.specs.Watches.{without}
use Rattle.ch_ushard.specs.Effects.{farewell, told}
use Rattle.ch_ushard.proofs.Told.{tells_others, tells_none, tells_nobody, unwatched_still}
use Rattle.ch_ushard.proofs.parting.part.Goals as goal
use Rattle.ch_ushard.proofs.parting.part.Goals.{then-has_other-via-then-has_other, then-has_other-via-else-has_other+then-watchers-eq0}

pub returns-then-has_other : goal.returns-then-has_other
returns-then-has_other c =
    let signs = without c.args.watches.now.signs c.args.socket in
    let seen = without c.args.watches.now.watches c.args.socket in
    let user = c.args.user.now in
    let nobody : farewell c.args.watches.now c.args.socket user ≡ [] =
    elim c.then-has_other.branch [
      | then-has_other-via-then-has_other w ↦ tells_none false signs seen user (sym c.has_other.ensures ∙ w.if-has_other.true)
      | then-has_other-via-else-has_other+then-watchers-eq0 w ↦
          tells_nobody false signs seen user
          (unwatched_still c.args.watches.now.watches c.args.socket user
          (nil_from_length (of_user c.args.watches.now.watches user) (omega (arith, w.watchers.ensures, w.if-watchers-eq0.true))))
    ] in
    sym (ap (λ ds. c.args.made.now ++ ds) nobody ∙ append-nil c.args.made.now)

pub returns : goal.returns
returns c =
    let w = c.args.watches.now in
    let others = of_user w.watches c.args.user.now in
    let none : has_any (without w.signs c.args.socket) c.args.user.now ≡ false = sym c.has_other.ensures ∙ c.if-has_other.false in
    let made = ap (λ f. told f (Some c.args.socket) others) c.in_ok-printed.ensures ∙ tells_others w c.args.socket c.args.user.now none in
    on_ok_weaker c.tell.result (λ is. is ∙ ap (λ ds. c.args.made.now ++ ds) made) c.tell.ensures
