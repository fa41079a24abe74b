use Rattle.std.proofs.Common.{◌≡◌, ◌∙◌, ◌++◌, [], None, true, false, ap₂, sym, arith}
use Rattle.std.proofs.lemmas.List.{nil_from_length}
use Rattle.ch_history.specs.SignIns.{of_user, has_any}
use Rattle.ch_history.specs.UserFrames.{tell_watchers}
use Rattle.ch_ushard.specs.Effects.{told}
use Rattle.ch_ushard.proofs.Told.{tells_all, tells_none, tells_nobody}
use Rattle.ch_ushard.proofs.telling.greeting.Goals as goal
use Rattle.ch_ushard.proofs.telling.greeting.Goals.{then-is_online-via-then-is_online, then-is_online-via-else-is_online+then-watchers-eq0}

pub returns-then-is_online : goal.returns-then-is_online
returns-then-is_online c =
    let signs = c.args.watches.now.signs in
    let seen = c.args.watches.now.watches in
    let user = c.args.user.now in
    let nobody : tell_watchers true signs seen user ≡ [] =
    elim c.then-is_online.branch [
      | then-is_online-via-then-is_online w ↦ tells_none true signs seen user (sym c.is_online.ensures ∙ w.if-is_online.true)
      | then-is_online-via-else-is_online+then-watchers-eq0 w ↦
          tells_nobody true signs seen user (nil_from_length (of_user seen user) (omega (arith, w.watchers.ensures, w.if-watchers-eq0.true)))
    ] in
    c.new-made.ensures ∙ sym nobody

pub returns : goal.returns
returns c =
    let signs = c.args.watches.now.signs in
    let seen = c.args.watches.now.watches in
    let none : has_any signs c.args.user.now ≡ false = sym c.is_online.ensures ∙ c.if-is_online.false in
    c.in_ok-tell.ensures
    ∙ ap₂ (λ ds f. ds ++ told f None (of_user seen c.args.user.now)) c.new-made.ensures c.in_ok-printed.ensures
    ∙ tells_all signs seen c.args.user.now none
