use Rattle.std.proofs.Common.{rules, ◌≡◌, [], ◌∷◌, Ok, ap, sym, refl, ◌∙◌, subst}
use Rattle.atomic_table.specs.Table.{rest}
use Rattle.ch_turn.specs.Tickets.{HasTurn}
use Rattle.ch_turn.specs.declared.table.Slot.TheVariants.{Pending}
use Rattle.ch_turn.proofs.CallSteps.{commit_keeps}
use Rattle.ch_turn.proofs.PendingCalls.{pending_legal, pending_view}
use Rattle.ch_turn.proofs.call.commit.Goals as goal

pub fetch_add-requires : goal.fetch_add-requires
fetch_add-requires g c =
    let now = c.exchange.ensures.3 in
    let same : c.args.seat.now.me.0 ≡ c.exchange.new.seat.me.0 = sym (ap (λ m. m.0) now) in
    let told : Ok c.of-in-Ok.result.value ≡ c.args.outcome.now = ap (λ a. Ok a) c.of-in-Ok.ensures ∙ sym c.in-Ok.is in
    let hand : c.exchange.new.seat.me.1 ≡ (0, Pending c.of.result c.of-in-Ok.result) ∷ [] = ap (λ m. m.1) now ∙ ap (λ slots. (0, Pending c.of.result c.of-in-Ok.result) ∷ rest slots) c.requires.turn.1 in (
      search rules,
      search rules,
      commit_keeps g.T.Served.place g.T.Served.legal g.T.Served.stands _ _ _ _ _ c.requires.turn.0.0 c.of.result c.of-in-Ok.result (sym (ap (λ v. v.stage) same) ∙ c.requires.turn.0.1) hand
          (pending_legal g.T.Served.legal c.args.seat.now.me.0 c.exchange.new.seat.me.0 c.args.call.now c.of.result.value c.of-in-Ok.result.value c.args.outcome.now same c.of.ensures told c.requires.legal),
    )

pub returns-in-Ok-clause-slot : goal.returns-in-Ok-clause-slot
returns-in-Ok-clause-slot g c =
    let now = c.exchange.ensures.3 in
    let t = c.requires.turn.0.0 in
    let hand : c.exchange.new.seat.me.1 ≡ (0, Pending c.of.result c.of-in-Ok.result) ∷ [] = ap (λ m. m.1) now ∙ ap (λ slots. (0, Pending c.of.result c.of-in-Ok.result) ∷ rest slots) c.requires.turn.1 in
    let did = c.fetch_add.ensures.2 t c.of.result c.of-in-Ok.result (ap (λ m. m.0.stage) now ∙ c.requires.turn.0.1) hand in
    (t, subst (HasTurn t) (sym (ap (λ v. v.stage) did.1)) refl, Pending c.of.result c.of-in-Ok.result, did.0 ∙ hand)

pub returns-in-Ok-clause-view : goal.returns-in-Ok-clause-view
returns-in-Ok-clause-view g c =
    let now = c.exchange.ensures.3 in
    let t = c.requires.turn.0.0 in
    let same : c.args.seat.now.me.0 ≡ c.exchange.new.seat.me.0 = sym (ap (λ m. m.0) now) in
    let told : Ok c.of-in-Ok.result.value ≡ c.args.outcome.now = ap (λ a. Ok a) c.of-in-Ok.ensures ∙ sym c.in-Ok.is in
    let hand : c.exchange.new.seat.me.1 ≡ (0, Pending c.of.result c.of-in-Ok.result) ∷ [] = ap (λ m. m.1) now ∙ ap (λ slots. (0, Pending c.of.result c.of-in-Ok.result) ∷ rest slots) c.requires.turn.1 in
    let did = c.fetch_add.ensures.2 t c.of.result c.of-in-Ok.result (ap (λ m. m.0.stage) now ∙ c.requires.turn.0.1) hand in
    pending_view c.args.seat.now.me.0 c.exchange.new.seat.me.0 c.fetch_add.new.seat.me.0 t c.args.call.now c.of.result.value c.of-in-Ok.result.value c.args.outcome.now same c.of.ensures told did.1
