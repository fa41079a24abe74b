use Rattle.std.proofs.Common.{◌≡◌, length, ap, sym, ◌∙◌, subst}
use mathlib.Core.Option.{some-injective}
use Rattle.ch_turn.specs.Callers.{CallersBelow}
use Rattle.ch_turn.specs.PassModels.{LockModel, EachGrowsByOthers}
use Rattle.ch_turn.specs.declared.table.Slot.TheVariants.{Value}
use Rattle.ch_turn.proofs.TableEnds.{closing_ends}
use Rattle.ch_turn.proofs.PassLists.{others_more}
use Rattle.ch_turn.proofs.Longest.{is_longest}
use Rattle.ch_turn.proofs.lock.TurnLock.close.Goals as goal

pub unreachable-requires : goal.unreachable-requires
unreachable-requires g c =
    let e = closing_ends g.T.Served.place g.T.Served.legal g.T.Served.stands _ _ _ _ _ _ c.gather-seat.ensures.gathered c.close_with-closed.ensures.values.2 in
    c.in_default.not-Value e.value (some-injective _ _ (sym c.take.ensures.value ∙ e.stored))

pub returns : goal.returns
returns g c =
    let e = closing_ends g.T.Served.place g.T.Served.legal g.T.Served.stands _ _ _ _ _ _ c.gather-seat.ensures.gathered c.close_with-closed.ensures.values.2 in
    let out : c.take.result ≡ Value e.value = some-injective _ _ (sym c.take.ensures.value ∙ e.stored) in
    let is = c.in-Value.is in
    let same : e.value ≡ c.in-Value.value = cc (out, is) in
    let counted : length e.log ≡ c.word-entries.result = some-injective _ _ (sym e.counted ∙ c.word-entries.ensures) in
    let place = ap (λ (l : LockModel). l.place) c.self.view_is in
    let callers = ap (λ (l : LockModel). l.callers) c.self.view_is in
    let each : EachGrowsByOthers c.args.passes.slots e.log =
    λ i p at. others_more p.caller p.seen c.gather-seat.result.me.0.seen e.log e.unseen (c.gather-seat.ensures.each i p at) e.seen_begins (e.others p.caller (c.gather-seat.ensures.callers i p at)) in
    let known : CallersBelow c.args.self.callers e.log = subst (λ n. CallersBelow n e.log) callers e.known_callers in
    let of_passes : CallersBelow c.args.passes.lock.callers e.log = subst (λ (l : LockModel). CallersBelow l.callers e.log) (sym c.requires.own) known in record {
      history = record {
        log = e.log;
        is_legal = subst (λ p. g.T.Served.legal p e.log) place e.lawful;
        is_right = subst (λ x. g.T.Served.stands x e.log) same e.right;
        count = counted;
        each_pass = each;
        known_callers = known;
        longest = is_longest g.T.Served.legal c.args.passes.lock c.args.passes.slots e.log c.gather-seat.ensures.in_place c.requires.all each of_passes;
      };
      place = ap g.T.Served.place (sym same) ∙ (e.placed ∙ place);
    }
