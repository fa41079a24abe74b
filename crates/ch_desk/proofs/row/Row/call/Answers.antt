use Rattle.std.proofs.Common.{[], length, slice_index_or}
use Rattle.ch_desk.proofs.AnswerKinds.{answer_kind}
use Rattle.ch_desk.proofs.Rows.{calls_on, fits_at}
use Rattle.ch_desk.proofs.row.Row.call.Goals as goal

pub call_at-requires : goal.call_at-requires
call_at-requires g c = record {
  fits = fits_at g.T.Served.place g.T.Served.stands g.T.Served.fits c.args.self.now c.self.inside.seats.items c.args.k c.index_mut-seat.result.now c.args.call.now c.self.view_is c.self.invariant
      c.index_mut-seat.ensures.value c.requires.shard c.requires.fits;
}

pub invariant_of-self : goal.invariant_of-self
invariant_of-self g c =
    (calls_on g.T.Served.place g.T.Served.stands g.T.Served.legal g.met.T.Served.stands_legal g.T.Shard.answer_of g.met.T.Shard.answered c.args.self.now c.self.inside.seats.items c.args.k c.index_mut-seat.result.now c.call_at.new.seat
    c.args.call.now c.call_at.result c.self.view_is c.self.invariant c.index_mut-seat.ensures.value c.requires.shard c.call_at.ensures.place c.call_at.ensures.grows c.call_at.ensures.right).is_row

pub returns-clause-next : goal.returns-clause-next
returns-clause-next g c =
    (calls_on g.T.Served.place g.T.Served.stands g.T.Served.legal g.met.T.Served.stands_legal g.T.Shard.answer_of g.met.T.Shard.answered c.args.self.now c.self.inside.seats.items c.args.k c.index_mut-seat.result.now c.call_at.new.seat
    c.args.call.now c.call_at.result c.self.view_is c.self.invariant c.index_mut-seat.ensures.value c.requires.shard c.call_at.ensures.place c.call_at.ensures.grows c.call_at.ensures.right).next

pub returns-clause-grows : goal.returns-clause-grows
returns-clause-grows g c =
    (calls_on g.T.Served.place g.T.Served.stands g.T.Served.legal g.met.T.Served.stands_legal g.T.Shard.answer_of g.met.T.Shard.answered c.args.self.now c.self.inside.seats.items c.args.k c.index_mut-seat.result.now c.call_at.new.seat
    c.args.call.now c.call_at.result c.self.view_is c.self.invariant c.index_mut-seat.ensures.value c.requires.shard c.call_at.ensures.place c.call_at.ensures.grows c.call_at.ensures.right).grows

pub returns-clause-legal : goal.returns-clause-legal
returns-clause-legal g c =
    (calls_on g.T.Served.place g.T.Served.stands g.T.Served.legal g.met.T.Served.stands_legal g.T.Shard.answer_of g.met.T.Shard.answered c.args.self.now c.self.inside.seats.items c.args.k c.index_mut-seat.result.now c.call_at.new.seat
    c.args.call.now c.call_at.result c.self.view_is c.self.invariant c.index_mut-seat.ensures.value c.requires.shard c.call_at.ensures.place c.call_at.ensures.grows c.call_at.ensures.right).legal_now

pub returns-clause-same : goal.returns-clause-same
returns-clause-same g c =
    (calls_on g.T.Served.place g.T.Served.stands g.T.Served.legal g.met.T.Served.stands_legal g.T.Shard.answer_of g.met.T.Shard.answered c.args.self.now c.self.inside.seats.items c.args.k c.index_mut-seat.result.now c.call_at.new.seat
    c.args.call.now c.call_at.result c.self.view_is c.self.invariant c.index_mut-seat.ensures.value c.requires.shard c.call_at.ensures.place c.call_at.ensures.grows c.call_at.ensures.right).same

pub returns-clause-kind : goal.returns-clause-kind
returns-clause-kind g c =
    let on = calls_on g.T.Served.place g.T.Served.stands g.T.Served.legal g.met.T.Served.stands_legal g.T.Shard.answer_of g.met.T.Shard.answered c.args.self.now c.self.inside.seats.items c.args.k c.index_mut-seat.result.now c.call_at.new.seat
    c.args.call.now c.call_at.result c.self.view_is c.self.invariant c.index_mut-seat.ensures.value c.requires.shard c.call_at.ensures.place c.call_at.ensures.grows c.call_at.ensures.right in
    answer_kind g.T.Served.legal g.T.Shard.answer_of g.T.Shard.is_answer_to g.met.T.Shard.answered g.met.T.Shard.kind (c.args.k, length c.args.self.now) 0 c.args.call.now c.call_at.result (slice_index_or c.args.self.now c.args.k []) _ on.grows on.legal_now
