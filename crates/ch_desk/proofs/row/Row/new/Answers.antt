use Rattle.std.proofs.Common.{◌≡◌, sym, subst, arith}
use Rattle.ch_desk.proofs.Rows.{AreFresh, AreFresh-none, AreFresh-push, fresh_row, fresh_empty}
use Rattle.ch_desk.proofs.row.Row.new.Goals as goal

pub loop-k-init : goal.loop-k-init
loop-k-init g c = subst (AreFresh g.T.Served.place g.T.Served.stands c.args.n 0) (sym c.new-seats.ensures.items) (AreFresh-none g.T.Served.place g.T.Served.stands c.args.n)

pub loop-k-preserved : goal.loop-k-preserved
loop-k-preserved g c = AreFresh-push g.T.Served.place g.T.Served.stands c.args.n c.loop-k.k c.loop-k.seats.items c.push.new.self.items record { shard = c.in_ok-shard.shard; calls = c.new-in-loop-k.result }
    c.loop-k.invariant c.in_ok-push.ensures.items c.in_ok-shard.ensures.place c.in_ok-shard.ensures.empty c.new-in-loop-k.ensures.items

pub invariant_of-result : goal.invariant_of-result
invariant_of-result g c =
    let all : c.loop-k.k ≡ c.args.n = omega (arith, c.loop-k-test.false, c.loop-k.auto.k-end) in
    fresh_row g.T.Served.place g.T.Served.stands c.args.n c.loop-k.seats.items (subst (λ k. AreFresh g.T.Served.place g.T.Served.stands c.args.n k c.loop-k.seats.items) all c.loop-k.invariant) c.requires.0 c.requires.1

pub returns-clause-empty : goal.returns-clause-empty
returns-clause-empty g c =
    let all : c.loop-k.k ≡ c.args.n = omega (arith, c.loop-k-test.false, c.loop-k.auto.k-end) in
    fresh_empty g.T.Served.place g.T.Served.stands c.args.n c.loop-k.seats.items (subst (λ k. AreFresh g.T.Served.place g.T.Served.stands c.args.n k c.loop-k.seats.items) all c.loop-k.invariant)
