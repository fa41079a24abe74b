use Rattle.std.proofs.Common.{[], ◌∷◌, sym, subst, arith}
use Rattle.std.specs.Prelude.{All}
use Rattle.std.proofs.lemmas.List.Elements.{All-cons, All-nil}
use Rattle.ch_history.specs.Limits.{IsSocket}
use Rattle.ch_net.specs.declared.arrivals.Arrival.{Arrival}
use Rattle.rows_worker.specs.declared.noted.NotedLink.{NotedLink}
use Rattle.rows_worker.proofs.workers.serve_both.Goals as goal

pub new-arrivals-requires : goal.new-arrivals-requires
new-arrivals-requires g c =
    let P = λ (a : Arrival NotedLink). IsSocket a.number in
    let first = c.in_ok-subscriber.subscriber in
    let second = c.in_ok-back_end.back_end in
    subst (All P) (sym c.in_ok-vec.ensures.items)
    (All-cons P first (second ∷ []) (omega (arith, c.in_ok-subscriber.ensures), omega (arith, c.in_ok-subscriber.ensures))
    (All-cons P second [] (omega (arith, c.in_ok-back_end.ensures), omega (arith, c.in_ok-back_end.ensures)) (All-nil P)))
