use Rattle.ch_player.proofs.HooksTaken.{all_taken, gathers_as}
use Rattle.ch_player.proofs.Played.{on_ok}
use Rattle.ch_player.proofs.hooks.gather_hooks.Goals as goal

pub returns-in-Ok-clause-gathers : goal.returns-in-Ok-clause-gathers
returns-in-Ok-clause-gathers c = λ shards lists alone.
    let g = c.in-Ok.ensures in
    let all = all_taken c.calls_alone.ensures.calls c.args.at g.0 c.args.bench.now c.gather.new.desk shards g.1 g.2.0.0 g.2.0.1 alone lists in
    on_ok c.print_batches.result
    (λ prints. gathers_as c.args.at g.0 c.args.bench.now c.gather.new.desk c.args.batcher.now.state c.gather.new.self.state c.print_batches.new.batcher.state c.args.out.now.items
    c.print_batches.new.out.items shards all g.2.1.1 prints)
    c.print_batches.ensures
