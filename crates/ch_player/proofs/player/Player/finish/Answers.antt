use Rattle.ch_player.proofs.Played.{on_ok, ran}
use Rattle.ch_player.proofs.player.Player.finish.Goals as goal

pub returns-clause-runs : goal.returns-clause-runs
returns-clause-runs c = λ p is.
    on_ok c.rounds.result (λ h. record { text = h.text; next = record { at = is.at; seats = h.seats; shards = h.at_shards; webhooks = is.webhooks } })
    (ran c.rounds.result c.rounds.new.bench c.rounds.new.seats.items c.args.out.now.items c.rounds.new.out.items c.args.self.now.config c.args.self.now.at p is.at (c.rounds.ensures.runs p.sockets p.shards is.seats is.shards))
