use Rattle.std.proofs.Common.{refl}
use Rattle.ch_player.proofs.player.Player.exchange.Goals as goal

pub returns-in-Ok-clause-exchanges : goal.returns-in-Ok-clause-exchanges
returns-in-Ok-clause-exchanges c = λ p is.
    let does = c.in-Ok.ensures.does p.shards is.shards c.alone.ensures in
    record {
      played = record { text = does.exchange.text; next = record { at = p.at; sockets = p.sockets; shards = does.exchange.shards; webhooks = p.webhooks } };
      is = (does.exchange, does.is, refl);
      text = does.text;
      next = record { at = is.at; seats = is.seats; shards = does.at_shards; webhooks = is.webhooks };
    }
