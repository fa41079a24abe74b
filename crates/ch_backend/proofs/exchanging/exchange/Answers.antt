use Rattle.ch_backend.proofs.exchanging.exchange.Goals as goal

pub returns-clause-does : goal.returns-clause-does
returns-clause-does g c = λ shards lists alone. c.exchange_by.ensures.does c.args.bytes.now shards c.in_ok-look.ensures lists alone
