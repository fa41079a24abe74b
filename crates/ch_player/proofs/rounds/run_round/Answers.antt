use Rattle.std.proofs.lemmas.Result.{IfOk-weaker}
use Rattle.ch_transcript.specs.Rounds.{tells_all, all_waiting, taken}
use Rattle.ch_player.specs.Rounding.{LosesEnded, RunsRound}
use Rattle.ch_player.proofs.Roundings.{WereOpen-told}
use Rattle.ch_player.proofs.rounds.run_round.Goals as goal

pub returns-clause-runs : goal.returns-clause-runs
returns-clause-runs c = λ sockets shards are at.
    let told = c.in_ok-take_round.ensures.tells sockets shards are at in
    let now = (tells_all sockets (all_waiting c.args.config.now shards)).sockets in
    let were = WereOpen-told c.args.seats.now.items c.take_round.new.seats.items sockets are c.requires.«open» c.in_ok-take_round.ensures.sessions in
    IfOk-weaker c.lose_ended.result
    (LosesEnded c.args.at c.lose_ended.new.bench c.lose_ended.new.seats.items sockets now (taken shards))
    (RunsRound c.args.config.now c.args.at c.lose_ended.new.bench c.lose_ended.new.seats.items c.args.out.now.items c.take_round.new.out.items sockets shards)
    (λ any lost. record { text = told.tells.text; loses = lost })
    (c.lose_ended.ensures.loses sockets now (taken shards) were told.tells.seats told.at_shards)
