use Rattle.std.proofs.lemmas.Result.{on_ok_weaker}
use Rattle.ch_transcript.specs.Rounds.{tells_all}
use Rattle.ch_player.specs.Rounding.{chans_waiting, users_waiting, taken_chans}
use Rattle.ch_player.proofs.Roundings.{Tells-both}
use Rattle.ch_player.proofs.rounds.take_round.Goals as goal

pub returns-clause-tells : goal.returns-clause-tells
returns-clause-tells c = λ sockets shards are at.
    let config = c.args.config.now in
    let first = c.in_ok-tell_chans.ensures.tells sockets shards are at in
    let chans = chans_waiting shards config.chan_shards in
    let users = users_waiting shards config.user_shards in
    on_ok_weaker c.tell_users.result
    (λ more. record {
      tells = Tells-both c.tell_users.new.seats.items c.args.out.now.items c.tell_chans.new.out.items c.tell_users.new.out.items sockets chans users first.tells.text more.tells;
      at_shards = more.at_shards;
    })
    (c.tell_users.ensures.tells (tells_all sockets chans).sockets (taken_chans shards) first.tells.seats first.at_shards)
