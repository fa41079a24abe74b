use Rattle.std.proofs.Common.{◌∙◌, sym, refl, append-nil}
use Rattle.std.specs.Prelude.{[]}
use Rattle.ch_transcript.specs.Obeying.{takes_turn}
use Rattle.ch_transcript.specs.Progress.{socket_of, quietly}
use Rattle.ch_transcript.specs.Turns.{ends_turn}
use Rattle.ch_player.proofs.Played.{found, turn_none, turn_quiet, turn_taken}
use Rattle.ch_player.proofs.player.Player.lose.Goals as goal

pub returns-then-not-has_socket-clause-loses : goal.returns-then-not-has_socket-clause-loses
returns-then-not-has_socket-clause-loses c = λ p wrote is.
    let has = found c.as_slice.result.now c.args.self.now.seats.items p.sockets c.args.number c.has_socket.result c.as_slice.ensures.value c.has_socket.ensures.has is.seats in
    turn_none p c.args.number (ends_turn [] c.args.number c.args.at) (has ∙ c.if-not-has_socket.true)

pub returns-in_default-clause-loses : goal.returns-in_default-clause-loses
returns-in_default-clause-loses c = λ p wrote is.
    let has = found c.as_slice.result.now c.args.self.now.seats.items p.sockets c.args.number c.has_socket.result c.as_slice.ensures.value c.has_socket.ensures.has is.seats in
    let there = has ∙ c.if-not-has_socket.false in
    let taken = c.in_default.ensures.taken p.sockets is.seats in
    record {
      played = quietly p;
      is = turn_quiet p c.args.number (ends_turn [] c.args.number c.args.at) there taken.0;
      text = sym (append-nil wrote);
      next = record { at = is.at; seats = taken.1; shards = is.shards; webhooks = is.webhooks };
    }

pub returns-clause-loses : goal.returns-clause-loses
returns-clause-loses c = λ p wrote is.
    let has = found c.as_slice.result.now c.args.self.now.seats.items p.sockets c.args.number c.has_socket.result c.as_slice.ensures.value c.has_socket.ensures.has is.seats in
    let there = has ∙ c.if-not-has_socket.false in
    let taken = c.in-Some.ensures.taken p.sockets is.seats in
    let s = socket_of p.sockets c.args.number in
    let turn = ends_turn [] c.args.number c.args.at in
    record {
      played = takes_turn p c.args.number (turn s p.shards);
      is = turn_taken p c.args.number turn there taken.0;
      text = sym (append-nil wrote);
      next = record { at = is.at; seats = c.put_session.ensures.put p.sockets (turn s p.shards).socket taken.2 refl; shards = c.in_ok-lose.ensures.lost s p.shards taken.1 is.shards c.alone.ensures; webhooks = is.webhooks };
    }
