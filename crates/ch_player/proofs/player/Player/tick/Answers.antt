use Rattle.std.proofs.Common.{◌∙◌, sym, append-nil}
use Rattle.ch_transcript.specs.Obeying.{takes_turn}
use Rattle.ch_transcript.specs.Progress.{socket_of, quietly}
use Rattle.ch_transcript.specs.Turns.{ticks}
use Rattle.ch_player.proofs.Played.{found, turn_none, turn_quiet, turn_taken}
use Rattle.ch_player.proofs.player.Player.tick.Goals as goal

pub returns-then-not-has_socket-clause-ticks : goal.returns-then-not-has_socket-clause-ticks
returns-then-not-has_socket-clause-ticks c = λ p is.
    let has = found c.as_slice.result.now c.args.self.now.seats.items p.sockets c.args.number c.has_socket.result c.as_slice.ensures.value c.has_socket.ensures.has is.seats in
    turn_none p c.args.number (ticks c.args.number c.args.at) (has ∙ c.if-not-has_socket.true)

pub returns-in_default-clause-ticks : goal.returns-in_default-clause-ticks
returns-in_default-clause-ticks c = λ p is.
    let has = found c.as_slice.result.now c.args.self.now.seats.items p.sockets c.args.number c.has_socket.result c.as_slice.ensures.value c.has_socket.ensures.has is.seats in
    let there = has ∙ c.if-not-has_socket.false in
    let taken = c.in_default.ensures.taken p.sockets is.seats in
    record {
      played = quietly p;
      is = turn_quiet p c.args.number (ticks c.args.number c.args.at) there taken.0;
      text = sym (append-nil c.args.out.now.items);
      next = record { at = is.at; seats = taken.1; shards = is.shards; webhooks = is.webhooks };
    }

pub returns-clause-ticks : goal.returns-clause-ticks
returns-clause-ticks c = λ p is.
    let has = found c.as_slice.result.now c.args.self.now.seats.items p.sockets c.args.number c.has_socket.result c.as_slice.ensures.value c.has_socket.ensures.has is.seats in
    let there = has ∙ c.if-not-has_socket.false in
    let taken = c.in-Some.ensures.taken p.sockets is.seats in
    let s = socket_of p.sockets c.args.number in
    let turn = ticks c.args.number c.args.at in
    let h = c.in_ok-left.ensures.ticks s p.shards taken.1 is.shards c.alone.ensures in
    record {
      played = takes_turn p c.args.number (turn s p.shards);
      is = turn_taken p c.args.number turn there taken.0;
      text = h.text;
      next = record { at = is.at; seats = c.put_session.ensures.put p.sockets (turn s p.shards).socket taken.2 h.socket; shards = h.shards; webhooks = is.webhooks };
    }

pub returns-clause-sound : goal.returns-clause-sound
returns-clause-sound c =
    let config = c.args.self.now.config in
    record {
      ready = c.put_session.ensures.ready config (c.in-Some.ensures.others config c.requires.sound.ready)
          c.in_ok-left.ensures.ready;
      all_open = c.put_session.ensures.open;
    }
