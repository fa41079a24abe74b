use Rattle.std.proofs.Common.{◌∙◌, sym, append-nil}
use Rattle.ch_transcript.specs.Obeying.{takes_turn}
use Rattle.ch_transcript.specs.Progress.{socket_of, quietly}
use Rattle.ch_transcript.specs.Turns.{hears}
use Rattle.ch_player.proofs.Played.{no_reading, found, not_live, turn_none, turn_quiet, turn_taken, hears_nothing, hears_text}
use Rattle.ch_player.proofs.player.Player.hear.Goals as goal

pub returns-then-not-has_socket-clause-hears : goal.returns-then-not-has_socket-clause-hears
returns-then-not-has_socket-clause-hears c = λ p is.
    let has = found c.as_slice.result.now c.args.self.now.seats.items p.sockets c.args.number c.has_socket.result c.as_slice.ensures.value c.has_socket.ensures.has is.seats in
    let gone = has ∙ c.if-not-has_socket.true in
    (no_reading, hears_nothing p c.args.number c.args.text.now (not_live p.sockets c.args.number gone), turn_none p c.args.number (hears c.args.self.now.config c.args.number c.args.at no_reading) gone)

pub returns-in_default-clause-hears : goal.returns-in_default-clause-hears
returns-in_default-clause-hears c = λ p is.
    let has = found c.as_slice.result.now c.args.self.now.seats.items p.sockets c.args.number c.has_socket.result c.as_slice.ensures.value c.has_socket.ensures.has is.seats in
    let there = has ∙ c.if-not-has_socket.false in
    let taken = c.in_default.ensures.taken p.sockets is.seats in
    record {
      played = quietly p;
      is = (no_reading, hears_nothing p c.args.number c.args.text.now taken.0, turn_quiet p c.args.number (hears c.args.self.now.config c.args.number c.args.at no_reading) there taken.0);
      text = sym (append-nil c.args.out.now.items);
      next = record { at = is.at; seats = taken.1; shards = is.shards; webhooks = is.webhooks };
    }

pub returns-clause-hears : goal.returns-clause-hears
returns-clause-hears c = λ p is.
    let has = found c.as_slice.result.now c.args.self.now.seats.items p.sockets c.args.number c.has_socket.result c.as_slice.ensures.value c.has_socket.ensures.has is.seats in
    let there = has ∙ c.if-not-has_socket.false in
    let taken = c.in-Some.ensures.taken p.sockets is.seats in
    let s = socket_of p.sockets c.args.number in
    let h = c.in_ok-left.ensures.hears s p.shards taken.1 is.shards c.alone.ensures in
    let turn = hears c.args.self.now.config c.args.number c.args.at h.0 in
    record {
      played = takes_turn p c.args.number (turn s p.shards);
      is = (h.0, hears_text p c.args.number c.args.text.now h.0 taken.0 h.1, turn_taken p c.args.number turn there taken.0);
      text = h.2.text;
      next = record { at = is.at; seats = c.put_session.ensures.put p.sockets (turn s p.shards).socket taken.2 h.2.socket; shards = h.2.shards; webhooks = is.webhooks };
    }
