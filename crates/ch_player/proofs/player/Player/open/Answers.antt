use Rattle.std.proofs.Common.{◌≡◌, ◌<◌, ◌+◌, ◌++◌, ◌∙◌, ap, subst, length, arith}
use Rattle.ch_protocol.specs.Targets.{target_refusal}
use Rattle.ch_socket.specs.Sockets.{IsSocketOf}
use Rattle.ch_transcript.specs.Obeying.{opening_lines}
use Rattle.ch_transcript.specs.declared.limits.TheConstants.{MOST_OPENED}
use Rattle.ch_player.specs.Steps.{new_socket}
use Rattle.ch_player.proofs.Played.{opened, opens_is}
use Rattle.ch_player.proofs.player.Player.open.Goals as goal

pub returns-clause-opens : goal.returns-clause-opens
returns-clause-opens c = λ p is.
    let refusal = target_refusal c.args.self.now.config.key c.args.target.now in
    let s = new_socket c.args.at refusal in
    let number : c.len-2.result + 1 ≡ length p.sockets + 1 = omega (arith, c.len-2.ensures, is.seats.count) in
    let few : length p.sockets < MOST_OPENED = omega (arith, c.len.ensures, is.seats.count, c.if-len-ge-MOST_OPENED.false) in
    let greets = c.in_ok-session.ensures.greets in
    record {
      played = opened p c.args.at refusal;
      is = opens_is p c.args.at refusal few;
      text = greets.text ∙ ap (λ n. c.args.out.now.items ++ opening_lines n refusal) number;
      next = record {
        at = is.at;
        seats = c.in_ok-add_session.ensures.added p.sockets s is.seats (subst (λ n. IsSocketOf n c.in_ok-session.session s) number greets.socket);
        shards = is.shards;
        webhooks = is.webhooks;
      };
    }
