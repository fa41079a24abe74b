use Rattle.std.proofs.Common.{◌∙◌, ◌++◌, List, ℕ, ap, codes}
use Rattle.std.specs.Fmt.{decimal}
use Rattle.ch_soak.proofs.Pieces.{joined}
use Rattle.ch_soak.proofs.generator.unsubscribe_command.Goals as goal

pub returns : goal.returns
returns c =
    let socket = decimal c.args.draws.now.socket in
    let middle : List ℕ = codes " {\"event\":\"pusher:unsubscribe\",\"data\":{\"channel\":\"" in
    let last : List ℕ = codes "\"}}" in
    c.in_ok-text.ensures.ok ∙ (joined (codes "say ") socket middle c.channel_of-channel.result.now last
    ∙ ap (λ (z : List ℕ). codes "say " ++ socket ++ middle ++ z ++ last) c.channel_of-channel.ensures)
