use Rattle.std.proofs.Common.{◌∙◌, codes}
use Rattle.ch_post.proofs.Fronts.{five_parts}
use Rattle.ch_post.proofs.link_post.front.Goals as goal

pub returns : goal.returns
returns c = c.from_string.ensures ∙ c.in_ok-text.ensures.ok
    ∙ five_parts (codes "POST ") c.args.path.now (codes " HTTP/1.1\r\nHost: ") c.args.host.now (codes "\r\nContent-Type: application/json\r\nX-Pusher-Key: ")
