use Rattle.std.proofs.Common.{rules, tests}
use Rattle.std.proofs.lemmas.Iterator.Consumers.{YieldsList-at, YieldsList-from_filter, map_from_collect}
use Rattle.std.proofs.lemmas.Iterator.Splits.{YieldsList-from_slice_split}
use Rattle.ch_net.specs.Lines.{is_line_feed, holds_message}
use Rattle.ch_net.proofs.messages.lines.Goals as goal

pub returns : goal.returns
returns c =
    rw c.in_ok-lines.was at
    (map_from_collect _ c.collect.ensures.ran
    (YieldsList-from_filter _ holds_message
    (YieldsList-at c.filter.ensures.source
    (YieldsList-from_slice_split _ is_line_feed c.args.bytes.now c.split.ensures.rest c.split.ensures.done c.split.ensures.closure
    (λ x b q k. search rules)))
    c.filter.ensures.closure (λ x r q k. search (rules, tests))))
