use Rattle.std.proofs.Common.{◌++◌, ap, sym, ◌∙◌, append_assoc}
use Rattle.ch_drill.specs.DrillLinks.{rounds_text}
use Rattle.ch_drill.proofs.Rounds.{one_round_more}
use Rattle.ch_drill.proofs.arrivals.with_rounds.Goals as goal

pub loop-round-preserved : goal.loop-round-preserved
loop-round-preserved c =
    let more = c.as_bytes.ensures.value ∙ (c.as_str.ensures.value ∙ c.in_ok-text.ensures) in
    c.in_ok-extend_from_slice.ensures.items ∙ (ap (λ l. l ++ c.as_bytes.result.now) c.loop-round.invariant
    ∙ (append_assoc c.args.bytes.items (rounds_text c.loop-round.round) c.as_bytes.result.now
    ∙ ap (λ l. c.args.bytes.items ++ l) (ap (λ l. rounds_text c.loop-round.round ++ l) more ∙ sym (one_round_more c.loop-round.round))))
