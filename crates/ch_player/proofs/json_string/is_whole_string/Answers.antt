use Rattle.std.proofs.Common.{nat_eq, sym, ◌∙◌}
use Rattle.ch_player.specs.JsonString.{is_whole_string}
use Rattle.ch_player.proofs.JsonStrings.{has_node, shown_string, shown_other, and_then, and_else}
use Rattle.ch_player.proofs.json_string.is_whole_string.Goals as goal

pub span-span-requires : goal.span-span-requires
span-span-requires c = has_node c.requires c.top-top.ensures

pub form-requires : goal.form-requires
form-requires c = has_node c.requires c.top-top.ensures

pub returns-then-span-eq0 : goal.returns-then-span-eq0
returns-then-span-eq0 c = λ text v spelled tree.
    let node = c.top-top.ensures text v spelled tree in
    and_then c.span-span.result.from (nat_eq c.span-span.result.to c.args.length) (is_whole_string c.args.length v) c.if-span-eq0.true
    (shown_string v c.args.length c.span-span.result.from c.span-span.result.to (sym c.in-Str.is ∙ c.form.ensures text v node) (c.span-span.ensures text v node))

pub returns-else-span-eq0 : goal.returns-else-span-eq0
returns-else-span-eq0 c = λ text v spelled tree.
    let node = c.top-top.ensures text v spelled tree in
    and_else c.span-span.result.from (nat_eq c.span-span.result.to c.args.length) (is_whole_string c.args.length v) c.if-span-eq0.false
    (shown_string v c.args.length c.span-span.result.from c.span-span.result.to (sym c.in-Str.is ∙ c.form.ensures text v node) (c.span-span.ensures text v node))

pub returns-in_default : goal.returns-in_default
returns-in_default c = λ text v spelled tree.
    let node = c.top-top.ensures text v spelled tree in
    shown_other v c.args.length c.form.result (c.form.ensures text v node) c.in_default.not-Str
