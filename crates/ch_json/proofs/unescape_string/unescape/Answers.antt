use Rattle.std.proofs.Common.{sym, subst, ap, ◌∙◌, ◌++◌, string_bytes, ℕ, List}
use Rattle.ch_json.specs.Entries.{span_of}
use Rattle.ch_json.specs.Pieces.{IsString}
use Rattle.ch_json.proofs.Unescaped.{SoFar, so_far_first, so_far_more, string_of_span}
use Rattle.ch_json.proofs.unescape_string.unescape.Goals as goal

pub loop-out-init : goal.loop-out-init
loop-out-init c =
    let string = c.part-string.result.now in
    let is : IsString string = subst IsString (sym c.part-string.ensures) (string_of_span c.args.text.now (span_of c.args.span) c.requires) in
    subst (SoFar string 1) (sym c.new-out.ensures.bytes) (so_far_first string c.part-string.utf8 is)

pub loop-out-preserved-in-Run : goal.loop-out-preserved-in-Run
loop-out-preserved-in-Run c =
    let h = c.loop-out.invariant in
    so_far_more _ _ _ _ _ _ h (c.in-Run.ensures h.chars h.follow) (c.in_ok-push_str-in-Run.ensures.bytes ∙ ap (λ (l : List ℕ). string_bytes c.loop-out.out ++ l) c.range.ensures.value)

pub loop-out-preserved : goal.loop-out-preserved
loop-out-preserved c = let h = c.loop-out.invariant in so_far_more _ _ _ _ _ _ h (c.in-Escape.ensures h.chars h.follow) c.in_ok-push-in-Escape.ensures.bytes
