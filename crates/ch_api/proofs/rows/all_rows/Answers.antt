use Rattle.std.proofs.Common.{◌≡◌, ◌+◌, ◌<◌, ◌∙◌, [], ◌∷◌, ◌++◌, List, length, take, sym, subst, ap, arith}
use Rattle.std.specs.List.{flat_map}
use Rattle.std.proofs.lemmas.List.{take_more, append-nil}
use Rattle.std.proofs.lemmas.List.Concat.{flat_map-append}
use Rattle.ch_base.specs.declared.channel.NameRow.{NameRow}
use Rattle.ch_protocol.specs.declared.ask.Made.{Made}
use Rattle.ch_requests.specs.Replies.{with_rows, rows_in, all_rows}
use Rattle.ch_api.specs.RowOrder.{AreInOrder}
use Rattle.ch_api.proofs.RowOrderLemmas.{with_rows-in_order}
use Rattle.ch_api.proofs.RowsByName.{with_rows-append}
use Rattle.ch_api.proofs.rows.all_rows.Goals as goal

pub add_rows-requires : goal.add_rows-requires
add_rows-requires c =
    subst AreInOrder (sym c.loop-made.invariant) (with_rows-in_order [] (flat_map rows_in (take c.loop-made.made-index c.args.mades.now)) tt)

pub loop-made-preserved : goal.loop-made-preserved
loop-made-preserved c =
    let mades = c.args.mades.now in
    let i = c.loop-made.made-index in
    let made = c.made-item.result in
    let lt : i < length mades = omega arith in
    let more : take (i + 1) mades ≡ take i mades ++ made ∷ [] = take_more mades i made lt ∙ ap (λ (m : Made). take i mades ++ m ∷ []) (sym c.made-item.is) in
    let parts : flat_map rows_in (take (i + 1) mades) ≡ flat_map rows_in (take i mades) ++ rows_in made =
    ap (flat_map rows_in) more ∙ flat_map-append rows_in (take i mades) (made ∷ []) ∙ ap (λ (rows : List NameRow). flat_map rows_in (take i mades) ++ rows) (append-nil (rows_in made)) in
    let all : all_rows (take (i + 1) mades) ≡ with_rows (all_rows (take i mades)) (rows_in made) =
    ap (with_rows []) parts ∙ with_rows-append [] (flat_map rows_in (take i mades)) (rows_in made) in
    c.in_ok-add_rows.ensures ∙ ap (λ (rows : List NameRow). with_rows rows c.rows_in.result.now) c.loop-made.invariant
    ∙ ap (with_rows (all_rows (take i mades))) c.rows_in.ensures ∙ sym all
