use Rattle.std.proofs.Common.{◌≡◌, ◌≤◌, ◌<◌, ◌+◌, ◌∙◌, ℕ, List, [], ◌∷◌, ◌++◌, length, map, take, refl, sym, subst, ap, arith, Bor}
use Rattle.std.specs.List.{prefix_len}
use Rattle.std.proofs.lemmas.List.{take_more}
use Rattle.std.proofs.lemmas.List.Sums.{prefix_len-le-length}
use Rattle.ch_base.specs.declared.channel.NameRow.{NameRow}
use Rattle.ch_requests.specs.Replies.{with_rows}
use Rattle.ch_sig.specs.Parameters.{is_before}
use Rattle.ch_api.specs.RowOrder.{AreInOrder}
use Rattle.ch_api.proofs.RowOrderLemmas.{with_rows-in_order}
use Rattle.ch_api.proofs.RowsByName.{row-added}
use Rattle.ch_api.proofs.rows.add_rows.Goals as goal

pub insert-requires : goal.insert-requires
insert-requires c =
    let bound : c.place_of-place.result ≤ length c.as_slice.result.now =
    rw c.place_of-place.ensures (prefix_len-le-length {X = Bor NameRow} (λ r. is_before r.now.channel c.as_str.result.now) c.as_slice.result.now) in
    rw c.as_slice.ensures.len at bound

pub place_of-place-requires : goal.place_of-place-requires
place_of-place-requires c =
    let first = map (λ (r : Bor NameRow). r.now) c.args.rows.now.items in
    let ordered = with_rows-in_order first (take c.loop-row.row-index c.args.more.now) c.requires in
    subst (λ (rows : List (Bor NameRow)). AreInOrder (map (λ r. r.now) rows)) (sym c.as_slice.ensures.value)
    (subst AreInOrder (sym c.loop-row.invariant) ordered)

pub loop-row-preserved : goal.loop-row-preserved
loop-row-preserved c =
    let rows = c.loop-row.rows.items in
    let more = c.args.more.now in
    let i = c.loop-row.row-index in
    let row = c.row-item.result in
    let first = map (λ (r : Bor NameRow). r.now) c.args.rows.now.items in
    let at : c.place_of-place.result ≡ prefix_len (λ (r : Bor NameRow). is_before r.now.channel row.channel) rows =
    c.place_of-place.ensures
    ∙ ap (λ (name : List ℕ). prefix_len (λ (r : Bor NameRow). is_before r.now.channel name) c.as_slice.result.now) c.as_str.ensures.same
    ∙ ap (prefix_len (λ (r : Bor NameRow). is_before r.now.channel row.channel)) c.as_slice.ensures.value in
    let lt : i < length more = omega arith in
    let next : take (i + 1) more ≡ take i more ++ row ∷ [] = take_more more i row lt ∙ ap (λ (r : NameRow). take i more ++ r ∷ []) (sym c.row-item.is) in
    row-added rows c.insert.new.self.items first (take i more) _ row c.place_of-place.result c.in_ok-insert.ensures.items at refl c.loop-row.invariant
    ∙ ap (with_rows first) (sym next)
