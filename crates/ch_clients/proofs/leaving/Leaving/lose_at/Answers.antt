use Rattle.std.proofs.Common.{◌≡◌, ◌<◌, ℕ, List, length, map, sym, subst}
use Rattle.std.specs.Prelude.{Some, slice_get, slice_index_or, All}
use Rattle.ch_clients.proofs.Losing.{all_there, desk_stays, loses_makes, loses_over, lost_all, lost_some, map_there, over_removed, over_set, over_still}
use Rattle.ch_clients.proofs.Placing.{row_there}
use Rattle.ch_clients.specs.Leaving.{IsLeft, Left, part_of_left, still_there}
use Rattle.ch_clients.specs.Passes.{HasTurn}
use Rattle.ch_clients.specs.declared.answer.WorkerTurn.TheVariants.{Moved}
use Rattle.ch_config.specs.declared.config.Config.{Config}
use Rattle.ch_live.specs.Peers.{IsPeerOver}
use Rattle.ch_live.specs.declared.live.Live.{Live}
use Rattle.ch_live.specs.declared.peer.Peer.{Peer}
use Rattle.ch_clients.proofs.leaving.Leaving.lose_at.Given.{Over}
use Rattle.ch_clients.proofs.leaving.Leaving.lose_at.Goals as goal

abbrev peer_of : (g : Over) → Live g.row.W.Denot → Peer
peer_of g x = x.peer

-- the one at the place, in the row
row_is : (g : Over) (rows : List (Live g.row.W.Denot)) (seen : List Peer) (at : ℕ) (x : Live g.row.W.Denot) → map (peer_of g) rows ≡ seen → at < length seen
    → x ≡ slice_index_or rows at x → slice_get rows at ≡ Some x
row_is g rows seen at x is lt read = row_there (peer_of g) rows seen at x is lt read

-- and in what is seen of it, over the shards of the configuration
peer_over : (g : Over) (config : Config) (rows : List (Live g.row.W.Denot)) (seen : List Peer) (at : ℕ) (x : Live g.row.W.Denot) → map (peer_of g) rows ≡ seen → at < length seen
    → x ≡ slice_index_or rows at x → All (IsPeerOver config) seen → IsPeerOver config x.peer
peer_over g config rows seen at x is lt read over =
    all_there (IsPeerOver config) seen at x.peer over
    (subst (λ xs. slice_get xs at ≡ Some x.peer) is (map_there (peer_of g) rows at x (row_is g rows seen at x is lt read)))

pub lose-requires-clause-desk : goal.lose-requires-clause-desk
lose-requires-clause-desk g c =
    over_still c.args.server.now.config c.index_mut.result.now.peer (g.D.Desk.view c.args.desk.now) (peer_over g c.args.server.now.config c.self.inside.rows.items c.args.self.now c.args.place c.index_mut.result.now c.self.view_is c.requires.place c.index_mut.ensures.value c.requires.over) c.requires.desk

pub returns-in-Ok-clause-visit : goal.returns-in-Ok-clause-visit
returns-in-Ok-clause-visit g c =
    let a = c.args in
    let losses = c.lose.ensures.loses in
    subst (λ xs. (l : Left) × HasTurn (IsLeft a.now) still_there part_of_left a.place a.self.now (map (peer_of g) xs) (g.D.Desk.view a.desk.now) (g.D.Desk.view c.lose.new.desk) l (record { part = Moved; place = a.place }))
    (sym c.remove.ensures.items)
    (lost_all (peer_of g) a.now c.self.inside.rows.items a.self.now a.place c.index_mut.result.now c.lose.new.self losses.0 c.lose.result c.in-Ok.field-0
    (g.D.Desk.view a.desk.now) (g.D.Desk.view c.lose.new.desk) c.self.view_is (row_is g c.self.inside.rows.items c.args.self.now c.args.place c.index_mut.result.now c.self.view_is c.requires.place c.index_mut.ensures.value) losses.1 c.lose.ensures.all c.in-Ok.is)

pub returns-in-Ok-clause-over : goal.returns-in-Ok-clause-over
returns-in-Ok-clause-over g c =
    let a = c.args in
    subst (λ xs. All (IsPeerOver a.server.now.config) (map (peer_of g) xs)) (sym c.remove.ensures.items)
    (over_removed (peer_of g) a.server.now.config c.self.inside.rows.items a.self.now a.place c.index_mut.result.now c.lose.new.self c.self.view_is (row_is g c.self.inside.rows.items c.args.self.now c.args.place c.index_mut.result.now c.self.view_is c.requires.place c.index_mut.ensures.value) c.requires.over)

pub returns-in-Ok-clause-shards : goal.returns-in-Ok-clause-shards
returns-in-Ok-clause-shards g c =
    let a = c.args in
    let losses = c.lose.ensures.loses in
    desk_stays a.server.now.config (g.D.Desk.view a.desk.now) (g.D.Desk.view c.lose.new.desk)
    (loses_makes a.now losses.0 c.index_mut.result.now.peer c.lose.new.self.peer (g.D.Desk.view a.desk.now) (g.D.Desk.view c.lose.new.desk) c.lose.result losses.1).same c.requires.desk

pub returns-in-Err-clause-visit : goal.returns-in-Err-clause-visit
returns-in-Err-clause-visit g c =
    let a = c.args in
    let losses = c.lose.ensures.loses in
    lost_some (peer_of g) a.now c.self.inside.rows.items a.self.now a.place c.index_mut.result.now c.lose.new.self losses.0 c.lose.result c.in-Err.field-0
    (g.D.Desk.view a.desk.now) (g.D.Desk.view c.lose.new.desk) c.self.view_is (row_is g c.self.inside.rows.items c.args.self.now c.args.place c.index_mut.result.now c.self.view_is c.requires.place c.index_mut.ensures.value) losses.1 c.lose.ensures.all c.in-Err.is

pub returns-in-Err-clause-over : goal.returns-in-Err-clause-over
returns-in-Err-clause-over g c =
    let a = c.args in
    let losses = c.lose.ensures.loses in
    over_set (peer_of g) a.server.now.config c.self.inside.rows.items a.self.now a.place c.index_mut.result.now c.lose.new.self c.self.view_is (row_is g c.self.inside.rows.items c.args.self.now c.args.place c.index_mut.result.now c.self.view_is c.requires.place c.index_mut.ensures.value) c.requires.over
    (loses_over a.server.now.config a.now losses.0 c.index_mut.result.now.peer c.lose.new.self.peer (g.D.Desk.view a.desk.now) (g.D.Desk.view c.lose.new.desk) c.lose.result losses.1 (peer_over g c.args.server.now.config c.self.inside.rows.items c.args.self.now c.args.place c.index_mut.result.now c.self.view_is c.requires.place c.index_mut.ensures.value c.requires.over))

pub returns-in-Err-clause-shards : goal.returns-in-Err-clause-shards
returns-in-Err-clause-shards g c =
    let a = c.args in
    let losses = c.lose.ensures.loses in
    desk_stays a.server.now.config (g.D.Desk.view a.desk.now) (g.D.Desk.view c.lose.new.desk)
    (loses_makes a.now losses.0 c.index_mut.result.now.peer c.lose.new.self.peer (g.D.Desk.view a.desk.now) (g.D.Desk.view c.lose.new.desk) c.lose.result losses.1).same c.requires.desk
