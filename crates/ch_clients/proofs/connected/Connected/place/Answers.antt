use Rattle.std.proofs.Common.{rules, ◌≡◌, ◌≤◌, true, false, leb, length, sym, subst, ap, ◌∙◌, arith}
use Rattle.std.specs.List.Sorted.{IsPartitionPoint}
use Rattle.std.proofs.lemmas.List.Sorted.{IsPartitionedBy-leb, IsPartitionPoint-from_clause}
use Rattle.ch_clients.specs.Clients.{Client, AreAscending, placed}
use Rattle.ch_clients.proofs.Rows.{placed_so}
use Rattle.ch_clients.proofs.connected.Connected.place.Given.{Over}
use Rattle.ch_clients.proofs.connected.Connected.place.Goals as goal

abbrev Placed : (g : Over) → goal.After-insert_reserved g → Type 0
Placed g c = AreAscending c.insert_reserved.new.rows.items × (c.insert_reserved.new.rows.items ≡ placed c.args.client c.args.self.now)

is_placed : (g : Over) (c : goal.After-insert_reserved g) → Placed g c
is_placed g c =
    let p = λ (y : Client). leb y.number c.args.client.number in
    let at = c.partition_point-at.result in
    let value = c.deref.ensures.value in
    let point = subst (λ xs. IsPartitionPoint (λ y. p y ≡ true) (λ y. p y ≡ false) xs at) value
    (IsPartitionPoint-from_clause p c.deref.result.now at c.partition_point-at.ensures.partitioned
    (IsPartitionedBy-leb (λ y. y.number) c.deref.result.now c.args.client.number (subst AreAscending (sym value) c.self.invariant.1)) (λ a r f k. search rules)) in
    let so = placed_so c.args.client c.self.inside.rows.items at c.self.invariant.1 (subst (λ xs. at ≤ length xs) value c.partition_point-at.ensures.bound) point in
    (subst AreAscending (sym c.insert_reserved.ensures.items) so.0, c.insert_reserved.ensures.items ∙ sym so.1 ∙ ap (λ xs. placed c.args.client xs) c.self.view_is)

pub invariant_of-self : goal.invariant_of-self
invariant_of-self g c = (omega (arith, c.insert_reserved.ensures.capacity, c.self.invariant.0), (is_placed g c).0)

pub returns : goal.returns
returns g c = (is_placed g c).1
