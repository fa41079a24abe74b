use Rattle.std.proofs.Common.{◌≡◌, ◌≤◌, ◌<◌, true, false, ltb, length, ap, sym, subst, refl, ◌∙◌, arith, rules}
use Rattle.std.specs.Prelude.{slice_set}
use Rattle.std.specs.List.Sorted.{IsPartitionPoint}
use Rattle.std.proofs.lemmas.List.Sorted.{IsPartitionedBy-ltb, IsPartitionPoint-from_clause}
use Rattle.ch_clients.specs.Clients.{Client, AreAscending, handed_to}
use Rattle.ch_clients.proofs.Placing.{is_there}
use Rattle.ch_clients.proofs.Rows.{handed_past, handed_so, same_number, set_ascends}
use Rattle.ch_clients.proofs.connected.Connected.hand.Goals as goal

pub invariant_of-self : goal.invariant_of-self
invariant_of-self g c =
    let rows = c.self.inside.rows.items in
    let at = c.partition_point-at.result in (
      c.self.invariant.0,
      set_ascends rows at c.index_mut.result.now c.hand.new.self
          (is_there rows rows at c.index_mut.result.now refl (omega (arith, c.if-at-len.true, c.len.ensures)) c.index_mut.ensures.value)
          (ap (λ x. x.number) c.hand.ensures ∙ same_number c.index_mut.result.now c.args.frame) c.self.invariant.1,
    )

pub returns-then-at-len : goal.returns-then-at-len
returns-then-at-len g c =
    let rows = c.self.inside.rows.items in
    let at = c.partition_point-at.result in
    let socket = c.socket-socket.result in
    let p = λ (y : Client). ltb y.number socket in
    let value = c.deref.ensures.value in
    let split = subst (λ xs. IsPartitionPoint (λ y. p y ≡ true) (λ y. p y ≡ false) xs at) value
    (IsPartitionPoint-from_clause p c.deref.result.now at c.partition_point-at.ensures.partitioned
    (IsPartitionedBy-ltb (λ y. y.number) c.deref.result.now socket (subst AreAscending (sym value) c.self.invariant.1)) (λ a r f k. search rules)) in
    let point = subst (λ s. IsPartitionPoint (λ (y : Client). ltb y.number s ≡ true) (λ y. ltb y.number s ≡ false) rows at) c.socket-socket.ensures split in
    let inside : at < length rows = omega (arith, c.if-at-len.true, c.len.ensures) in
    let there = is_there rows rows at c.index_mut.result.now refl inside c.index_mut.ensures.value in
    ap (λ x. slice_set rows at x) c.hand.ensures
    ∙ sym (handed_so rows c.args.frame at c.index_mut.result.now c.self.invariant.1 there inside point) ∙ ap (λ xs. handed_to xs c.args.frame) c.self.view_is

pub returns-else-at-len : goal.returns-else-at-len
returns-else-at-len g c =
    let rows = c.self.inside.rows.items in
    let at = c.partition_point-at.result in
    let socket = c.socket-socket.result in
    let p = λ (y : Client). ltb y.number socket in
    let value = c.deref.ensures.value in
    let split = subst (λ xs. IsPartitionPoint (λ y. p y ≡ true) (λ y. p y ≡ false) xs at) value
    (IsPartitionPoint-from_clause p c.deref.result.now at c.partition_point-at.ensures.partitioned
    (IsPartitionedBy-ltb (λ y. y.number) c.deref.result.now socket (subst AreAscending (sym value) c.self.invariant.1)) (λ a r f k. search rules)) in
    let point = subst (λ s. IsPartitionPoint (λ (y : Client). ltb y.number s ≡ true) (λ y. ltb y.number s ≡ false) rows at) c.socket-socket.ensures split in
    let past : length rows ≤ at = omega (arith, c.if-at-len.false, c.len.ensures) in
    sym c.self.view_is ∙ sym (handed_past rows c.args.frame at past point) ∙ ap (λ xs. handed_to xs c.args.frame) c.self.view_is
