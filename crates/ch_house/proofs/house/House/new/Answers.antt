use Rattle.std.proofs.Common.{ℕ, length, map, Some, ap, sym, ◌∙◌, subst, arith}
use Rattle.std.proofs.lemmas.List.{length-map}
use Rattle.ch_shard.specs.declared.seat.ChanSeat.{ChanSeat}
use Rattle.ch_ushard.specs.declared.seat.UserSeat.{UserSeat}
use Rattle.ch_house.specs.Rows.{RowModel, fresh_passes}
use Rattle.ch_house.specs.Houses.{IsHouse, passes_of}
use Rattle.ch_house.proofs.NewHouses.{IsHouse-new, IsPassesList-new, fresh_slots, count_slots, count_by_places}
use Rattle.ch_house.proofs.house.House.new.Goals as goal

pub invariant_of-result : goal.invariant_of-result
invariant_of-result c =
    let chan_place : ChanSeat → ℕ × ℕ = λ s. (s.k, s.n) in
    let user_place : UserSeat → ℕ × ℕ = λ s. (s.k, s.n) in
    IsHouse-new c.in_ok-chans.chans c.in_ok-users.users c.args.chans c.args.users (map chan_place c.in_ok-fresh_seats.field-0) (map user_place c.in_ok-fresh_seats-2.field-0) c.requires.chans c.requires.users
    c.in_ok-chans.ensures.places (length-map c.in_ok-fresh_seats.field-0 chan_place ∙ c.in_ok-fresh_seats.ensures.count) c.in_ok-fresh_seats.ensures.places
    c.in_ok-users.ensures.places (length-map c.in_ok-fresh_seats-2.field-0 user_place ∙ c.in_ok-fresh_seats-2.ensures.count) c.in_ok-fresh_seats-2.ensures.places (c.in_ok-users.ensures.callers ∙ sym c.in_ok-chans.ensures.callers)

pub invariant_of-passes : goal.invariant_of-passes
invariant_of-passes c =
    let chan_place : ChanSeat → ℕ × ℕ = λ s. (s.k, s.n) in
    let user_place : UserSeat → ℕ × ℕ = λ s. (s.k, s.n) in
    let own = c.in_ok-chans.ensures.own in
    let user_own = c.in_ok-users.ensures.own in
    let home : IsHouse record { chans = c.in_ok-chans.chans; users = c.in_ok-users.users } =
    IsHouse-new c.in_ok-chans.chans c.in_ok-users.users c.args.chans c.args.users (map chan_place c.in_ok-fresh_seats.field-0) (map user_place c.in_ok-fresh_seats-2.field-0) c.requires.chans c.requires.users
    c.in_ok-chans.ensures.places (length-map c.in_ok-fresh_seats.field-0 chan_place ∙ c.in_ok-fresh_seats.ensures.count) c.in_ok-fresh_seats.ensures.places
    c.in_ok-users.ensures.places (length-map c.in_ok-fresh_seats-2.field-0 user_place ∙ c.in_ok-fresh_seats-2.ensures.count) c.in_ok-fresh_seats-2.ensures.places (c.in_ok-users.ensures.callers ∙ sym c.in_ok-chans.ensures.callers) in
    let count = count_by_places c.in_ok-chans.chans (map chan_place c.in_ok-fresh_seats.field-0) c.args.chans c.in_ok-chans.ensures.places (length-map c.in_ok-fresh_seats.field-0 chan_place ∙ c.in_ok-fresh_seats.ensures.count) in
    let user_count = count_by_places c.in_ok-users.users (map user_place c.in_ok-fresh_seats-2.field-0) c.args.users c.in_ok-users.ensures.places (length-map c.in_ok-fresh_seats-2.field-0 user_place ∙ c.in_ok-fresh_seats-2.ensures.count) in
    let locks = ap (λ (r : RowModel). length r.locks) own in
    let user_locks = ap (λ (r : RowModel). length r.locks) user_own in
    let room = c.in_ok-chan_room.ensures.capacity in
    let user_room = c.in_ok-user_room.ensures.capacity in (
      IsPassesList-new c.in_ok-chans.chan_passes c.in_ok-users.user_passes c.args.callers c.in_ok-chans.ensures.count c.in_ok-users.ensures.count
          (λ i below. c.in_ok-chans.ensures.passes i below ∙ ap (λ (r : RowModel). Some (fresh_passes r i)) (sym own))
          (λ i below. c.in_ok-users.ensures.passes i below ∙ ap (λ (r : RowModel). Some (fresh_passes r i)) (sym user_own))
          (subst (λ (w : RowModel × RowModel). IsHouse record { chans = w.0; users = w.1 }) (λ j. (sym own j, sym user_own j)) home)
          (ap (λ (r : RowModel). r.callers) own ∙ c.in_ok-chans.ensures.callers) c.requires.callers.1,
      c.in_ok-chan_room.ensures.items,
      omega arith,
      c.in_ok-user_room.ensures.items,
      omega arith,
    )

pub returns-clause-chans : goal.returns-clause-chans
returns-clause-chans c =
    let chan_place : ChanSeat → ℕ × ℕ = λ s. (s.k, s.n) in
    count_by_places c.in_ok-chans.chans (map chan_place c.in_ok-fresh_seats.field-0) c.args.chans c.in_ok-chans.ensures.places (length-map c.in_ok-fresh_seats.field-0 chan_place ∙ c.in_ok-fresh_seats.ensures.count)

pub returns-clause-users : goal.returns-clause-users
returns-clause-users c =
    let user_place : UserSeat → ℕ × ℕ = λ s. (s.k, s.n) in
    count_by_places c.in_ok-users.users (map user_place c.in_ok-fresh_seats-2.field-0) c.args.users c.in_ok-users.ensures.places (length-map c.in_ok-fresh_seats-2.field-0 user_place ∙ c.in_ok-fresh_seats-2.ensures.count)

pub returns-clause-count : goal.returns-clause-count
returns-clause-count c =
    let own = c.in_ok-chans.ensures.own in
    let user_own = c.in_ok-users.ensures.own in
    count_slots c.in_ok-chans.chan_passes c.in_ok-users.user_passes c.args.callers c.in_ok-chans.ensures.count c.in_ok-users.ensures.count
    (λ i below. c.in_ok-chans.ensures.passes i below ∙ ap (λ (r : RowModel). Some (fresh_passes r i)) (sym own))
    (λ i below. c.in_ok-users.ensures.passes i below ∙ ap (λ (r : RowModel). Some (fresh_passes r i)) (sym user_own))

pub returns-clause-passes : goal.returns-clause-passes
returns-clause-passes c = λ i below.
    let own = c.in_ok-chans.ensures.own in
    let user_own = c.in_ok-users.ensures.own in
    fresh_slots c.in_ok-chans.chan_passes c.in_ok-users.user_passes c.args.callers c.in_ok-chans.ensures.count c.in_ok-users.ensures.count
    (λ j under. c.in_ok-chans.ensures.passes j under ∙ ap (λ (r : RowModel). Some (fresh_passes r j)) (sym own))
    (λ j under. c.in_ok-users.ensures.passes j under ∙ ap (λ (r : RowModel). Some (fresh_passes r j)) (sym user_own)) i below
    ∙ (λ j. Some (passes_of (fresh_passes (own j) i) (fresh_passes (user_own j) i)))
