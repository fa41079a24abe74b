-- How deep brackets nest in a value.
use Rattle.std.specs.Prelude.{ℕ, suc, max}
use Rattle.ch_base.specs.JsonTree.{Tree, plain, array, object, Items, no_items, item, Members, no_members, member}

abbrev mutual
  -- the most brackets that are open at once in the value
  pub levels : Tree → ℕ
  levels (plain p s) = 0
  levels (array vs s) = suc (item_levels vs)
  levels (object ms s) = suc (member_levels ms)

  pub item_levels : Items → ℕ
  item_levels no_items = 0
  item_levels (item v vs) = max (levels v) (item_levels vs)

  pub member_levels : Members → ℕ
  member_levels no_members = 0
  member_levels (member name v ms) = max (levels v) (member_levels ms)
