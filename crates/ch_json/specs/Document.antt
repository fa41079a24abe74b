-- A document: its nodes by number, and the trees that they stand for.
use Rattle.std.specs.Prelude.{◌≡◌, ℕ, List, [], ◌∷◌, Some, slice_get}
use Rattle.ch_base.specs.JsonTree as tree
use Rattle.ch_base.specs.JsonTree.{Tree, Items, no_items, item, Members, no_members, member}

-- a node: its form, with the numbers of the nodes that it holds
pub data Shape : Type 0 where
  plain : tree.Plain → Shape
  list : List ℕ → Shape
  object : List (tree.Span × ℕ) → Shape

abbrev pub Nodes : Type 0
Nodes = List (Shape × tree.Span)

-- what a document holds
pub record Document : Type 0 where
  pub nodes : Nodes
  pub top : ℕ

-- node k stands for the tree
abbrev mutual
  pub Shows : Nodes → ℕ → Tree → Type 0
  Shows ds k (tree.plain p s) = slice_get ds k ≡ Some (plain p, s)
  Shows ds k (tree.array vs s) = (ks : List ℕ) × (slice_get ds k ≡ Some (list ks, s)) × ShowsItems ds ks vs
  Shows ds k (tree.object ms s) = (ks : List (tree.Span × ℕ)) × (slice_get ds k ≡ Some (object ks, s)) × ShowsMembers ds ks ms

  pub ShowsItems : Nodes → List ℕ → Items → Type 0
  ShowsItems ds ks no_items = ks ≡ []
  ShowsItems ds ks (item v vs) = (k : ℕ) × (rest : List ℕ) × (ks ≡ k ∷ rest) × Shows ds k v × ShowsItems ds rest vs

  pub ShowsMembers : Nodes → List (tree.Span × ℕ) → Members → Type 0
  ShowsMembers ds ks no_members = ks ≡ []
  ShowsMembers ds ks (member name v ms) = (k : ℕ) × (rest : List (tree.Span × ℕ)) × (ks ≡ (name, k) ∷ rest) × Shows ds k v × ShowsMembers ds rest ms
