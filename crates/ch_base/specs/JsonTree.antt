-- What a text spells: the forms of its values and where in the text each stands.
use Rattle.std.specs.Prelude.{ℕ}

pub record Span : Type 0 where
  pub from : ℕ
  pub to : ℕ

pub data Plain : Type 0 where
  null : Plain
  no : Plain
  yes : Plain
  number : Plain
  string : Plain

mutual
  pub data Tree : Type 0 where
    plain : Plain → Span → Tree
    array : Items → Span → Tree
    object : Members → Span → Tree

  pub data Items : Type 0 where
    no_items : Items
    item : Tree → Items → Items

  pub data Members : Type 0 where
    no_members : Members
    member : Span → Tree → Members → Members
