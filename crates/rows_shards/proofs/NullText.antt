-- The JSON text null.
use Rattle.std.proofs.Common.{[], codes, refl, inl}
use Rattle.ch_base.specs.JsonTree.{null, plain}
use Rattle.ch_base.specs.JsonText.{IsJsonText}

pub is_null : IsJsonText (codes "null")
is_null = (plain null (record { from = 0; to = 4 }), (codes "null", [], inl refl, ((refl, refl), refl), refl))
