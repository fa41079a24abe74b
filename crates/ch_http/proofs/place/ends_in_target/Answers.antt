use Rattle.std.proofs.Common.{◌∙◌, sym, refl}
use Rattle.std.proofs.lemmas.Bool.{false≢true}
use Rattle.ch_http.proofs.PlaceLemmas.{ends_from_target, target_from_ends}
use Rattle.ch_http.proofs.place.ends_in_target.Goals as goal

pub returns-in-Target : goal.returns-in-Target
returns-in-Target c = (λ _. ends_from_target c.args.bytes.now (sym c.place_of.ensures ∙ c.in-Target.is), λ _. refl)

pub returns-in_default : goal.returns-in_default
returns-in_default c = (
  λ t. absurd (false≢true t),
  λ ends. absurd (c.in_default.not-Target (c.place_of.ensures ∙ target_from_ends c.args.bytes.now ends)),
)
