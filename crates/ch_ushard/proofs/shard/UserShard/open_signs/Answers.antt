use Rattle.std.proofs.Common.{◌≡◌, ◌≤◌, ◌∙◌, ap, sym, length, arith}
use Rattle.ch_history.specs.SignIns.{sign_ins}
use Rattle.ch_ushard.specs.OpenSigns.{open_signs}
use Rattle.ch_ushard.proofs.OpenSigns.{sum_by-of_user}
use Rattle.ch_ushard.proofs.shard.UserShard.open_signs.Goals as goal

pub returns : goal.returns
returns c = λ h stands.
    let all : c.open_signs.result ≡ open_signs h =
    c.open_signs.ensures ∙ ap (λ w. length w.signs) (ap (λ k. k.users) c.self.view_is) ∙ ap length stands.signs ∙ sym (sum_by-of_user (sign_ins h)) in
    let fits : c.open_signs.result ≤ 18446744073709551615 = omega (arith, c.open_signs.type_inv) in
    omega (arith, all, fits)
