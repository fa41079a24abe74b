use Rattle.std.proofs.Common.{◌≡◌, true, false, take, sym, subst}
use Rattle.ch_sig.specs.MacState.{MacHolds}
use Rattle.ch_sig.specs.SignedText.{is_signed}
use Rattle.ch_sig.proofs.QueryLemmas.{take-next, separator_after-signed, separator_after-unsigned, query_text-signed, query_text-unsigned}
use Rattle.ch_sig.proofs.signature.add_query.Goals.{then-ne, else-ne}
use Rattle.ch_sig.proofs.signature.add_query.Goals as goal

pub params-preserved : goal.params-preserved
params-preserved c =
    let param = c.param-item.result in
    let next = take-next c.args.params.now c.params.param-index param c.params-test.true c.param-item.is in
    let before = take c.params.param-index c.args.params.now in
    let so_far = c.params.invariant in
    elim c.if-ne.branch [
      | then-ne w ↦
          let signed : is_signed param ≡ true = rw c.as_str.ensures.same at (sym w.if-ne.ensures) in (
            rw (w.separator-is, next) (sym (separator_after-signed before param signed)),
            rw (w.mac-is, next) (λ secret message holds.
                let held = w.add_param.ensures secret _ (w.add.ensures secret _ (so_far.1 secret message holds)) in
                subst (λ m. MacHolds w.add_param.new.mac secret m) (query_text-signed before param signed message) (rw so_far.0 at held)),
          )
      | else-ne w ↦
          let unsigned : is_signed param ≡ false = rw c.as_str.ensures.same at (sym w.if-ne.ensures) in (
            rw (w.separator-is, next, separator_after-unsigned before param unsigned) so_far.0,
            rw (w.mac-is, next, query_text-unsigned before param unsigned) so_far.1,
          )
    ]
