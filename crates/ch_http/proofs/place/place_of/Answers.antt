use Rattle.std.proofs.Common.{◌∷◌, [], take, get_or, ap, sym, ◌∙◌}
use Rattle.std.proofs.lemmas.List.{take_more}
use Rattle.ch_http.specs.declared.place.Place.TheVariants.{Start}
use Rattle.ch_http.specs.Places.{place_after, place_of}
use Rattle.ch_http.proofs.PlaceLemmas.{place_of-append}
use Rattle.ch_http.proofs.place.place_of.Goals as goal

pub bytes-preserved : goal.bytes-preserved
bytes-preserved c =
    let bytes = c.args.bytes.now in
    let at = c.bytes.byte-index in
    let b = get_or bytes at 0 in
    c.place_after-place.ensures ∙ ap (λ place. place_after place b) c.bytes.invariant
    ∙ sym (place_of-append Start (take at bytes) (b ∷ []))
    ∙ ap (place_of Start) (sym (take_more bytes at 0 c.bytes-test.true))
