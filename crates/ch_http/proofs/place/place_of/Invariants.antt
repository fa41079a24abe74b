use Rattle.std.proofs.Common.{◌≡◌, take}
use Rattle.ch_http.specs.declared.place.Place.TheVariants.{Start}
use Rattle.ch_http.specs.Places.{place_of}
use Rattle.ch_http.proofs.place.place_of.Given as goal

abbrev pub invariant-bytes : goal.invariant-bytes
invariant-bytes l = l.place ≡ place_of Start (take l.byte-index l.bytes)
