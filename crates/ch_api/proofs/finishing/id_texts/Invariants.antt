use Rattle.std.proofs.Common.{◌≡◌, map, take}
use Rattle.std.specs.Prelude.{string_bytes}
use Rattle.ch_requests.specs.Replies.{id_text}
use Rattle.ch_api.proofs.finishing.id_texts.Given as goal

abbrev pub invariant-loop-id : goal.invariant-loop-id
invariant-loop-id l = map string_bytes l.texts.items ≡ map id_text (take l.id-index l.ids)
