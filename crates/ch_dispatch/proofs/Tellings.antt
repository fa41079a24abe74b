-- What one more outcome tells.
use Rattle.std.proofs.Common.{◌≡◌, ◌⊎◌, inl, inr, ℕ, true, false, List, [], ◌∷◌, ◌++◌, ap, sym, refl, ◌∙◌, append-nil}
use Rattle.std.specs.Prelude.{Option, Some, None, not}
use Rattle.std.specs.Option.{option_or, option_to_list}
use Rattle.std.proofs.lemmas.List.Concat.{flat_map-append}
use Rattle.ch_protocol.specs.declared.ask.Ask.{Ask}
use Rattle.ch_protocol.specs.declared.heard.Settled.{Settled}
use Rattle.ch_protocol.specs.declared.heard.Settled.TheVariants.{Nothing, Reply, Refuse, End}
use Rattle.ch_session.specs.Kept.{left_after}
use Rattle.ch_dispatch.specs.Outcomes.{stops, frames_of, frames_in, end_of, end_in, with_outcome, IsResponseTo}
use Rattle.ch_dispatch.specs.declared.response.Response.{Response}

frames_more : (os : List Settled) (o : Settled) → frames_in (os ++ o ∷ []) ≡ frames_in os ++ frames_of o
frames_more os o = flat_map-append frames_of os (o ∷ []) ∙ ap (λ z. frames_in os ++ z) (append-nil (frames_of o))

end_alone : (o : Option ℕ) → option_or o None ≡ o
end_alone None = refl
end_alone (Some code) = refl

pub end_more : (os : List Settled) (o : Settled) → end_in os ≡ None → end_in (os ++ o ∷ []) ≡ end_of o
end_more [] o none = end_alone (end_of o)
end_more (Nothing ∷ os) o none = end_more os o none
end_more (Reply frame ∷ os) o none = end_more os o none
end_more (Refuse code ∷ os) o none = end_more os o none
end_more (End code ∷ os) o none = cc

-- ---- the response

reply_more : (os : List Settled) (o : Settled) (r : Response) → option_to_list r.reply ≡ frames_in os → (os ≡ []) ⊎ (frames_of o ≡ [])
    → option_to_list (with_outcome r o).reply ≡ frames_in os ++ frames_of o
reply_more os Nothing r is one = is ∙ sym (append-nil (frames_in os))
reply_more os (Reply frame) r is one = elim one [
  | inl first ↦ ap (λ z. frames_in z ++ frame ∷ []) (sym first)
  | inr silent ↦ cc
]
reply_more os (Refuse code) r is one = elim one [
  | inl first ↦ ap (λ z. frames_in z ++ frames_of (Refuse code)) (sym first)
  | inr silent ↦ cc
]
reply_more os (End code) r is one = is ∙ sym (append-nil (frames_in os))

ends_more : (o : Settled) (r : Response) → r.end ≡ None → (with_outcome r o).end ≡ end_of o
ends_more Nothing r none = none
ends_more (Reply frame) r none = none
ends_more (Refuse code) r none = none
ends_more (End code) r none = refl

-- one more outcome of a message, which is its first or tells no frame
pub response_more : (os : List Settled) (o : Settled) (r : Response) → IsResponseTo os r → end_in os ≡ None → (os ≡ []) ⊎ (frames_of o ≡ [])
    → IsResponseTo (os ++ o ∷ []) (with_outcome r o)
response_more os o r is none one = record {
  frames = reply_more os o r is.frames one ∙ sym (frames_more os o);
  ends = ends_more o r (is.ends ∙ none) ∙ sym (end_more os o none);
}

-- ---- what follows

pub goes_so : (o : Settled) → not (stops o) ≡ true → stops o ≡ false
goes_so Nothing on = refl
goes_so (Reply frame) on = refl
goes_so (Refuse code) on = cc
goes_so (End code) on = cc

pub stops_so : (o : Settled) → not (stops o) ≡ false → stops o ≡ true
stops_so Nothing stop = cc
stops_so (Reply frame) stop = cc
stops_so (Refuse code) stop = refl
stops_so (End code) stop = refl

pub goes_on : (o : Settled) → stops o ≡ false → end_of o ≡ None
goes_on Nothing on = refl
goes_on (Reply frame) on = refl
goes_on (Refuse code) on = cc
goes_on (End code) on = cc

pub left_next : (o : Settled) (rest : List Ask) → stops o ≡ false → left_after o rest ≡ rest
left_next Nothing rest on = refl
left_next (Reply frame) rest on = refl
left_next (Refuse code) rest on = cc
left_next (End code) rest on = cc

pub left_stop : (o : Settled) (rest : List Ask) → stops o ≡ true → left_after o rest ≡ []
left_stop Nothing rest stop = cc
left_stop (Reply frame) rest stop = cc
left_stop (Refuse code) rest stop = refl
left_stop (End code) rest stop = refl
