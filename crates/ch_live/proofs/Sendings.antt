-- The frames that wait, sent one after another.
use Rattle.std.proofs.Common.{◌≡◌, ◌≢◌, ℕ, List, [], ◌∷◌, ◌++◌, map, drop, ap, sym, refl, ◌∙◌, append_assoc, append-nil}
use Rattle.std.specs.Prelude.{Some, None, slice_get}
use Rattle.std.proofs.lemmas.List.{map-append}
use Rattle.ch_base.specs.declared.frame.Frame.{Frame}
use Rattle.ch_net.specs.Wires.{WireTold, WireMoves}
use Rattle.ch_net.proofs.Moving.{WireMoves-none, WireMoves-then}
use Rattle.ch_base.specs.Printed.{printed}
use Rattle.ch_live.specs.Backlogs.{Held, still_waiting}
use Rattle.ch_live.specs.Sent.{SendsFirst, StopsAt}
use Rattle.ch_live.specs.declared.sending.Sending.{Sending}
use Rattle.ch_live.specs.declared.sending.Sending.TheVariants.{All}
use Rattle.ch_live.proofs.Wires.{moves_as}

-- the first of the waiting frames were sent so far
pub record HasSent (start : ℕ) (old now : Held) (wire wire_now : WireTold) : Type 0 where
  pub sent : List Frame
  pub frames : old.frames ≡ sent ++ now.frames
  pub marks : now ≡ still_waiting old now.frames
  pub moves : WireMoves wire wire_now [] (map (λ f. printed f start) sent) []

pub HasSent-start : (start : ℕ) (old : Held) (wire : WireTold) → HasSent start old old wire wire
HasSent-start start old wire = record { sent = []; frames = refl; marks = refl; moves = WireMoves-none wire }

first_split : (frames : List Frame) (frame : Frame) → slice_get frames 0 ≡ Some frame → frames ≡ frame ∷ drop 1 frames
first_split [] frame is = cc
first_split (f ∷ frames) frame is = cc

-- one more frame was sent
pub HasSent-next : (start : ℕ) (old now : Held) (wire mid new : WireTold) (frame : Frame) (text : List ℕ) (after : Held) → HasSent start old now wire mid
    → slice_get now.frames 0 ≡ Some frame → text ≡ printed frame start → after ≡ record now { frames = drop 1 now.frames }
    → WireMoves mid new [] (text ∷ []) [] → HasSent start old after wire new
HasSent-next start old now wire mid new frame text after h is prints dropped moves =
    let split : now.frames ≡ frame ∷ drop 1 now.frames = first_split now.frames frame is in
    let frames : after.frames ≡ drop 1 now.frames = ap (λ (x : Held). x.frames) dropped in
    record {
      sent = h.sent ++ frame ∷ [];
      frames = h.frames ∙ ap (λ x. h.sent ++ x) (split ∙ ap (λ x. frame ∷ x) (sym frames)) ∙ sym (append_assoc h.sent (frame ∷ []) after.frames);
      marks = dropped ∙ ap (λ (x : Held). record x { frames = drop 1 now.frames }) h.marks ∙ ap (λ x. still_waiting old x) (sym frames);
      moves = moves_as wire new _ _ _ _ _ _ refl
          (ap (λ t. map (λ f. printed f start) h.sent ++ t ∷ []) prints ∙ sym (map-append (λ (f : Frame). printed f start) h.sent (frame ∷ [])))
          refl (WireMoves-then wire mid new [] [] (map (λ f. printed f start) h.sent) (text ∷ []) [] [] h.moves moves);
    }

-- sending stops, after a call of the wire that took nothing
pub HasSent-stops : (start : ℕ) (old now : Held) (wire mid new : WireTold) (result : Sending) → HasSent start old now wire mid
    → WireMoves mid new [] [] [] → StopsAt result now.frames wire.counts new.counts → SendsFirst start old now wire new result
HasSent-stops start old now wire mid new result h moves stops = record {
  sent = h.sent;
  frames = h.frames;
  marks = h.marks;
  moves = moves_as wire new _ _ _ _ _ _ refl (append-nil (map (λ f. printed f start) h.sent)) refl
      (WireMoves-then wire mid new [] [] (map (λ f. printed f start) h.sent) [] [] [] h.moves moves);
  stops = stops;
}

-- no call was made
pub HasSent-here : (start : ℕ) (old now : Held) (wire mid : WireTold) (result : Sending) → HasSent start old now wire mid
    → StopsAt result now.frames wire.counts mid.counts → SendsFirst start old now wire mid result
HasSent-here start old now wire mid result h stops = record { sent = h.sent; frames = h.frames; marks = h.marks; moves = h.moves; stops = stops }

none_first : (frames : List Frame) → slice_get frames 0 ≡ None → frames ≡ []
none_first [] none = refl
none_first (f ∷ frames) none = cc

-- none waits any more
pub HasSent-all : (start : ℕ) (old now : Held) (wire wire_now : WireTold) → HasSent start old now wire wire_now → slice_get now.frames 0 ≡ None
    → SendsFirst start old now wire wire_now All
HasSent-all start old now wire wire_now h none = HasSent-here start old now wire wire_now All h (none_first now.frames none)

-- a frame waits
pub some_waits : (frames : List Frame) (frame : Frame) → slice_get frames 0 ≡ Some frame → frames ≢ []
some_waits [] frame is = λ e. cc
some_waits (f ∷ frames) frame is = λ e. cc

-- what was sent, and then a call of the wire that took nothing
pub SendsFirst-then : (start : ℕ) (old now : Held) (wire mid new : WireTold) (before result : Sending) → SendsFirst start old now wire mid before
    → WireMoves mid new [] [] [] → StopsAt result now.frames wire.counts new.counts → SendsFirst start old now wire new result
SendsFirst-then start old now wire mid new before result s moves stops =
    HasSent-stops start old now wire mid new result (record { sent = s.sent; frames = s.frames; marks = s.marks; moves = s.moves }) moves stops
