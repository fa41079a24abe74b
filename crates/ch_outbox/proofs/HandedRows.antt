-- The frames for the holders of rows are those for the rows, one after another.
use Rattle.std.proofs.Common.{◌≡◌, ℕ, true, false, cond, List, [], ◌∷◌, ◌++◌, Option, filter, map, refl, ap}
use Rattle.ch_base.specs.declared.frame.Frame.{Frame}
use Rattle.ch_history.specs.declared.rows.Delivery.{Delivery}
use Rattle.ch_history.specs.Deliveries.{delivery}
use Rattle.ch_history.specs.Frames.{is_other}
use Rattle.ch_index.specs.declared.holder.Holder.{Holder}
use Rattle.ch_index.specs.Holders.{holder_of}
use Rattle.ch_outbox.specs.Handed.{handed}

module _ {R : Type 0} (socket owner : R → ℕ) where
  pub handed-rows : (frame : Frame) (except : Option ℕ) (xs : List R) → handed frame except (map (holder_of socket owner) xs) ≡ map (λ r. delivery (owner r) (socket r) frame) (filter (λ r. is_other except (socket r)) xs)
  handed-rows frame except [] = refl
  handed-rows frame except (x ∷ xs) =
      let holder : R → Holder = holder_of socket owner in
      let hs = filter (λ h. is_other except h.socket) (map holder xs) in
      let kept = filter (λ r. is_other except (socket r)) xs in
      let hand : Holder → Delivery = λ h. delivery h.owner h.socket frame in
      let to : R → Delivery = λ r. delivery (owner r) (socket r) frame in
      elim (is_other except (socket x)) as (λ b. map hand (cond b (holder x ∷ hs) hs) ≡ map to (cond b (x ∷ kept) kept)) [
        | true ↦ ap (λ ds. to x ∷ ds) (handed-rows frame except xs)
        | false ↦ handed-rows frame except xs
      ]

-- the first socket's frame, and the others'
pub handed_first : (frame : Frame) (except : Option ℕ) (h : Holder) (hs : List Holder) → handed frame except (h ∷ []) ++ handed frame except hs ≡ handed frame except (h ∷ hs)
handed_first frame except h hs =
    let hand : Holder → Delivery = λ h. delivery h.owner h.socket frame in
    let kept = filter (λ h. is_other except h.socket) hs in
    elim (is_other except h.socket) as (λ b. map hand (cond b (h ∷ []) []) ++ map hand kept ≡ map hand (cond b (h ∷ kept) kept)) [ true ↦ refl | false ↦ refl ]
