-- The latest events after one is published.
use Rattle.std.proofs.Common.{◌≡◌, ℕ, true, false, cond, List, Option, Some, None, bytes_eq, refl, ap, sym, ◌∙◌}
use Rattle.ch_history.specs.declared.rows.Cached.{Cached}
use Rattle.ch_history.specs.ChannelName.{is_cache}
use Rattle.ch_history.specs.Cache.{lasting, renewed}
use Rattle.ch_history.proofs.Texts.{same_text}
use Rattle.ch_history.proofs.Subscriptions.{opens_nothing}
use Rattle.ch_shard.specs.Parts.{after_event}

-- on a channel that keeps none
pub not_kept : (kept : List ℕ → ℕ → Option Cached) (c : List ℕ) (x : Cached) (d : List ℕ) (at : ℕ) → is_cache c ≡ false → kept d at ≡ after_event kept c x d at
not_kept kept c x d at plain =
    (elim (bytes_eq c d) as (λ b. bytes_eq c d ≡ b → kept d at ≡ renewed at (kept d at) (cond (is_cache d) (cond b (Some x) None) None)) [
      | true ↦ (λ here. ap (λ b. renewed at (kept d at) (cond b (Some x) None)) (sym plain ∙ ap is_cache (same_text c d here)))
      | false ↦ (λ elsewhere. sym (ap (renewed at (kept d at)) (opens_nothing (is_cache d))))
    ]) refl

-- on a channel that keeps it
pub now_kept : (kept : List ℕ → ℕ → Option Cached) (c : List ℕ) (x : Cached) (d : List ℕ) (at : ℕ) → is_cache c ≡ true → cond (bytes_eq c d) (lasting at (Some x)) (kept d at) ≡ after_event kept c x d at
now_kept kept c x d at keeps =
    (elim (bytes_eq c d) as (λ b. bytes_eq c d ≡ b → cond b (lasting at (Some x)) (kept d at) ≡ renewed at (kept d at) (cond (is_cache d) (cond b (Some x) None) None)) [
      | true ↦ (λ here. ap (λ b. renewed at (kept d at) (cond b (Some x) None)) (sym keeps ∙ ap is_cache (same_text c d here)))
      | false ↦ (λ elsewhere. sym (ap (renewed at (kept d at)) (opens_nothing (is_cache d))))
    ]) refl
