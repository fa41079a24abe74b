-- What a Leave and a loss change is what the definitions say of their entries.
use Rattle.std.proofs.Common.{◌≡◌, ℕ, Bool, true, false, cond, List, ◌++◌, flat_map, refl, ap, sym, subst, ◌∙◌, append-nil, MatchBool}
use Rattle.ch_base.specs.Growth.{entry}
use Rattle.ch_base.specs.declared.channel.ChanCall.TheVariants.{Leave, Lost}
use Rattle.ch_base.specs.declared.channel.ChanAnswer.{ChanAnswer}
use Rattle.ch_base.specs.declared.channel.ChanAnswer.TheVariants.{Left, NotOn}
use Rattle.ch_base.specs.declared.webhook.Hook.{Hook}
use Rattle.ch_history.specs.declared.rows.Subscription.{Subscription}
use Rattle.ch_history.specs.Entries.{ChanEntry}
use Rattle.ch_history.specs.Deliveries.{for_owner}
use Rattle.ch_history.specs.Subscriptions.{on_channel, is_on, channels_in}
use Rattle.ch_history.specs.Frames.{member_removed_frames}
use Rattle.ch_history.specs.Webhooks.{parting}
use Rattle.ch_history.specs.Held.{held_after, hooks_after}
use Rattle.ch_outbox.specs.Outbox.{frames_of}
use Rattle.ch_subs.specs.Subs.{without_one, without_all}
use Rattle.ch_shard.specs.Parting.{others, leave_frames, leave_hooks}
use Rattle.ch_shard.specs.Parts.{Parts, Changes, IsUnchanged, LeaveGives, LostGives}
use Rattle.ch_shard.proofs.Lists.{flat_map-same}
use Rattle.ch_shard.specs.Moves.{Moves}
use Rattle.ch_shard.proofs.Occurring.{log-occur, held-occur, room-occur}
use Rattle.ch_shard.proofs.Simulation.{still, keeps}
use Rattle.ch_shard.proofs.Stays.{stay, none_own, after_leave, after_loss}

-- Leave

ends : (old new : Parts) (now w socket : ℕ) (c : List ℕ) (at : ℕ) → is_on old.subs socket c ≡ true
    → Changes old new now (without_one old.subs socket c) (leave_frames old.subs c socket) (leave_hooks old.subs c socket) → Moves old new now (entry w (Leave socket c at) Left)
ends old new now w socket c at there changes =
    let ys : List Subscription = on_channel old.subs c in
    let after : others ys socket ≡ on_channel new.subs c = sym (ap (λ xs. on_channel xs c) changes.subs_now ∙ after_leave old.subs socket c) in
    record {
      answered = sym (ap (λ b. cond b Left NotOn) there);
      subs = changes.subs_now ∙ sym (append-nil (without_one old.subs socket c));
      latest = keeps old new now changes.latest;
      frames = λ v. changes.frames v ∙ ap (λ zs. frames_of old.outbox v ++ for_owner v (member_removed_frames c ys zs socket)) after;
      log = log-occur old new now (leave_hooks old.subs c socket) changes.hooks ∙ ap (λ zs. old.log ++ hooks_after now (parting c ys zs socket) old.held) after;
      held = held-occur old new now (leave_hooks old.subs c socket) changes.hooks ∙ ap (λ zs. held_after now (parting c ys zs socket) old.held) after;
      room = λ _. room-occur old new now (leave_hooks old.subs c socket) changes.hooks;
    }

not_on : (old new : Parts) (now w socket : ℕ) (c : List ℕ) (at : ℕ) → is_on old.subs socket c ≡ false → IsUnchanged old new
    → Moves old new now (entry w (Leave socket c at) NotOn)
not_on old new now w socket c at off same =
    let e : ChanEntry = entry w (Leave socket c at) NotOn in
    still old new now e same (sym (ap (λ b. cond b Left NotOn) off)) (stay old.subs e (none_own old.subs socket c off) refl) (λ d. refl) (λ v. refl) refl refl refl

by : (old new : Parts) (now w socket : ℕ) (c : List ℕ) (at : ℕ) (a : ChanAnswer) (there : Bool) → is_on old.subs socket c ≡ there
    → MatchBool there
    ((a ≡ Left) × Changes old new now (without_one old.subs socket c) (leave_frames old.subs c socket) (leave_hooks old.subs c socket))
    ((a ≡ NotOn) × IsUnchanged old new)
    → Moves old new now (entry w (Leave socket c at) a)
by old new now w socket c at a true is gives =
    let P : ChanAnswer → Type 0 = λ x. Moves old new now (entry w (Leave socket c at) x) in subst P (sym gives.0) (ends old new now w socket c at is gives.1)
by old new now w socket c at a false is gives =
    let P : ChanAnswer → Type 0 = λ x. Moves old new now (entry w (Leave socket c at) x) in subst P (sym gives.0) (not_on old new now w socket c at is gives.1)

pub leaves : (old new : Parts) (now w socket : ℕ) (c : List ℕ) (at : ℕ) (a : ChanAnswer)
    → LeaveGives old new now socket c a → Moves old new now (entry w (Leave socket c at) a)
leaves old new now w socket c at a gives = by old new now w socket c at a (is_on old.subs socket c) refl gives

-- Loss

pub loses : (old new : Parts) (now w socket : ℕ) (at : ℕ) (a : ChanAnswer)
    → LostGives old new now socket a → Moves old new now (entry w (Lost socket at) a)
loses old new now w socket at a gives =
    let P : ChanAnswer → Type 0 = λ x. Moves old new now (entry w (Lost socket at) x) in
    let its : List (List ℕ) = channels_in old.subs socket in
    let after : (c : List ℕ) → others (on_channel old.subs c) socket ≡ on_channel new.subs c = λ c. sym (ap (λ xs. on_channel xs c) gives.1.subs_now ∙ after_loss old.subs socket c) in
    let events : List Hook = flat_map (λ c. leave_hooks old.subs c socket) its in
    let same : events ≡ flat_map (λ c. parting c (on_channel old.subs c) (on_channel new.subs c) socket) its =
    flat_map-same (λ c. leave_hooks old.subs c socket) (λ c. parting c (on_channel old.subs c) (on_channel new.subs c) socket) its
    (λ c. ap (λ zs. parting c (on_channel old.subs c) zs socket) (after c)) in
    subst P (sym gives.0) record {
      answered = refl;
      subs = gives.1.subs_now ∙ sym (append-nil (without_all old.subs socket));
      latest = keeps old new now gives.1.latest;
      frames = λ v. gives.1.frames v
          ∙ ap (λ fs. frames_of old.outbox v ++ for_owner v fs)
          (flat_map-same (λ c. leave_frames old.subs c socket) (λ c. member_removed_frames c (on_channel old.subs c) (on_channel new.subs c) socket) its
          (λ c. ap (λ zs. member_removed_frames c (on_channel old.subs c) zs socket) (after c)));
      log = log-occur old new now events gives.1.hooks ∙ ap (λ ks. old.log ++ hooks_after now ks old.held) same;
      held = held-occur old new now events gives.1.hooks ∙ ap (λ ks. held_after now ks old.held) same;
      room = λ _. room-occur old new now events gives.1.hooks;
    }
