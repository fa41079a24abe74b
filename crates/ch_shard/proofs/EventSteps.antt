-- What a Publish and a client event change is what the definitions say of their entries.
use Rattle.std.proofs.Common.{◌≡◌, ℕ, Bool, true, false, cond, List, [], ◌∷◌, refl, ap, sym, subst, ◌∙◌, Option, Some, MatchBool}
use Rattle.ch_base.specs.Growth.{entry}
use Rattle.ch_base.specs.declared.channel.ChanCall.TheVariants.{Publish, Say}
use Rattle.ch_base.specs.declared.channel.ChanAnswer.{ChanAnswer}
use Rattle.ch_base.specs.declared.channel.ChanAnswer.TheVariants.{Said, NotOn}
use Rattle.ch_base.specs.declared.webhook.Hook.{Hook}
use Rattle.ch_base.specs.declared.webhook.Hook.TheVariants as hook
use Rattle.ch_history.specs.Entries.{ChanEntry}
use Rattle.ch_history.specs.Subscriptions.{is_joined, on_channel, is_on}
use Rattle.ch_history.specs.Presence.{user_in}
use Rattle.ch_history.specs.Frames.{is_other, broadcast}
use Rattle.ch_history.proofs.Lists.{list_any-false}
use Rattle.ch_history.proofs.Subscriptions.{opens_nothing}
use Rattle.ch_shard.specs.Parts.{Parts, Changes, IsUnchanged, PublishGives, SayGives}
use Rattle.ch_history.specs.AnswerKinds.{IsAnswerTo}
use Rattle.ch_shard.specs.Moves.{Moves}
use Rattle.ch_shard.proofs.Occurring.{log-occur, held-occur, room-occur}
use Rattle.ch_shard.proofs.Simulation.{still, keeps}
use Rattle.ch_shard.proofs.Stays.{stay}

-- Publish

pub publishes : (old new : Parts) (now w : ℕ) (c event body : List ℕ) (except : Option ℕ) (at : ℕ) (a : ChanAnswer)
    → PublishGives old new now c event body except a → Moves old new now (entry w (Publish c event body except at) a)
publishes old new now w c event body except at a gives =
    let e : ChanEntry = entry w (Publish c event body except at) a in
    record {
      answered = gives.answered;
      subs = gives.subs ∙ sym (stay old.subs e (list_any-false old.subs) (opens_nothing (is_joined a)));
      latest = gives.latest;
      frames = gives.frames;
      log = log-occur old new now [] gives.hooks;
      held = held-occur old new now [] gives.hooks;
      room = λ _. room-occur old new now [] gives.hooks;
    }

-- A client event

said : (old new : Parts) (now w socket : ℕ) (c event body : List ℕ) (at : ℕ) → is_on old.subs socket c ≡ true
    → Changes old new now old.subs
    (broadcast c event body (user_in (on_channel old.subs c) socket) (is_other (Some socket)) (on_channel old.subs c))
    (hook.Client c event body socket (user_in (on_channel old.subs c) socket) ∷ [])
    → Moves old new now (entry w (Say socket c event body at) Said)
said old new now w socket c event body at there changes =
    let e : ChanEntry = entry w (Say socket c event body at) Said in
    let events : List Hook = hook.Client c event body socket (user_in (on_channel old.subs c) socket) ∷ [] in
    record {
      answered = sym (ap (λ b. cond b Said NotOn) there);
      subs = changes.subs_now ∙ sym (stay old.subs e (list_any-false old.subs) refl);
      latest = keeps old new now changes.latest;
      frames = changes.frames;
      log = log-occur old new now events changes.hooks;
      held = held-occur old new now events changes.hooks;
      room = λ _. room-occur old new now events changes.hooks;
    }

not_on : (old new : Parts) (now w socket : ℕ) (c event body : List ℕ) (at : ℕ) → is_on old.subs socket c ≡ false → IsUnchanged old new
    → Moves old new now (entry w (Say socket c event body at) NotOn)
not_on old new now w socket c event body at off same =
    let e : ChanEntry = entry w (Say socket c event body at) NotOn in
    still old new now e same (sym (ap (λ b. cond b Said NotOn) off)) (stay old.subs e (list_any-false old.subs) refl) (λ d. refl) (λ v. refl) refl refl refl

by : (old new : Parts) (now w socket : ℕ) (c event body : List ℕ) (at : ℕ) (a : ChanAnswer) (there : Bool) → is_on old.subs socket c ≡ there
    → MatchBool there
    ((a ≡ Said) × Changes old new now old.subs
    (broadcast c event body (user_in (on_channel old.subs c) socket) (is_other (Some socket)) (on_channel old.subs c))
    (hook.Client c event body socket (user_in (on_channel old.subs c) socket) ∷ []))
    ((a ≡ NotOn) × IsUnchanged old new)
    → Moves old new now (entry w (Say socket c event body at) a)
by old new now w socket c event body at a true is gives =
    let P : ChanAnswer → Type 0 = λ x. Moves old new now (entry w (Say socket c event body at) x) in subst P (sym gives.0) (said old new now w socket c event body at is gives.1)
by old new now w socket c event body at a false is gives =
    let P : ChanAnswer → Type 0 = λ x. Moves old new now (entry w (Say socket c event body at) x) in subst P (sym gives.0) (not_on old new now w socket c event body at is gives.1)

pub says : (old new : Parts) (now w socket : ℕ) (c event body : List ℕ) (at : ℕ) (a : ChanAnswer)
    → SayGives old new now socket c event body a → Moves old new now (entry w (Say socket c event body at) a)
says old new now w socket c event body at a gives = by old new now w socket c event body at a (is_on old.subs socket c) refl gives

-- a client event is answered Said or NotOn
kind_by : (old new : Parts) (socket : ℕ) (c event body : List ℕ) (at : ℕ) (a : ChanAnswer) (there : Bool) (A B : Type 0)
    → MatchBool there ((a ≡ Said) × A) ((a ≡ NotOn) × B) → IsAnswerTo (Say socket c event body at) a
kind_by old new socket c event body at a true A B gives = subst (IsAnswerTo (Say socket c event body at)) (sym gives.0) tt
kind_by old new socket c event body at a false A B gives = subst (IsAnswerTo (Say socket c event body at)) (sym gives.0) tt

pub say_kind : (old new : Parts) (now socket : ℕ) (c event body : List ℕ) (at : ℕ) (a : ChanAnswer) → SayGives old new now socket c event body a → IsAnswerTo (Say socket c event body at) a
say_kind old new now socket c event body at a gives = kind_by old new socket c event body at a (is_on old.subs socket c) _ _ gives
