-- What a Join changes is what the definitions say of its entry.
use Rattle.std.proofs.Common.{◌≡◌, ℕ, Bool, true, false, cond, [], ◌∷◌, ◌++◌, refl, ap, sym, subst, ◌∙◌, MatchBool}
use Rattle.ch_base.specs.Growth.{entry}
use Rattle.ch_base.specs.declared.channel.ChanCall.TheVariants.{Join}
use Rattle.ch_base.specs.declared.channel.ChanAnswer.{ChanAnswer}
use Rattle.ch_base.specs.declared.channel.ChanAnswer.TheVariants.{Joined, Already, Crowded}
use Rattle.ch_history.specs.declared.rows.Subscription.{Subscription}
use Rattle.ch_history.specs.Entries.{ChanEntry}
use Rattle.ch_history.specs.Deliveries.{for_owner}
use Rattle.ch_history.specs.Subscriptions.{settles, on_channel, is_on}
use Rattle.ch_history.specs.Frames.{welcome, member_added_frames}
use Rattle.ch_history.specs.Answers.{is_crowded}
use Rattle.ch_history.proofs.Lists.{filter-none, list_any-false}
use Rattle.ch_outbox.specs.Outbox.{frames_of}
use Rattle.ch_shard.specs.Parts.{Parts, kept_at, Changes, IsUnchanged, JoinGives, join_frames, join_hooks}
use Rattle.ch_history.specs.AnswerKinds.{IsAnswerTo}
use Rattle.ch_shard.specs.Moves.{Moves}
use Rattle.ch_shard.proofs.Occurring.{log-occur, held-occur, room-occur}
use Rattle.ch_shard.proofs.Simulation.{still, keeps}
use Rattle.ch_shard.proofs.Stays.{stay, none_own}

-- the entry of the Join of n
abbrev pub joining : Subscription → ℕ → ChanAnswer → ChanEntry
joining n at a = entry n.owner (Join n.socket n.channel n.member at) a

-- an answer by the two tests
abbrev answer_by_tests : Bool → Bool → ChanAnswer
answer_by_tests there crowded = cond there Already (cond crowded Crowded Joined)

anew : (old new : Parts) (now : ℕ) (n : Subscription) (at : ℕ) → is_on old.subs n.socket n.channel ≡ false → is_crowded n.channel (on_channel old.subs n.channel) n.member ≡ false
    → Changes old new now (old.subs ++ n ∷ []) (join_frames old now n) (join_hooks old now n) → Moves old new now (joining n at Joined)
anew old new now n at off fits changes =
    let e : ChanEntry = joining n at Joined in
    record {
      answered = sym (ap (λ b. answer_by_tests b (is_crowded n.channel (on_channel old.subs n.channel) n.member)) off ∙ ap (answer_by_tests false) fits);
      subs = changes.subs_now ∙ ap (λ ys. ys ++ n ∷ []) (sym (filter-none (λ s. settles s e) old.subs (none_own old.subs n.socket n.channel off)));
      latest = keeps old new now changes.latest;
      frames = λ v. changes.frames v
          ∙ ap (λ xs. frames_of old.outbox v ++ for_owner v (welcome n.channel (on_channel xs n.channel) (kept_at old now n.channel) n ++ member_added_frames n.channel (on_channel old.subs n.channel) n.member))
          (sym changes.subs_now);
      log = log-occur old new now (join_hooks old now n) changes.hooks;
      held = held-occur old new now (join_hooks old now n) changes.hooks;
      room = λ _. room-occur old new now (join_hooks old now n) changes.hooks;
    }

again : (old new : Parts) (now : ℕ) (n : Subscription) (at : ℕ) → is_on old.subs n.socket n.channel ≡ true → IsUnchanged old new → Moves old new now (joining n at Already)
again old new now n at there same =
    let e : ChanEntry = joining n at Already in
    still old new now e same (sym (ap (λ b. answer_by_tests b (is_crowded n.channel (on_channel old.subs n.channel) n.member)) there))
    (stay old.subs e (list_any-false old.subs) refl) (λ d. refl) (λ v. refl) refl refl refl

full : (old new : Parts) (now : ℕ) (n : Subscription) (at : ℕ) → is_on old.subs n.socket n.channel ≡ false → is_crowded n.channel (on_channel old.subs n.channel) n.member ≡ true → IsUnchanged old new
    → Moves old new now (joining n at Crowded)
full old new now n at off crowded same =
    let e : ChanEntry = joining n at Crowded in
    still old new now e same (sym (ap (λ b. answer_by_tests b (is_crowded n.channel (on_channel old.subs n.channel) n.member)) off ∙ ap (answer_by_tests false) crowded))
    (stay old.subs e (list_any-false old.subs) refl) (λ d. refl) (λ v. refl) refl refl refl

by : (old new : Parts) (now : ℕ) (n : Subscription) (at : ℕ) (a : ChanAnswer) (there crowded : Bool) → is_on old.subs n.socket n.channel ≡ there → is_crowded n.channel (on_channel old.subs n.channel) n.member ≡ crowded
    → MatchBool there ((a ≡ Already) × IsUnchanged old new)
    (MatchBool crowded ((a ≡ Crowded) × IsUnchanged old new)
    ((a ≡ Joined) × Changes old new now (old.subs ++ n ∷ []) (join_frames old now n) (join_hooks old now n)))
    → Moves old new now (joining n at a)
by old new now n at a true crowded is full_is gives =
    let P : ChanAnswer → Type 0 = λ x. Moves old new now (joining n at x) in subst P (sym gives.0) (again old new now n at is gives.1)
by old new now n at a false true is full_is gives =
    let P : ChanAnswer → Type 0 = λ x. Moves old new now (joining n at x) in subst P (sym gives.0) (full old new now n at is full_is gives.1)
by old new now n at a false false is full_is gives =
    let P : ChanAnswer → Type 0 = λ x. Moves old new now (joining n at x) in subst P (sym gives.0) (anew old new now n at is full_is gives.1)

pub joins : (old new : Parts) (now : ℕ) (n : Subscription) (at : ℕ) (a : ChanAnswer) → JoinGives old new now n a → Moves old new now (joining n at a)
joins old new now n at a gives = by old new now n at a (is_on old.subs n.socket n.channel) (is_crowded n.channel (on_channel old.subs n.channel) n.member) refl refl gives

-- a Join is answered Joined, Already or Crowded
kind_by : (n : Subscription) (at : ℕ) (a : ChanAnswer) (there crowded : Bool) (A B C : Type 0)
    → MatchBool there ((a ≡ Already) × A) (MatchBool crowded ((a ≡ Crowded) × B) ((a ≡ Joined) × C)) → IsAnswerTo (Join n.socket n.channel n.member at) a
kind_by n at a true crowded A B C gives = subst (IsAnswerTo (Join n.socket n.channel n.member at)) (sym gives.0) tt
kind_by n at a false true A B C gives = subst (IsAnswerTo (Join n.socket n.channel n.member at)) (sym gives.0) tt
kind_by n at a false false A B C gives = subst (IsAnswerTo (Join n.socket n.channel n.member at)) (sym gives.0) tt

pub join_kind : (old new : Parts) (now : ℕ) (n : Subscription) (at : ℕ) (a : ChanAnswer) → JoinGives old new now n a → IsAnswerTo (Join n.socket n.channel n.member at) a
join_kind old new now n at a gives = kind_by n at a (is_on old.subs n.socket n.channel) (is_crowded n.channel (on_channel old.subs n.channel) n.member) _ _ _ gives
