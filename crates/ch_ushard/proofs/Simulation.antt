-- A step of the shard is a step of each history that it stands for.
use Rattle.std.proofs.Common.{◌≡◌, ℕ, ◌<◌, cond, [], ◌∷◌, ◌++◌, ap, ap₂, sym, ◌∙◌, MatchResult, Result, Ok, Err, subst}
use Rattle.ch_base.specs.Growth.{entry}
use Rattle.ch_base.specs.declared.limits.TheConstants.{MAX_CALLERS}
use Rattle.ch_base.specs.declared.user.UserCall.{UserCall}
use Rattle.ch_base.specs.declared.user.UserAnswer.{UserAnswer}
use Rattle.ch_base.specs.declared.memory.Memory.{Memory}
use Rattle.ch_history.specs.Entries.{UserEntry, UserHistory}
use Rattle.ch_history.specs.SignIns.{sign_ins, sign_ins_after, watches, watches_after}
use Rattle.ch_history.specs.Deliveries.{for_owner}
use Rattle.ch_history.specs.UserFrames.{user_frames, user_frames_by, user_takes, user_waiting}
use Rattle.ch_history.specs.UserAnswers.{user_answer_by}
use Rattle.ch_history.specs.UserLegal.{IsUserWellFormed}
use Rattle.ch_history.proofs.UserPush.{sign_ins-push, watches-push, user_waiting-push}
use Rattle.ch_history.proofs.UserLegal.{IsUserLegal-push}
use Rattle.ch_outbox.specs.Outbox.{frames_of}
use Rattle.ch_ushard.specs.UserShardState.{UserShardState, IsUnchanged}
use Rattle.ch_ushard.specs.Stands.{Stands}

-- the shard goes from old to new by the entry
pub record Moves (old new : UserShardState) (e : UserEntry) : Type 0 where
  pub answered : e.answer ≡ user_answer_by old.users.signs old.users.watches (frames_of old.outbox e.caller) e.call
  pub signs : new.users.signs ≡ sign_ins_after old.users.signs e
  pub watches : new.users.watches ≡ watches_after old.users.watches e
  pub frames : (w : ℕ) → frames_of new.outbox w ≡ cond (user_takes w e) [] (frames_of old.outbox w ++ for_owner w (user_frames_by old.users.signs new.users.signs old.users.watches new.users.watches e.caller e.answer e.call))

pub Stands-moves : (old new : UserShardState) (h : UserHistory) (e : UserEntry) → e.caller < MAX_CALLERS → IsUserWellFormed e.call → Stands old h → Moves old new e → Stands new (h ++ e ∷ [])
Stands-moves old new h e below formed stands moves =
    let signs_after : new.users.signs ≡ sign_ins (h ++ e ∷ []) = moves.signs ∙ ap (λ xs. sign_ins_after xs e) stands.signs ∙ sym (sign_ins-push h e) in
    let watches_after : new.users.watches ≡ watches (h ++ e ∷ []) = moves.watches ∙ ap (λ xs. watches_after xs e) stands.watches ∙ sym (watches-push h e) in
    let made : user_frames_by old.users.signs new.users.signs old.users.watches new.users.watches e.caller e.answer e.call ≡ user_frames h e =
    ap₂ (λ b a. user_frames_by b a old.users.watches new.users.watches e.caller e.answer e.call) stands.signs signs_after
    ∙ ap₂ (λ b a. user_frames_by (sign_ins h) (sign_ins (h ++ e ∷ [])) b a e.caller e.answer e.call) stands.watches watches_after in
    record {
      legal = IsUserLegal-push h e stands.legal record {
        formed = formed;
        answered = moves.answered
            ∙ ap₂ (λ xs mine. user_answer_by xs old.users.watches mine e.call) stands.signs (stands.frames e.caller below)
            ∙ ap (λ ys. user_answer_by (sign_ins h) ys (user_waiting h e.caller) e.call) stands.watches;
      };
      signs = signs_after;
      watches = watches_after;
      frames = λ w small. moves.frames w
          ∙ ap₂ (λ ws fs. cond (user_takes w e) [] (ws ++ for_owner w fs)) (stands.frames w small) made
          ∙ sym (user_waiting-push h w e);
    }

pub Stands-unchanged : (old new : UserShardState) (h : UserHistory) → Stands old h → IsUnchanged old new → Stands new h
Stands-unchanged old new h stands same = record {
  legal = stands.legal;
  signs = same.signs ∙ stands.signs;
  watches = same.watches ∙ stands.watches;
  frames = λ w small. same.frames w ∙ stands.frames w small;
}

-- the entry of a call that the code has taken apart
Moves-as : (old new : UserShardState) (w : ℕ) (call shown : UserCall) (a : UserAnswer) → call ≡ shown → Moves old new (entry w shown a) → Moves old new (entry w call a)
Moves-as old new w call shown a is moves =
    let P : UserCall → Type 0 = λ x. Moves old new (entry w x a) in subst P (sym is) moves

-- a call that is answered moves the shard, and one that finds no memory leaves it as it was
pub Stands-served : (old new : UserShardState) (h : UserHistory) (w : ℕ) (call shown : UserCall) (Gives : UserAnswer → Type 0) (r : Result UserAnswer Memory)
    → call ≡ shown → w < MAX_CALLERS → IsUserWellFormed call → Stands old h → ((a : UserAnswer) → Gives a → Moves old new (entry w shown a))
    → MatchResult r Gives (λ _. IsUnchanged old new) → MatchResult r (λ a. Stands new (h ++ entry w call a ∷ [])) (λ _. Stands new h)
Stands-served old new h w call shown Gives (Ok a) is below formed stands moves gives =
    Stands-moves old new h (entry w call a) below formed stands (Moves-as old new w call shown a is (moves a gives))
Stands-served old new h w call shown Gives (Err m) is below formed stands moves same = Stands-unchanged old new h stands same

-- a call that finds memory always
pub Stands-answered : (old new : UserShardState) (h : UserHistory) (w : ℕ) (call shown : UserCall) (a : UserAnswer)
    → call ≡ shown → w < MAX_CALLERS → IsUserWellFormed call → Stands old h → Moves old new (entry w shown a) → Stands new (h ++ entry w call a ∷ [])
Stands-answered old new h w call shown a is below formed stands moves =
    Stands-moves old new h (entry w call a) below formed stands (Moves-as old new w call shown a is moves)
