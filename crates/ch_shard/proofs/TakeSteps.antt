-- What a take changes, and a look and a list don't, is what the definitions say of their entries.
use Rattle.std.proofs.Common.{◌≡◌, ◌≢◌, ℕ, length, ap, ap₂, true, false, ◌==◌, cond, List, [], ◌++◌, refl, sym, ◌∙◌, append-nil, arith}
use Rattle.std.proofs.lemmas.Bool.Decides.{nat_tests}
use Rattle.ch_base.specs.Growth.{entry}
use Rattle.ch_base.specs.declared.channel.ChanCall.{ChanCall}
use Rattle.ch_base.specs.declared.channel.ChanCall.TheVariants.{Take, TakeHooks, Names, Look, Users}
use Rattle.ch_base.specs.declared.channel.ChanAnswer.{ChanAnswer}
use Rattle.ch_history.specs.declared.rows.HeldNotice.{HeldNotice}
use Rattle.ch_history.specs.Entries.{ChanEntry, ChanHistory}
use Rattle.ch_history.specs.Subscriptions.{is_joined}
use Rattle.ch_history.specs.Clock.{clock_with, clock}
use Rattle.ch_history.specs.Held.{due, not_due, vacated_events, held}
use Rattle.ch_history.proofs.Held.{due-after, due-held}
use Rattle.ch_history.proofs.Lists.{list_any-false}
use Rattle.ch_history.proofs.Subscriptions.{opens_nothing}
use Rattle.ch_outbox.specs.Outbox.{frames_of}
use Rattle.ch_shard.specs.Parts.{Parts, TakeGives, TakeHooksGives, looked, user_ids, name_rows}
use Rattle.ch_shard.specs.Moves.{Moves}
use Rattle.ch_shard.proofs.Occurring.{not_due-all, held-quiet, hooks-quiet}
use Rattle.ch_shard.proofs.Simulation.{still, keeps, IsUnchanged-itself}
use Rattle.ch_shard.proofs.Stays.{stay}

pub takes_frames : (old new : Parts) (now w : ℕ) (a : ChanAnswer) → TakeGives old new w a → Moves old new now (entry w Take a)
takes_frames old new now w a gives =
    let e : ChanEntry = entry w Take a in
    record {
      answered = gives.answered;
      subs = gives.subs ∙ sym (stay old.subs e (list_any-false old.subs) (opens_nothing (is_joined a)));
      latest = keeps old new now gives.latest;
      frames = λ v.
          (elim (w == v) as (λ b. (w == v) ≡ b → frames_of new.outbox v ≡ cond b [] (frames_of old.outbox v ++ [])) [
            | true ↦ (λ is. let same : v ≡ w = grind (arith, nat_tests) in rw same gives.emptied)
            | false ↦ (λ is. let other : v ≢ w = grind (arith, nat_tests) in gives.others v other ∙ sym (append-nil (frames_of old.outbox v)))
          ]) refl;
      log = ap₂ (λ ks ns. ks ++ vacated_events (due now ns)) gives.log gives.held ∙ ap (λ ks. old.log ++ ks) (sym (hooks-quiet now old.held));
      held = ap (not_due now) gives.held ∙ sym (held-quiet now old.held);
      room = λ enough.
          let as_many : length (due now new.held) ≡ length (due now old.held) = ap (λ ns. length (due now ns)) gives.held in
          let spare : new.spare ≡ old.spare = gives.spare in
          omega (arith, as_many, spare, enough);
    }

-- a Take carries no moment, and nothing is due at the clock
pub none_due : (h : ChanHistory) (now : ℕ) (call : ChanCall) (notices : List HeldNotice) → call ≡ Take → now ≡ clock_with (clock h) call → notices ≡ held h → due now notices ≡ []
none_due h now call notices is clocked held_is =
    let timeless : clock_with (clock h) Take ≡ clock h = omega arith in
    ap₂ due (clocked ∙ ap (clock_with (clock h)) is ∙ timeless) held_is ∙ due-held h

pub takes_hooks : (old new : Parts) (now w at : ℕ) (a : ChanAnswer) → TakeHooksGives old new now a → Moves old new now (entry w (TakeHooks at) a)
takes_hooks old new now w at a gives =
    let e : ChanEntry = entry w (TakeHooks at) a in
    let nothing_due : due now new.held ≡ [] = ap (due now) (gives.held ∙ sym (held-quiet now old.held)) ∙ due-after now [] old.held in
    record {
      answered = gives.answered;
      subs = gives.subs ∙ sym (stay old.subs e (list_any-false old.subs) (opens_nothing (is_joined a)));
      latest = keeps old new now gives.latest;
      frames = λ v. gives.frames v ∙ sym (append-nil (frames_of old.outbox v));
      log = ap₂ (λ ks ns. ks ++ vacated_events ns) gives.log nothing_due;
      held = not_due-all now new.held nothing_due ∙ gives.held ∙ sym (held-quiet now old.held);
      room = λ _. let none : length (due now new.held) ≡ 0 = ap length nothing_due in omega (arith, none);
    }

pub looks : (k : Parts) (now w : ℕ) (c : List ℕ) (at : ℕ) → Moves k k now (entry w (Look c at) (looked k now c))
looks k now w c at =
    let e : ChanEntry = entry w (Look c at) (looked k now c) in
    still k k now e (IsUnchanged-itself k) refl (stay k.subs e (list_any-false k.subs) refl) (λ d. refl) (λ v. refl) refl refl refl

pub lists_users : (k : Parts) (now w : ℕ) (c : List ℕ) → Moves k k now (entry w (Users c) (user_ids k.subs c))
lists_users k now w c =
    let e : ChanEntry = entry w (Users c) (user_ids k.subs c) in
    still k k now e (IsUnchanged-itself k) refl (stay k.subs e (list_any-false k.subs) refl) (λ d. refl) (λ v. refl) refl refl refl

pub lists_names : (k : Parts) (now w : ℕ) (prefix : List ℕ) → Moves k k now (entry w (Names prefix) (name_rows k.subs prefix))
lists_names k now w prefix =
    let e : ChanEntry = entry w (Names prefix) (name_rows k.subs prefix) in
    still k k now e (IsUnchanged-itself k) refl (stay k.subs e (list_any-false k.subs) refl) (λ d. refl) (λ v. refl) refl refl refl
