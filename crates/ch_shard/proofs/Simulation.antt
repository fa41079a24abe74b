-- A step of the shard is a step of each history that it stands for.
use Rattle.std.proofs.Common.{◌≡◌, ℕ, ◌<◌, ◌≤◌, false, cond, List, [], ◌∷◌, ◌++◌, Option, None, refl, ap, ap₂, sym, subst, ◌∙◌, append-nil, option_map, IfOk, MatchResult, Result, Ok, Err, arith}
use Rattle.std.proofs.Math.Path.{fun_ext}
use Rattle.ch_base.specs.Growth.{entry}
use Rattle.ch_base.specs.declared.channel.CacheRow.{CacheRow}
use Rattle.ch_base.specs.declared.channel.ChanCall.{ChanCall}
use Rattle.ch_base.specs.declared.channel.ChanAnswer.{ChanAnswer}
use Rattle.ch_base.specs.declared.limits.TheConstants.{MAX_CALLERS}
use Rattle.ch_base.specs.declared.memory.Memory.{Memory}
use Rattle.ch_history.specs.Entries.{ChanEntry, ChanHistory}
use Rattle.ch_history.specs.Subscriptions.{subscriptions, subs_after}
use Rattle.ch_history.specs.ChannelName.{is_cache}
use Rattle.ch_history.specs.Clock.{clock_with, clock}
use Rattle.ch_history.specs.Cache.{published, renewed, cache_row, latest, latest_row}
use Rattle.ch_history.specs.Deliveries.{for_owner}
use Rattle.ch_history.specs.Frames.{frames, frames_by, takes}
use Rattle.ch_history.specs.Webhooks.{events_by, events_at}
use Rattle.ch_history.specs.Held.{due, vacated_events, held_after, hooks_after}
use Rattle.ch_history.specs.Pending.{is_take_hooks, pending}
use Rattle.ch_history.specs.Answers.{answer_by}
use Rattle.ch_history.specs.WellFormed.{IsWellFormed}
use Rattle.ch_history.proofs.Push.{subscriptions-push, clock-push, latest_at-push, waiting-push, held-push, since_take-push}
use Rattle.ch_history.proofs.Legal.{IsLegal-push}
use Rattle.ch_history.proofs.Subscriptions.{opens_nothing}
use Rattle.ch_cache.specs.Latest.{latest_in}
use Rattle.ch_outbox.specs.Outbox.{frames_of}
use Rattle.ch_shard.specs.Parts.{Parts, kept_at, row_at, IsUnchanged}
use Rattle.ch_shard.specs.Moves.{Moves, Released}
use Rattle.ch_shard.specs.Holds.{Holds}
use Rattle.ch_shard.proofs.Occurring.{not_due-all, log-unchanged, held-unchanged, room-unchanged}

-- Holding

moves_on : (old mid new : Parts) (h : ChanHistory) (e : ChanEntry) → e.caller < MAX_CALLERS → IsWellFormed e.call → Holds old h
    → Moves old mid (clock_with (clock h) e.call) e → Released mid new (clock_with (clock h) e.call) → Holds new (h ++ e ∷ [])
moves_on old mid new h e below formed stands moves released =
    let now : ℕ = clock_with (clock h) e.call in
    let before : clock h ≤ now = omega arith in
    let after : mid.subs ≡ subscriptions (h ++ e ∷ []) = moves.subs ∙ ap (λ xs. subs_after xs e) stands.subs ∙ sym (subscriptions-push h e) in
    let kept : kept_at old now ≡ latest h e.call = fun_ext (λ c. stands.latest c now before) in
    let rows : row_at old now ≡ latest_row h e.call = ap {B = List ℕ → Option CacheRow} (λ k c. option_map (cache_row now) (k c)) kept in
    let made : frames_by old.subs mid.subs (kept_at old now) e.caller e.answer e.call ≡ frames h e =
    ap (λ k. frames_by old.subs mid.subs k e.caller e.answer e.call) kept ∙ ap₂ (λ b a. frames_by b a (latest h e.call) e.caller e.answer e.call) stands.subs after in
    let events : events_by old.subs mid.subs (kept_at old now) e.answer e.call ≡ events_at h e =
    ap (λ k. events_by old.subs mid.subs k e.answer e.call) kept ∙ ap₂ (λ b a. events_by b a (latest h e.call) e.answer e.call) stands.subs after in
    let waits : old.log ++ vacated_events (due now old.held) ≡ pending h e.call = ap₂ (λ ks ns. ks ++ vacated_events (due now ns)) stands.log stands.held in
    record {
      legal = IsLegal-push h e stands.legal record {
        formed = formed;
        answered = moves.answered
            ∙ ap₂ (λ rs log. answer_by old.subs rs (frames_of old.outbox e.caller) log e.call) rows waits
            ∙ ap₂ (λ xs mine. answer_by xs (latest_row h e.call) mine (pending h e.call) e.call) stands.subs (stands.frames e.caller below);
      };
      subs = released.subs ∙ after;
      latest = λ c at on.
          let from : now ≤ at = subst (λ t. t ≤ at) (clock-push h e) on in
          let from_before : clock h ≤ at = omega arith in
          released.latest c at
          ∙ moves.latest c at from
          ∙ ap (λ o. renewed at o (cond (is_cache c) (published c now e.call) None)) (stands.latest c at from_before)
          ∙ sym (latest_at-push h c at e);
      frames = λ w small. released.frames w
          ∙ moves.frames w
          ∙ ap₂ (λ ws fs. cond (takes w e) [] (ws ++ for_owner w fs)) (stands.frames w small) made
          ∙ sym (waiting-push h w e);
      log = released.log
          ∙ moves.log
          ∙ ap₂ (λ ks fs. cond (is_take_hooks e.call) [] (ks ++ fs)) stands.log (ap₂ (hooks_after now) events stands.held)
          ∙ sym (since_take-push h e);
      held = released.held
          ∙ moves.held
          ∙ ap₂ (held_after now) events stands.held
          ∙ sym (held-push h e);
    }

-- a call that is answered moves the shard, and then what is due is released
pub Holds-moves : (old mid new : Parts) (h : ChanHistory) (now : ℕ) (e : ChanEntry) → e.caller < MAX_CALLERS → IsWellFormed e.call → now ≡ clock_with (clock h) e.call → Holds old h
    → Moves old mid now e → Released mid new now → Holds new (h ++ e ∷ [])
Holds-moves old mid new h now e below formed clocked stands moves released =
    moves_on old mid new h e below formed stands (subst (λ t. Moves old mid t e) clocked moves) (subst (λ t. Released mid new t) clocked released)

-- where nothing is due, nothing has to be released
pub Released-none : (k : Parts) (now : ℕ) → due now k.held ≡ [] → Released k k now
Released-none k now none = record {
  subs = refl;
  latest = λ c at. refl;
  frames = λ w. refl;
  log = sym (ap (λ ns. k.log ++ vacated_events ns) none ∙ append-nil k.log);
  held = sym (not_due-all now k.held none);
}

-- a shard in which there is nothing stands for the empty history
pub Holds-empty : (k : Parts) → k.subs ≡ [] → ((c : List ℕ) (at : ℕ) → latest_in k.cache c at ≡ None) → ((w : ℕ) → frames_of k.outbox w ≡ []) → k.log ≡ [] → k.held ≡ [] → Holds k []
Holds-empty k subs latest frames log held = record {
  legal = tt;
  subs = subs;
  latest = λ c at on. latest c at ∙ sym (opens_nothing (is_cache c));
  frames = λ w small. frames w;
  log = log;
  held = held;
}

pub Holds-unchanged : (old new : Parts) (h : ChanHistory) → Holds old h → IsUnchanged old new → Holds new h
Holds-unchanged old new h stands same = record {
  legal = stands.legal;
  subs = same.subs ∙ stands.subs;
  latest = λ c at on. same.latest c at ∙ stands.latest c at on;
  frames = λ w small. same.frames w ∙ stands.frames w small;
  log = same.log ∙ stands.log;
  held = same.held ∙ stands.held;
}

-- Moving

-- a call that gives its answers moves the parts by each of them
pub moves_by : (old new : Parts) (now w : ℕ) (call : ChanCall) (Gives : ChanAnswer → Type 0) (r : Result ChanAnswer Memory) → ((a : ChanAnswer) → Gives a → Moves old new now (entry w call a))
    → MatchResult r Gives (λ _. IsUnchanged old new) → MatchResult r (λ a. Moves old new now (entry w call a)) (λ _. IsUnchanged old new)
moves_by old new now w call Gives (Ok a) moves gives = moves a gives
moves_by old new now w call Gives (Err m) moves same = same

-- where nothing is published, each channel keeps the event that it had
pub keeps : (old new : Parts) (now : ℕ) → ((c : List ℕ) (at : ℕ) → latest_in new.cache c at ≡ latest_in old.cache c at) → (c : List ℕ) (at : ℕ) → now ≤ at → latest_in new.cache c at ≡ renewed at (latest_in old.cache c at) (cond (is_cache c) None None)
keeps old new now same c at on = same c at ∙ sym (ap (renewed at (latest_in old.cache c at)) (opens_nothing (is_cache c)))

pub IsUnchanged-itself : (k : Parts) → IsUnchanged k k
IsUnchanged-itself k = record { subs = refl; latest = λ c at. refl; frames = λ w. refl; log = refl; held = refl; spare = omega arith }

-- a call that changes nothing, and finds its answer or no memory
pub read_by : (k : Parts) (now w : ℕ) (call : ChanCall) (right : ChanAnswer) (r : Result ChanAnswer Memory) → Moves k k now (entry w call right)
    → IfOk r (λ a. a ≡ right) → MatchResult r (λ a. Moves k k now (entry w call a)) (λ _. IsUnchanged k k)
read_by k now w call right (Ok a) moves is = let P : ChanAnswer → Type 0 = λ x. Moves k k now (entry w call x) in subst P (sym is) moves
read_by k now w call right (Err m) moves is = IsUnchanged-itself k

-- an entry that changes nothing
pub still : (old new : Parts) (now : ℕ) (e : ChanEntry) → IsUnchanged old new → e.answer ≡ answer_by old.subs (row_at old now) (frames_of old.outbox e.caller) (old.log ++ vacated_events (due now old.held)) e.call
    → subs_after old.subs e ≡ old.subs → ((c : List ℕ) → published c now e.call ≡ None) → ((w : ℕ) → takes w e ≡ false) → is_take_hooks e.call ≡ false
    → frames_by old.subs new.subs (kept_at old now) e.caller e.answer e.call ≡ [] → events_by old.subs new.subs (kept_at old now) e.answer e.call ≡ [] → Moves old new now e
still old new now e same answered stays silent takes_none hooks_stay no_frames no_events = record {
  answered = answered;
  subs = same.subs ∙ sym stays;
  latest = λ c at on. keeps old new now same.latest c at on ∙ ap (λ o. renewed at (latest_in old.cache c at) (cond (is_cache c) o None)) (sym (silent c));
  frames = λ w. same.frames w
      ∙ sym (ap₂ (λ b fs. cond b [] (frames_of old.outbox w ++ for_owner w fs)) (takes_none w) no_frames ∙ append-nil (frames_of old.outbox w));
  log = log-unchanged old new now same ∙ sym (ap₂ (λ b ks. cond b [] (old.log ++ hooks_after now ks old.held)) hooks_stay no_events);
  held = held-unchanged old new now same ∙ sym (ap (λ ks. held_after now ks old.held) no_events);
  room = room-unchanged old new now same;
}

-- the entry of a call that the code has taken apart
pub Moves-as : (old new : Parts) (now w : ℕ) (call shown : ChanCall) (a : ChanAnswer) → call ≡ shown → Moves old new now (entry w shown a) → Moves old new now (entry w call a)
Moves-as old new now w call shown a is moves =
    let P : ChanCall → Type 0 = λ x. Moves old new now (entry w x a) in subst P (sym is) moves

-- what is said of every answer of a call holds of the one that it gave
pub answers_so : (P Gives : ChanAnswer → Type 0) (Fails : Memory → Type 0) (r : Result ChanAnswer Memory) → ((a : ChanAnswer) → Gives a → P a) → MatchResult r Gives Fails → IfOk r P
answers_so P Gives Fails (Ok a) each gives = each a gives
answers_so P Gives Fails (Err m) each gives = tt
