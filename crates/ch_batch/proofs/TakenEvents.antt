-- The events that TakeHooks took from a shard's history, and those that wait there, are all events of the history.
use Rattle.std.proofs.Common.{◌≡◌, ℕ, ◌==◌, true, false, cond, All, List, [], ◌∷◌, ◌++◌, Option, refl, ap, sym, ◌∙◌, append_assoc, append-nil}
use Rattle.std.specs.List.{flat_map}
use Rattle.std.proofs.lemmas.Bool.{eq-eqb}
use Rattle.std.proofs.lemmas.List.Concat.{flat_map-append}
use Rattle.std.proofs.lemmas.List.Elements.{All-head, All-tail}
use Rattle.ch_base.specs.Growth.{entry}
use Rattle.ch_base.specs.declared.channel.ChanAnswer.{ChanAnswer}
use Rattle.ch_base.specs.declared.channel.ChanAnswer.TheVariants as answer
use Rattle.ch_base.specs.declared.channel.CacheRow.{CacheRow}
use Rattle.ch_base.specs.declared.channel.ChanCall.{ChanCall}
use Rattle.ch_base.specs.declared.channel.ChanCall.TheVariants.{Join, Leave, Lost, Publish, Say, Take, TakeHooks, Names, Look, Users}
use Rattle.ch_base.specs.declared.frame.FrameFor.{FrameFor}
use Rattle.ch_base.specs.declared.webhook.Hook.{Hook}
use Rattle.ch_history.specs.Cache.{latest_row}
use Rattle.ch_history.specs.Answers.{answer_by, answer_of, is_crowded}
use Rattle.ch_history.specs.Entries.{ChanEntry, ChanHistory}
use Rattle.ch_history.specs.Frames.{waiting}
use Rattle.ch_history.specs.Legal.{Follows, IsLegal}
use Rattle.ch_history.specs.Steps.{AllHold}
use Rattle.ch_history.specs.Subscriptions.{is_on, on_channel, subscriptions}
use Rattle.ch_history.specs.Held.{hooks}
use Rattle.ch_history.specs.Pending.{hook_list, is_take_hooks, pending, since_take}
use Rattle.ch_history.specs.declared.rows.Subscription.{Subscription}
use Rattle.ch_history.proofs.Legal.{legal_induction}
use Rattle.ch_history.proofs.Held.{pending-take}
use Rattle.ch_history.proofs.Push.{hook_list-push, since_take-push}
use Rattle.ch_desk.specs.OwnEntries.{entries_by}
use Rattle.ch_batch.specs.Gathers.{events_in}

-- the events that the answers of a history have
abbrev pub taken_in : ChanHistory → List Hook
taken_in h = flat_map (λ e. events_in e.answer) h

pub taken_in_both : (xs ys : ChanHistory) → taken_in (xs ++ ys) ≡ taken_in xs ++ taken_in ys
taken_in_both xs ys = flat_map-append (λ (e : ChanEntry). events_in e.answer) xs ys

-- ---- only TakeHooks is answered with events

no_events : (xs : List Subscription) (kept : List ℕ → Option CacheRow) (mine : List FrameFor) (log : List Hook) (call : ChanCall) → is_take_hooks call ≡ false → events_in (answer_by xs kept mine log call) ≡ []
no_events xs kept mine log (Join socket c member at) other =
    elim (is_on xs socket c) as (λ b. events_in (cond b answer.Already (cond (is_crowded c (on_channel xs c) member) answer.Crowded answer.Joined)) ≡ []) [
      | true ↦ refl
      | false ↦ elim (is_crowded c (on_channel xs c) member) as (λ b. events_in (cond b answer.Crowded answer.Joined) ≡ []) [ true ↦ refl | false ↦ refl ]
    ]
no_events xs kept mine log (Leave socket c at) other = elim (is_on xs socket c) as (λ b. events_in (cond b answer.Left answer.NotOn) ≡ []) [ true ↦ refl | false ↦ refl ]
no_events xs kept mine log (Say socket c event body at) other = elim (is_on xs socket c) as (λ b. events_in (cond b answer.Said answer.NotOn) ≡ []) [ true ↦ refl | false ↦ refl ]
no_events xs kept mine log (TakeHooks at) other = let differs : true ≡ false = other in cc
no_events xs kept mine log (Lost socket at) other = refl
no_events xs kept mine log (Publish c event body except at) other = refl
no_events xs kept mine log Take other = refl
no_events xs kept mine log (Names prefix) other = refl
no_events xs kept mine log (Look c at) other = refl
no_events xs kept mine log (Users c) other = refl

silent : (h : ChanHistory) (w : ℕ) (call : ChanCall) (a : ChanAnswer) → a ≡ answer_of h w call → is_take_hooks call ≡ false → events_in a ≡ []
silent h w call a is other = ap events_in is ∙ no_events (subscriptions h) (latest_row h call) (waiting h w) (pending h call) call other

-- no entry has events but a TakeHooks
abbrev pub AreSilent : ChanHistory → Type 0
AreSilent [] = Unit {0}
AreSilent (e ∷ es) = (is_take_hooks e.call ≡ false → events_in e.answer ≡ []) × AreSilent es

all_silent : (h later : ChanHistory) → AllHold Follows h later → AreSilent later
all_silent h [] legal = tt
all_silent h (e ∷ later) legal = (silent h e.caller e.call e.answer legal.0.answered, all_silent (h ++ e ∷ []) later legal.1)

pub legal_silent : (h : ChanHistory) → IsLegal h → AreSilent h
legal_silent h legal = all_silent [] h legal

pub silent_front : (xs ys : ChanHistory) → AreSilent (xs ++ ys) → AreSilent xs
silent_front [] ys all = tt
silent_front (x ∷ xs) ys all = (all.0, silent_front xs ys all.1)

pub silent_more : (xs ys : ChanHistory) → AreSilent (xs ++ ys) → AreSilent ys
silent_more [] ys all = all
silent_more (x ∷ xs) ys all = silent_more xs ys all.1

-- ---- what was taken, and what waits

others_turn : (h : ChanHistory) (w : ℕ) (call : ChanCall) (a : ChanAnswer) → a ≡ answer_of h w call → is_take_hooks call ≡ false → taken_in h ++ since_take h ≡ hook_list h
    → (taken_in h ++ events_in a) ++ cond (is_take_hooks call) [] (since_take h ++ hooks h (entry w call a)) ≡ hook_list h ++ hooks h (entry w call a)
others_turn h w call a is other so =
    let made : List Hook = hooks h (entry w call a) in
    ap (λ t. (taken_in h ++ events_in a) ++ cond t [] (since_take h ++ made)) other
    ∙ ap (λ (z : List Hook). (taken_in h ++ z) ++ (since_take h ++ made)) (silent h w call a is other)
    ∙ ap (λ (z : List Hook). z ++ (since_take h ++ made)) (append-nil (taken_in h))
    ∙ sym (append_assoc (taken_in h) (since_take h) made)
    ∙ ap (λ (z : List Hook). z ++ made) so

turn : (h : ChanHistory) (w : ℕ) (call : ChanCall) (a : ChanAnswer) → a ≡ answer_of h w call → taken_in h ++ since_take h ≡ hook_list h
    → (taken_in h ++ events_in a) ++ cond (is_take_hooks call) [] (since_take h ++ hooks h (entry w call a)) ≡ hook_list h ++ hooks h (entry w call a)
turn h w (TakeHooks at) a is so =
    let made : List Hook = hooks h (entry w (TakeHooks at) a) in
    ap (λ (z : ChanAnswer). (taken_in h ++ events_in z) ++ []) is
    ∙ append-nil (taken_in h ++ pending h (TakeHooks at))
    ∙ ap (λ (z : List Hook). taken_in h ++ z) (pending-take h w at a)
    ∙ sym (append_assoc (taken_in h) (since_take h) made)
    ∙ ap (λ (z : List Hook). z ++ made) so
turn h w (Join socket c member at) a is so = others_turn h w (Join socket c member at) a is refl so
turn h w (Leave socket c at) a is so = others_turn h w (Leave socket c at) a is refl so
turn h w (Lost socket at) a is so = others_turn h w (Lost socket at) a is refl so
turn h w (Publish c event body except at) a is so = others_turn h w (Publish c event body except at) a is refl so
turn h w (Say socket c event body at) a is so = others_turn h w (Say socket c event body at) a is refl so
turn h w Take a is so = others_turn h w Take a is refl so
turn h w (Names prefix) a is so = others_turn h w (Names prefix) a is refl so
turn h w (Look c at) a is so = others_turn h w (Look c at) a is refl so
turn h w (Users c) a is so = others_turn h w (Users c) a is refl so

pub taken_and_waiting : (h : ChanHistory) → IsLegal h → taken_in h ++ since_take h ≡ hook_list h
taken_and_waiting h legal =
    legal_induction (λ g. taken_in g ++ since_take g ≡ hook_list g) refl
    (λ g e ok follows so.
    ap (λ (z : List Hook). z ++ since_take (g ++ e ∷ [])) (taken_in_both g (e ∷ []) ∙ ap (λ (z : List Hook). taken_in g ++ z) (append-nil (events_in e.answer)))
    ∙ ap (λ (z : List Hook). (taken_in g ++ events_in e.answer) ++ z) (since_take-push g e)
    ∙ turn g e.caller e.call e.answer follows.answered so
    ∙ sym (hook_list-push g e))
    h legal

-- ---- who took them

-- where nobody took events, none were taken
pub none_taken : (h : ChanHistory) → AreSilent h → All (λ e. is_take_hooks e.call ≡ false) h → taken_in h ≡ []
none_taken [] quiet none = refl
none_taken (e ∷ h) quiet none =
    let P : ChanEntry → Type 0 = λ x. is_take_hooks x.call ≡ false in
    let first : events_in e.answer ≡ [] = quiet.0 (All-head P e h none) in
    ap (λ (z : List Hook). z ++ taken_in h) first ∙ none_taken h quiet.1 (All-tail P e h none)

-- where only one caller takes events, its own entries have all that were taken
pub own_taken : (w : ℕ) (h : ChanHistory) → AreSilent h → All (λ e. is_take_hooks e.call ≡ true → e.caller ≡ w) h → taken_in h ≡ taken_in (entries_by w h)
own_taken w [] quiet alone = refl
own_taken w (e ∷ h) quiet alone =
    let P : ChanEntry → Type 0 = λ x. is_take_hooks x.call ≡ true → x.caller ≡ w in
    let rest : taken_in h ≡ taken_in (entries_by w h) = own_taken w h quiet.1 (All-tail P e h alone) in
    let mine : is_take_hooks e.call ≡ true → e.caller ≡ w = All-head P e h alone in
    (elim (e.caller == w) as (λ b. (e.caller == w) ≡ b → events_in e.answer ++ taken_in h ≡ taken_in (cond b (e ∷ entries_by w h) (entries_by w h))) [
      | true ↦ (λ is. ap (λ (z : List Hook). events_in e.answer ++ z) rest)
      | false ↦ (λ differs.
          let other : is_take_hooks e.call ≡ false =
          (elim (is_take_hooks e.call) as (λ t. is_take_hooks e.call ≡ t → t ≡ false) [
            | true ↦ (λ takes. let same : (e.caller == w) ≡ true = eq-eqb e.caller w (mine takes) in let broken : true ≡ false = sym same ∙ differs in broken)
            | false ↦ (λ takes. refl)
          ]) refl in
          ap (λ (z : List Hook). z ++ taken_in h) (quiet.0 other) ∙ rest)
    ]) refl
