-- What settling an ask leaves.
use Rattle.std.proofs.Common.{◌≡◌, ℕ, zero, suc, ◌+◌, ◌<◌, ◌≤◌, ◌==◌, Bool, true, false, List, [], ◌∷◌, ◌++◌, length, drop, slice_set, refl, sym, ap, ◌∙◌, subst, arith, append-nil}
use Rattle.std.specs.Prelude.{Option, Some, None, is_some, All, filter_map, slice_get}
use Rattle.std.specs.Option.{option_or}
use Rattle.std.proofs.lemmas.Bool.{cond-true, cond-false}
use Rattle.std.proofs.lemmas.List.{length-set}
use Rattle.std.proofs.lemmas.List.Elements.{All-head}
use Rattle.ch_base.specs.declared.channel.ChanCall.{ChanCall}
use Rattle.ch_base.specs.declared.channel.ChanCall.TheVariants as chan
use Rattle.ch_base.specs.declared.channel.ChanAnswer.{ChanAnswer}
use Rattle.ch_base.specs.declared.channel.ChanAnswer.TheVariants.{Joined, Left, Said}
use Rattle.ch_base.specs.declared.user.UserCall.TheVariants as user
use Rattle.ch_base.specs.declared.user.UserAnswer.{UserAnswer}
use Rattle.ch_base.specs.declared.user.UserAnswer.TheVariants as answer
use Rattle.ch_rate.specs.Rate.{IsRateOf}
use Rattle.ch_protocol.specs.Sessions.{chan_outcome, user_outcome}
use Rattle.ch_protocol.specs.Settling.{SettledAsk, settled_with, count_after, holds, is_sign_in_answer, accepted_by, accepted}
use Rattle.ch_protocol.specs.declared.ask.Ask.{Ask}
use Rattle.ch_protocol.specs.declared.ask.Ask.TheVariants.{Chan, User}
use Rattle.ch_protocol.specs.declared.ask.Made.{Made}
use Rattle.ch_protocol.specs.declared.ask.Made.TheVariants as made
use Rattle.ch_protocol.specs.declared.heard.Settled.{Settled}
use Rattle.ch_protocol.specs.declared.heard.Settled.TheVariants as settled
use Rattle.ch_session.specs.declared.waiting.Waiting.{Waiting}
use Rattle.ch_session.specs.declared.waiting.Waiting.TheVariants.{Nothing, Join, Call, SignIn, Watches}
use Rattle.ch_session.specs.Kept.{Kept, IsSession, IsSettled, IsFit, IsSoundSession, left_after}
use Rattle.ch_history.specs.AnswerKinds.{IsUserAnswerTo}
use Rattle.ch_protocol.specs.Asks.{ComesOf}
use Rattle.ch_protocol.specs.declared.limits.TheConstants.{MAX_SUBSCRIPTIONS}
use Rattle.ch_session.specs.Told.{Told, IsToldBy, accepted_with, used_with}
use Rattle.ch_session.specs.Waits.{IsJoinOn, IsCallOn, IsSignInOn, IsWatchOn, AreWatchesOn, AwaitsNext, Awaits, HoldsData, chan_shard_of, waits_on}
use Rattle.ch_session.proofs.Telling.{is_at, at_chan, at_user, tells_more, or_none}

-- ---- asks by their kind

joins_on : (k : ℕ) (ask : Ask) → IsJoinOn k ask → (call : ChanCall) × (ask ≡ Chan k call)
joins_on k (Chan shard (chan.Join s c m at)) e = (chan.Join s c m at, ap (λ n. Chan n (chan.Join s c m at)) e)
joins_on k _ e = absurd e

calls_on : (k : ℕ) (ask : Ask) → IsCallOn k ask → (call : ChanCall) × (ask ≡ Chan k call)
calls_on k (Chan shard (chan.Leave s c at)) e = (chan.Leave s c at, ap (λ n. Chan n (chan.Leave s c at)) e)
calls_on k (Chan shard (chan.Say s c event body at)) e = (chan.Say s c event body at, ap (λ n. Chan n (chan.Say s c event body at)) e)
calls_on k _ e = absurd e

signs_on : (k : ℕ) (id : List ℕ) (ask : Ask) → IsSignInOn k id ask → (socket : ℕ) × (at : ℕ) × (ask ≡ User k (user.SignIn socket id at))
signs_on k id (User shard (user.SignIn s i at)) e = (s, at, λ j. User (e.0 j) (user.SignIn s (e.1 j) at))
signs_on k id _ e = absurd e

watches_on : (k : ℕ) (ask : Ask) → IsWatchOn k ask → (socket : ℕ) × (id : List ℕ) × (at : ℕ) × (ask ≡ User k (user.Watch socket id at))
watches_on k (User shard (user.Watch s id at)) e = (s, id, at, ap (λ n. User n (user.Watch s id at)) e)
watches_on k _ e = absurd e

-- a call that makes no subscription isn't answered Joined
not_joined : (k : ℕ) (ask : Ask) → IsCallOn k ask → ComesOf ask (made.Chan Joined) → ⊥
not_joined k (Chan shard (chan.Leave s c at)) e comes = comes
not_joined k (Chan shard (chan.Say s c event body at)) e comes = comes
not_joined k _ e comes = e

-- ---- channel shards

-- the ask of a channel shard's answer is the only one that waits
waits_alone : (waits : Waiting) (place : ℕ) (ask : Ask) (asks : List Ask) (a : ChanAnswer) → AwaitsNext waits place ask asks
    → ComesOf ask (made.Chan a) → (call : ChanCall) × (ask ≡ Chan (chan_shard_of waits) call) × (asks ≡ [])
waits_alone Nothing place ask asks a awaits comes = absurd awaits
waits_alone (Join k) place ask asks a awaits comes = let on = joins_on k ask awaits.1 in (on.0, on.1, awaits.2)
waits_alone (Call k) place ask asks a awaits comes = let on = calls_on k ask awaits.1 in (on.0, on.1, awaits.2)
waits_alone (SignIn k id sent watches) place ask asks a awaits comes =
    let on = signs_on k id ask awaits.1 in absurd (subst (λ x. ComesOf x (made.Chan a)) on.2 comes)
waits_alone (Watches []) place ask asks a awaits comes = absurd awaits.1
waits_alone (Watches (k ∷ ks)) place ask asks a awaits comes =
    let on = watches_on k ask awaits.1.0 in absurd (subst (λ x. ComesOf x (made.Chan a)) on.3 comes)

room_for_join : (told : Told) (chans : ℕ) (waits : Waiting) (place : ℕ) (ask : Ask) (asks : List Ask) → AwaitsNext waits place ask asks
    → ComesOf ask (made.Chan Joined) → IsFit told chans waits → told.subscriptions < MAX_SUBSCRIPTIONS
room_for_join told chans Nothing place ask asks awaits comes fit = absurd awaits
room_for_join told chans (Join k) place ask asks awaits comes fit = fit.0
room_for_join told chans (Call k) place ask asks awaits comes fit = absurd (not_joined k ask awaits.1 comes)
room_for_join told chans (SignIn k id sent watches) place ask asks awaits comes fit =
    let on = signs_on k id ask awaits.1 in absurd (subst (λ x. ComesOf x (made.Chan Joined)) on.2 comes)
room_for_join told chans (Watches []) place ask asks awaits comes fit = absurd awaits.1
room_for_join told chans (Watches (k ∷ ks)) place ask asks awaits comes fit =
    let on = watches_on k ask awaits.1.0 in absurd (subst (λ x. ComesOf x (made.Chan Joined)) on.3 comes)

pub room_for : (told : Told) (chans : ℕ) (waits : Waiting) (place : ℕ) (ask : Ask) (asks : List Ask) (a : ChanAnswer) → AwaitsNext waits place ask asks
    → ComesOf ask (made.Chan a) → IsFit told chans waits → a ≡ Joined → told.subscriptions < MAX_SUBSCRIPTIONS
room_for told chans waits place ask asks a awaits comes fit joined =
    room_for_join told chans waits place ask asks awaits (subst (λ b. ComesOf ask (made.Chan b)) joined comes) fit

pub few_if_fit : (told : Told) (chans : ℕ) (waits : Waiting) → IsFit told chans waits → told.subscriptions ≤ MAX_SUBSCRIPTIONS
few_if_fit told chans Nothing fit = fit
few_if_fit told chans (Join k) fit = omega (arith, fit.0)
few_if_fit told chans (Call k) fit = fit.0
few_if_fit told chans (SignIn k id sent watches) fit = fit.0
few_if_fit told chans (Watches ks) fit = fit.0

pub shard_below : (told : Told) (chans : ℕ) (waits : Waiting) → 1 ≤ chans → IsFit told chans waits → chan_shard_of waits < chans
shard_below told chans Nothing some fit = omega (arith, some)
shard_below told chans (Join k) some fit = fit.1
shard_below told chans (Call k) some fit = fit.1
shard_below told chans (SignIn k id sent watches) some fit = omega (arith, some)
shard_below told chans (Watches ks) some fit = omega (arith, some)

pub few_after : (n : ℕ) (a : ChanAnswer) → (a ≡ Joined → n < MAX_SUBSCRIPTIONS) → n ≤ MAX_SUBSCRIPTIONS → count_after n (made.Chan a) ≤ MAX_SUBSCRIPTIONS
few_after n Joined room few = let less = room refl in omega (arith, less)
few_after n Left room few = omega (arith, few)
few_after n _ room few = few

pub length-used_with : (used : List Bool) (place : ℕ) (m : Made) → length (used_with used place m) ≡ length used
length-used_with used place m = go (holds m) refl
  where
    go : (held : Bool) → holds m ≡ held → length (used_with used place m) ≡ length used
    go true is = ap length (cond-true _ _ _ is) ∙ length-set used place true
    go false is = ap length (cond-false _ _ _ is)

accepted_last : (moments : List ℕ) (ask : Ask) (a : ChanAnswer) (now : ℕ)
    → accepted_with moments a now ≡ moments ++ filter_map accepted_by (record { ask = ask; answer = made.Chan a; at = now } ∷ [])
accepted_last moments ask Said now = refl
accepted_last moments ask _ now = sym (append-nil moments)

none_left : (result : Settled) → left_after result [] ≡ []
none_left settled.Nothing = refl
none_left (settled.Reply frame) = refl
none_left (settled.Refuse code) = refl
none_left (settled.End code) = refl

-- a session with one more settled ask
stands_more : (old new : Kept) (x : SettledAsk) → new.start ≡ old.start → new.number ≡ old.number → new.chans ≡ old.chans
    → ((asks : List SettledAsk) → IsToldBy asks old.chans old.told → IsToldBy (asks ++ x ∷ []) old.chans new.told)
    → (start number : ℕ) (asks : List SettledAsk) → IsSession old start number asks → IsSession new start number (asks ++ x ∷ [])
stands_more old new x same_start same_number same_chans more start number asks stands = record {
  started = same_start ∙ stands.started;
  numbered = same_number ∙ stands.numbered;
  tells = subst (λ n. IsToldBy (asks ++ x ∷ []) n new.told) (sym same_chans) (more asks stands.tells);
}

pub chan_settled : (old new : Kept) (a : ChanAnswer) (now : ℕ) (result : Settled) → IsSoundSession old
    → new.start ≡ old.start → new.number ≡ old.number → new.chans ≡ old.chans → new.waits ≡ Nothing
    → new.told.subscriptions ≡ count_after old.told.subscriptions (made.Chan a) → new.told.user ≡ old.told.user
    → ((moments : List ℕ) → IsRateOf old.told.rate moments → IsRateOf new.told.rate (accepted_with moments a now))
    → new.told.used ≡ used_with old.told.used (chan_shard_of old.waits) (made.Chan a) → result ≡ chan_outcome a
    → (place : ℕ) (ask : Ask) (asks : List Ask) → AwaitsNext old.waits place ask asks → ComesOf ask (made.Chan a)
    → IsSettled old new place ask asks (made.Chan a) now result
chan_settled old new a now result sound same_start same_number same_chans idle subscriptions same_user rate used means place ask asks awaits comes =
    let alone = waits_alone old.waits place ask asks a awaits comes in
    let below = shard_below old.told old.chans old.waits sound.0 sound.4 in
    record {
      meaning = λ user_data holds_data. means;
      stands = stands_more old new (record { ask = ask; answer = made.Chan a; at = now }) same_start same_number same_chans
          (λ settled tells. tells_more settled old.chans old.told new.told (record { ask = ask; answer = made.Chan a; at = now }) (chan_shard_of old.waits) tells
          (omega (arith, below, sound.1))
          (λ k. subst (λ x. is_at old.chans x k ≡ (chan_shard_of old.waits == k)) (sym alone.1) (at_chan old.chans (chan_shard_of old.waits) alone.0 below k))
          subscriptions (same_user ∙ sym (or_none old.told.user))
          (subst (IsRateOf new.told.rate) (accepted_last (accepted settled) ask a now) (rate (accepted settled) tells.rate)) used);
      waits = subst (λ xs. Awaits new.waits (place + 1) xs) (sym (ap (left_after result) alone.2 ∙ none_left result)) idle;
    }

-- ---- user shards

awaits_watches : (watches : List ℕ) (place : ℕ) (asks : List Ask) → 1 ≤ place → AreWatchesOn watches asks → Awaits (waits_on watches) place asks
awaits_watches [] place [] later are = refl
awaits_watches (k ∷ ks) place (ask ∷ asks) later are = (later, are)
awaits_watches [] place (ask ∷ asks) later are = absurd are
awaits_watches (k ∷ ks) place [] later are = absurd are

-- what an answer to a sign-in is
record SignsIn (a : UserAnswer) : Type 0 where
  is_sign_in : is_sign_in_answer (made.User a) ≡ true
  held : holds (made.User a) ≡ true

signs_in : (s : ℕ) (id : List ℕ) (at : ℕ) (a : UserAnswer) → IsUserAnswerTo (user.SignIn s id at) a → SignsIn a
signs_in s id at answer.SignedIn is = record { is_sign_in = refl; held = refl }
signs_in s id at answer.AlreadyIn is = record { is_sign_in = refl; held = refl }
signs_in s id at _ is = absurd is

-- what an answer to a watch is
record Watched (a : UserAnswer) : Type 0 where
  no_sign_in : is_sign_in_answer (made.User a) ≡ false
  held : holds (made.User a) ≡ true

watched : (s : ℕ) (id : List ℕ) (at : ℕ) (a : UserAnswer) → IsUserAnswerTo (user.Watch s id at) a → Watched a
watched s id at answer.Watching is = record { no_sign_in = refl; held = refl }
watched s id at answer.AlreadyWatching is = record { no_sign_in = refl; held = refl }
watched s id at _ is = absurd is

still_left : (sent : List ℕ) (a : UserAnswer) (asks : List Ask) → left_after (user_outcome sent 0 a) asks ≡ asks
still_left sent answer.SignedIn asks = refl
still_left sent _ asks = refl

pub sign_in_settled : (old new : Kept) (k : ℕ) (id sent : List ℕ) (watches : List ℕ) (a : UserAnswer) (result : Settled)
    → old.waits ≡ SignIn k id sent watches → old.chans + k < length old.told.used
    → new.start ≡ old.start → new.number ≡ old.number → new.chans ≡ old.chans → new.waits ≡ waits_on watches
    → new.told ≡ record old.told { user = option_or old.told.user (Some id); used = slice_set old.told.used (old.chans + k) true }
    → result ≡ user_outcome sent 0 a
    → (place now : ℕ) (ask : Ask) (asks : List Ask) → AwaitsNext old.waits place ask asks → ComesOf ask (made.User a)
    → IsSettled old new place ask asks (made.User a) now result
sign_in_settled old new k id sent watches a result waits below same_start same_number same_chans next told means place now ask asks awaits comes =
    let awaits = subst (λ w. AwaitsNext w place ask asks) waits awaits in
    let on = signs_on k id ask awaits.1 in
    let signed = signs_in on.0 id on.1 a (subst (λ x. ComesOf x (made.User a)) on.2 comes) in
    let x : SettledAsk = record { ask = User k (user.SignIn on.0 id on.1); answer = made.User a; at = now } in
    record {
      meaning = λ user_data holds_data.
          let same : sent ≡ user_data = subst (λ w. HoldsData w user_data) waits holds_data in
          means ∙ ap (λ d. user_outcome d 0 a) same ∙ ap (λ p. user_outcome user_data p a) (sym awaits.0);
      stands = subst (λ y. (start number : ℕ) (settled : List SettledAsk) → IsSession old start number settled → IsSession new start number (settled_with settled y (made.User a) now)) (sym on.2)
          (stands_more old new x same_start same_number same_chans
          (λ settled tells. tells_more settled old.chans old.told new.told x (old.chans + k) tells below
          (at_user old.chans k (user.SignIn on.0 id on.1))
          (ap (λ (t : Told). t.subscriptions) told)
          (ap (λ (t : Told). t.user) told ∙ ap (option_or old.told.user) (sym (cond-true _ _ _ signed.is_sign_in)))
          (subst (λ r. IsRateOf r (accepted settled ++ [])) (sym (ap (λ (t : Told). t.rate) told)) (subst (IsRateOf old.told.rate) (sym (append-nil (accepted settled))) tells.rate))
          (ap (λ (t : Told). t.used) told ∙ sym (cond-true _ _ _ signed.held))));
      waits = subst (λ xs. Awaits new.waits (place + 1) xs) (sym (ap (λ r. left_after r asks) means ∙ still_left sent a asks))
          (subst (λ w. Awaits w (place + 1) asks) (sym next) (awaits_watches watches (place + 1) asks (omega arith) awaits.2));
    }

abbrev or_zero : Option ℕ → ℕ
or_zero None = 0
or_zero (Some n) = n

none_some : (k : ℕ) → None ≡ Some k → ⊥
none_some k same = let told : false ≡ true = ap is_some same in cc

same_some : (j k : ℕ) → Some j ≡ Some k → j ≡ k
same_some j k same = ap or_zero same

pub first_fits : (n most : ℕ) (shards : List ℕ) (k : ℕ) → All (λ j. n + j < most) shards → slice_get shards 0 ≡ Some k → n + k < most
first_fits n most [] k fit first = absurd (none_some k first)
first_fits n most (j ∷ shards) k fit first = subst (λ i. n + i < most) (same_some j k first) (All-head (λ j. n + j < most) j shards fit)

pub watch_settled : (old new : Kept) (shards : List ℕ) (k : ℕ) (a : UserAnswer) → old.waits ≡ Watches shards
    → slice_get shards 0 ≡ Some k → old.chans + k < length old.told.used
    → new.start ≡ old.start → new.number ≡ old.number → new.chans ≡ old.chans → new.waits ≡ waits_on (drop 1 shards)
    → new.told ≡ record old.told { used = slice_set old.told.used (old.chans + k) true }
    → (place now : ℕ) (ask : Ask) (asks : List Ask) → AwaitsNext old.waits place ask asks → ComesOf ask (made.User a)
    → IsSettled old new place ask asks (made.User a) now settled.Nothing
watch_settled old new [] k a waits first below same_start same_number same_chans next told place now ask asks awaits comes =
    absurd ((subst (λ w. AwaitsNext w place ask asks) waits awaits).1)
watch_settled old new (j ∷ shards) k a waits first below same_start same_number same_chans next told zero now ask asks awaits comes =
    absurd (omega (arith, (subst (λ w. AwaitsNext w 0 ask asks) waits awaits).0))
watch_settled old new (j ∷ shards) k a waits first below same_start same_number same_chans next told (suc place) now ask asks awaits comes =
    let awaits = subst (λ w. AwaitsNext w (suc place) ask asks) waits awaits in
    let same : j ≡ k = same_some j k first in
    let on = watches_on k ask (subst (λ n. IsWatchOn n ask) same awaits.1.0) in
    let seen = watched on.0 on.1 on.2 a (subst (λ x. ComesOf x (made.User a)) on.3 comes) in
    let x : SettledAsk = record { ask = User k (user.Watch on.0 on.1 on.2); answer = made.User a; at = now } in
    record {
      meaning = λ user_data holds_data. refl;
      stands = subst (λ y. (start number : ℕ) (settled : List SettledAsk) → IsSession old start number settled → IsSession new start number (settled_with settled y (made.User a) now)) (sym on.3)
          (stands_more old new x same_start same_number same_chans
          (λ settled tells. tells_more settled old.chans old.told new.told x (old.chans + k) tells below
          (at_user old.chans k (user.Watch on.0 on.1 on.2))
          (ap (λ (t : Told). t.subscriptions) told)
          (ap (λ (t : Told). t.user) told ∙ sym (ap (option_or old.told.user) (cond-false _ _ _ seen.no_sign_in) ∙ or_none old.told.user))
          (subst (λ r. IsRateOf r (accepted settled ++ [])) (sym (ap (λ (t : Told). t.rate) told)) (subst (IsRateOf old.told.rate) (sym (append-nil (accepted settled))) tells.rate))
          (ap (λ (t : Told). t.used) told ∙ sym (cond-true _ _ _ seen.held))));
      waits = subst (λ w. Awaits w (suc place + 1) asks) (sym next) (awaits_watches shards (suc place + 1) asks (omega arith) awaits.1.1);
    }
