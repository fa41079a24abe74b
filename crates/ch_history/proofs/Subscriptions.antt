-- The subscriptions of one channel after one more entry, and that a socket is on a channel at most once.
use Rattle.std.proofs.Common.{◌≡◌, ℕ, ◌==◌, Bool, true, false, not, ◌&&◌, cond, List, [], ◌∷◌, ◌++◌, None, filter, bytes_eq, option_to_list, refl, ap, sym, ◌∙◌, subst, append-nil}
use Rattle.std.specs.List.{list_any}
use Rattle.ch_base.specs.Growth.{entry}
use Rattle.ch_base.specs.declared.channel.ChanCall.{ChanCall}
use Rattle.ch_base.specs.declared.channel.ChanCall.TheVariants.{Join, Leave, Lost, Publish, Say, Take, TakeHooks, Names, Look, Users}
use Rattle.ch_base.specs.declared.channel.ChanAnswer.{ChanAnswer}
use Rattle.ch_base.specs.declared.channel.ChanAnswer.TheVariants.{Joined, Already, Crowded}
use Rattle.ch_history.specs.declared.rows.Subscription.{Subscription}
use Rattle.ch_history.specs.Entries.{ChanEntry, ChanHistory}
use Rattle.ch_history.specs.Subscriptions.{is_joined, opened_by, settles, subscriptions, subs, on, on_channel}
use Rattle.ch_history.specs.Answers.{answer_of, is_crowded}
use Rattle.ch_history.specs.Legal.{IsLegal}
use Rattle.ch_history.proofs.Lists.{list_any-part, filter-none, filter-weaker}
use Rattle.ch_history.proofs.Texts.{same_text, other_text}
use Rattle.ch_history.proofs.Push.{subscriptions-push}
use Rattle.ch_history.proofs.Legal.{legal_induction}
pub use Rattle.ch_history.proofs.OpenRows.{opens_nothing}
use Rattle.ch_history.proofs.OpenRows.{named-after, not_among, AreDistinct, AreDistinct-less, AreDistinct-more, IsOnly, only}

-- whether the entry leaves the subscription open
abbrev pub stays : ChanEntry → Subscription → Bool
stays e s = not (settles s e)

abbrev pub socket_of : Subscription → ℕ
socket_of s = s.socket

abbrev pub channel_of : Subscription → List ℕ
channel_of s = s.channel

-- One channel after one more entry

pub subs-push : (h : ChanHistory) (e : ChanEntry) (c : List ℕ) → subs (h ++ e ∷ []) c ≡ filter (stays e) (subs h c) ++ on_channel (option_to_list (opened_by e)) c
subs-push h e c = ap (λ xs. on_channel xs c) (subscriptions-push h e) ∙ named-after socket_of channel_of opened_by settles (subscriptions h) e c

-- an entry that opens nothing
pub subs-left : (h : ChanHistory) (e : ChanEntry) (c : List ℕ) → opened_by e ≡ None → subs (h ++ e ∷ []) c ≡ filter (stays e) (subs h c)
subs-left h e c nothing =
    subs-push h e c
    ∙ ap (λ o. filter (stays e) (subs h c) ++ on_channel (option_to_list o) c) nothing
    ∙ append-nil (filter (stays e) (subs h c))

-- an entry that opens nothing and settles nothing of the channel
pub subs-same : (h : ChanHistory) (e : ChanEntry) (c : List ℕ) → opened_by e ≡ None → list_any (λ s. settles s e) (subs h c) ≡ false → subs (h ++ e ∷ []) c ≡ subs h c
subs-same h e c nothing none = subs-left h e c nothing ∙ filter-none (λ s. settles s e) (subs h c) none

-- where the socket isn't on d, no subscription of the channel c is its own one to d
pub not_on : (h : ChanHistory) (socket : ℕ) (d c : List ℕ) → on h socket d ≡ false → list_any (λ s. (s.socket == socket) && bytes_eq s.channel d) (subs h c) ≡ false
not_on h socket d c off =
    list_any-part (λ s. (s.socket == socket) && bytes_eq s.channel d) (λ s. bytes_eq s.channel c) (subscriptions h)
    (not_among socket_of channel_of (subscriptions h) socket d off)

and-false : (a : Bool) → (a && false) ≡ false
and-false true = refl
and-false false = refl

-- where the entry settles only the socket's own subscription to d, other channels stay
pub other_channel : (h : ChanHistory) (e : ChanEntry) (socket : ℕ) (d c : List ℕ) → opened_by e ≡ None → ((s : Subscription) → settles s e ≡ ((s.socket == socket) && bytes_eq s.channel d)) → bytes_eq d c ≡ false → subs (h ++ e ∷ []) c ≡ subs h c
other_channel h e socket d c nothing own differs =
    subs-left h e c nothing
    ∙ filter-weaker (stays e) (λ s. bytes_eq s.channel c) (subscriptions h) (λ s here.
    let elsewhere : bytes_eq s.channel d ≡ false = ap (λ x. bytes_eq x d) (same_text s.channel c here) ∙ other_text d c differs in
    ap not (own s ∙ ap (λ b. (s.socket == socket) && b) elsewhere ∙ and-false (s.socket == socket)))

-- A socket is on a channel at most once

-- the subscriptions are of different places
abbrev pub AreApart : List Subscription → Type 0
AreApart xs = AreDistinct socket_of channel_of xs

-- an entry that opens nothing
closes : (h : ChanHistory) (e : ChanEntry) → opened_by e ≡ None → AreApart (subscriptions h) → AreApart (subscriptions (h ++ e ∷ []))
closes h e nothing apart =
    subst AreApart (sym (subscriptions-push h e)) (AreDistinct-less socket_of channel_of opened_by settles (subscriptions h) e nothing apart)

stays_apart : (h : ChanHistory) (w : ℕ) (call : ChanCall) (a : ChanAnswer) → a ≡ answer_of h w call → AreApart (subscriptions h) → AreApart (subscriptions (h ++ entry w call a ∷ []))
stays_apart h w (Join socket c m at) a answered apart =
    let P : ChanAnswer → Type 0 = λ a. AreApart (subscriptions (h ++ entry w (Join socket c m at) a ∷ [])) in
    subst P (sym answered) ((elim (on h socket c) as (λ b. on h socket c ≡ b → P (cond b Already (cond (is_crowded c (subs h c) m) Crowded Joined))) [
      | true ↦ (λ there. closes h (entry w (Join socket c m at) Already) refl apart)
      | false ↦ (λ off. elim (is_crowded c (subs h c) m) as (λ b. P (cond b Crowded Joined)) [
        | true ↦ closes h (entry w (Join socket c m at) Crowded) refl apart
        | false ↦
            let e : ChanEntry = entry w (Join socket c m at) Joined in
            let n : Subscription = record { channel = c; socket = socket; owner = w; member = m } in
            subst AreApart (sym (subscriptions-push h e)) (AreDistinct-more socket_of channel_of opened_by settles (subscriptions h) e n refl off apart)
      ])
    ]) refl)
stays_apart h w (Leave socket c at) a answered apart = closes h (entry w (Leave socket c at) a) (opens_nothing (is_joined a)) apart
stays_apart h w (Lost socket at) a answered apart = closes h (entry w (Lost socket at) a) (opens_nothing (is_joined a)) apart
stays_apart h w (Publish c event body x at) a answered apart = closes h (entry w (Publish c event body x at) a) (opens_nothing (is_joined a)) apart
stays_apart h w (Say socket c event body at) a answered apart = closes h (entry w (Say socket c event body at) a) (opens_nothing (is_joined a)) apart
stays_apart h w Take a answered apart = closes h (entry w Take a) (opens_nothing (is_joined a)) apart
stays_apart h w (TakeHooks at) a answered apart = closes h (entry w (TakeHooks at) a) (opens_nothing (is_joined a)) apart
stays_apart h w (Names prefix) a answered apart = closes h (entry w (Names prefix) a) (opens_nothing (is_joined a)) apart
stays_apart h w (Look c at) a answered apart = closes h (entry w (Look c at) a) (opens_nothing (is_joined a)) apart
stays_apart h w (Users c) a answered apart = closes h (entry w (Users c) a) (opens_nothing (is_joined a)) apart

-- the open subscriptions of a legal history are of different places
pub subscriptions_apart : (h : ChanHistory) → IsLegal h → AreApart (subscriptions h)
subscriptions_apart h legal =
    legal_induction (λ g. AreApart (subscriptions g)) tt (λ g e ok follows apart. stays_apart g e.caller e.call e.answer follows.answered apart) h legal

-- in a legal history a socket that is on a channel has one subscription to it
pub only_one : (h : ChanHistory) (socket : ℕ) (c : List ℕ) → IsLegal h → on h socket c ≡ true → (s : Subscription) × IsOnly (λ s. s.socket == socket) (subs h c) s
only_one h socket c legal there = only socket_of channel_of socket c (subscriptions h) (subscriptions_apart h legal) there
