-- In a legal history a subscription has a member exactly where its channel is a presence channel.
use Rattle.std.proofs.Common.{◌≡◌, ℕ, ◌==◌, Bool, true, false, cond, List, [], ◌∷◌, Option, Some, None, All, filter, find, bytes_eq, option_map, option_and_then, option_to_list, refl, ap, sym, ◌∙◌, subst}
use Rattle.std.proofs.lemmas.List.Elements.{All-nil, All-cons, All-head, All-tail, All-append, All-filter}
use Rattle.ch_base.specs.declared.channel.Member.{Member}
use Rattle.ch_base.specs.declared.channel.ChanCall.{ChanCall}
use Rattle.ch_base.specs.declared.channel.ChanCall.TheVariants.{Join}
use Rattle.ch_history.specs.declared.rows.Subscription.{Subscription}
use Rattle.ch_history.specs.Entries.{ChanEntry, ChanHistory}
use Rattle.ch_history.specs.ChannelName.{is_presence}
use Rattle.ch_history.specs.Subscriptions.{is_joined, asked_by, opened_by, subscriptions, subs, on_channel}
use Rattle.ch_history.specs.Presence.{user_in}
use Rattle.ch_history.specs.WellFormed.{IsMemberOf, IsWellFormed}
use Rattle.ch_history.specs.Legal.{IsLegal}
use Rattle.ch_history.proofs.Texts.{same_text}
use Rattle.ch_history.proofs.Push.{subscriptions-push}
use Rattle.ch_history.proofs.Legal.{legal_induction}
use Rattle.ch_history.proofs.Subscriptions.{stays}

-- the subscription has a member exactly where its channel has members
abbrev pub HasItsMember : Subscription → Type 0
HasItsMember s = IsMemberOf (is_presence s.channel) s.member

asked_has : (w : ℕ) (call : ChanCall) → IsWellFormed call → All HasItsMember (option_to_list (asked_by w call))
asked_has w (Join socket c m at) formed =
    All-cons HasItsMember (record { channel = c; socket = socket; owner = w; member = m }) [] formed.3 (All-nil HasItsMember)
asked_has w _ formed = All-nil HasItsMember

opened_has : (e : ChanEntry) → IsWellFormed e.call → All HasItsMember (option_to_list (opened_by e))
opened_has e formed =
    elim (is_joined e.answer) as (λ b. All HasItsMember (option_to_list (cond b (asked_by e.caller e.call) None))) [
      | true ↦ asked_has e.caller e.call formed
      | false ↦ All-nil HasItsMember
    ]

pub members_fit : (h : ChanHistory) → IsLegal h → All HasItsMember (subscriptions h)
members_fit h legal =
    legal_induction (λ g. All HasItsMember (subscriptions g)) (All-nil HasItsMember)
    (λ g e ok follows all. subst (All HasItsMember) (sym (subscriptions-push g e))
    (All-append HasItsMember (filter (stays e) (subscriptions g)) (option_to_list (opened_by e))
    (All-filter (stays e) HasItsMember (subscriptions g) all) (opened_has e follows.formed))) h legal

-- Where a channel has no members

memberless : (b : Bool) (m : Option Member) → b ≡ false → IsMemberOf b m → m ≡ None
memberless true m plain fits = cc
memberless false None plain fits = refl
memberless false (Some m) plain fits = absurd fits

found_none : (p : Subscription → Bool) (c : List ℕ) (xs : List Subscription) → is_presence c ≡ false → All HasItsMember xs → option_and_then (λ s. s.member) (find p (on_channel xs c)) ≡ None
found_none p c [] plain all = refl
found_none p c (x ∷ xs) plain all =
    let rest = found_none p c xs plain (All-tail HasItsMember x xs all) in
    let member : bytes_eq x.channel c ≡ true → x.member ≡ None = λ is. memberless (is_presence x.channel) x.member (ap is_presence (same_text x.channel c is) ∙ plain) (All-head HasItsMember x xs all) in
    (elim (bytes_eq x.channel c) as (λ b. (b ≡ true → x.member ≡ None) → option_and_then (λ s. s.member) (find p (cond b (x ∷ on_channel xs c) (on_channel xs c))) ≡ None) [
      | true ↦ (λ none. elim (p x) as (λ b. option_and_then (λ s. s.member) (cond b (Some x) (find p (on_channel xs c))) ≡ None) [
        | true ↦ none refl
        | false ↦ rest
      ])
      | false ↦ (λ none. rest)
    ]) member

-- of no socket on a channel without members a user is known: its client events have no user id
pub no_user : (h : ChanHistory) (c : List ℕ) (socket : ℕ) → IsLegal h → is_presence c ≡ false → user_in (subs h c) socket ≡ None
no_user h c socket legal plain =
    ap (option_map (λ m. m.user_id)) (found_none (λ s. s.socket == socket) c (subscriptions h) plain (members_fit h legal))
