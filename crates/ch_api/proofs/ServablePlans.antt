-- Every ask of a plan can be served by the shards of the configuration.
use Rattle.std.proofs.Common.{◌≡◌, ℕ, ◌+◌, ◌<◌, ◌≤◌, Bool, true, false, List, [], ◌∷◌, map, refl, sym, ap, ◌∙◌, subst, arith}
use Rattle.std.specs.Prelude.{zero, suc, ◌&&◌, ◌||◌, not, is_some, codes, Option, Some, None, IsTrue, IfSome, All, if◌then◌else◌}
use Rattle.std.specs.List.{list_any, range_with_len}
use Rattle.std.proofs.lemmas.List.Elements.{All-nil, All-cons, All-head, All-tail, All-append}
use Rattle.std.proofs.lemmas.Nat.{mod_below}
use Rattle.ch_base.specs.declared.channel.ChanCall.TheVariants as chan
use Rattle.ch_base.specs.declared.user.UserCall.TheVariants as user
use Rattle.ch_config.specs.Config.{IsConfig}
use Rattle.ch_config.specs.declared.config.Config.{Config}
use Rattle.ch_history.specs.ChannelName.{begins, is_good_name, is_presence, is_cache}
use Rattle.ch_history.specs.Limits.{IsMoment, is_user_id}
use Rattle.ch_history.specs.Placement.{shard_of, fnv_from}
use Rattle.ch_history.specs.declared.limits.TheConstants.{FNV_OFFSET}
use Rattle.ch_history.specs.UserChannels.{channel_user, is_user_channel, user_prefix, behind_prefix, is_subscribable}
use Rattle.ch_protocol.specs.declared.ask.Ask.{Ask}
use Rattle.ch_protocol.specs.declared.ask.Ask.TheVariants.{Chan, User}
use Rattle.ch_sig.specs.Parameters.{value_of}
use Rattle.ch_requests.specs.Fit.{IsTriggerFit, AreFit}
use Rattle.ch_requests.specs.Plans as plans
use Rattle.ch_requests.specs.declared.plan.Counted.{Counted}
use Rattle.ch_requests.specs.declared.plan.ReplyForm.{ReplyForm}
use Rattle.ch_requests.specs.declared.plan.ReplyForm.TheVariants as form
use Rattle.ch_requests.specs.declared.request.Request.{Request}
use Rattle.ch_requests.specs.declared.request.Route.{Route}
use Rattle.ch_requests.specs.declared.request.Route.TheVariants as route
use Rattle.ch_requests.specs.declared.trigger.Trigger.{Trigger}
use Rattle.ch_api.specs.Servable.{IsServable, AreServable}

shard_below : (name : List ℕ) (shards : ℕ) → 1 ≤ shards → shard_of name shards < shards
shard_below name shards some = mod_below (fnv_from FNV_OFFSET name) shards some

-- ---- events

-- the user whose own channel it is has a good id
owner_good : (name id : List ℕ) → channel_user name ≡ Some id → IsTrue (is_user_id id)
owner_good name id own = test (begins user_prefix name) (is_user_id (behind_prefix name)) refl own
  where
    test : (b g : Bool) → is_user_id (behind_prefix name) ≡ g → (if b then (if g then Some (behind_prefix name) else None) else None) ≡ Some id → IsTrue (is_user_id id)
    test true true good own = let same : behind_prefix name ≡ id = cc in subst (λ x. IsTrue (is_user_id x)) same good
    test true false good own = cc
    test false g good own = cc

-- a channel that is no user's own and may be subscribed to has a good name
no_owner_good : (name : List ℕ) → channel_user name ≡ None → IsTrue (is_subscribable name) → IsTrue (is_good_name name)
no_owner_good name none fit =
    let own : is_user_channel name ≡ false = ap is_some none in
    elim (is_good_name name) as (λ good. (good || is_user_channel name) ≡ true → good ≡ true) [
      | true ↦ λ _. refl
      | false ↦ λ owned. sym own ∙ owned
    ] fit

event_servable : (config : Config) (start now : ℕ) (t : Trigger) (channel : List ℕ) → IsConfig config → IsMoment now → IsTriggerFit t
    → IsTrue (is_subscribable channel) → IsServable config (plans.event_ask config start now t channel)
event_servable config start now t channel counts moment fit good = test (channel_user channel) refl
  where
    test : (owner : Option (List ℕ)) → channel_user channel ≡ owner → IsServable config (plans.event_ask_by config start t channel now owner)
    test None is = ((moment, no_owner_good channel is good, fit.event, fit.body), shard_below channel config.chan_shards counts.chan_shards.0, refl)
    test (Some id) is = ((moment, owner_good channel id is, fit.event, fit.body), shard_below id config.user_shards counts.user_shards.0, refl)

channels_servable : (config : Config) (start now : ℕ) (t : Trigger) (channels : List (List ℕ)) → IsConfig config → IsMoment now → IsTriggerFit t
    → All (λ channel. IsTrue (is_subscribable channel)) channels → All (IsServable config) (map (plans.event_ask config start now t) channels)
channels_servable config start now t [] counts moment fit good = All-nil (IsServable config)
channels_servable config start now t (channel ∷ channels) counts moment fit good =
    let P = λ (c : List ℕ). IsTrue (is_subscribable c) in
    All-cons (IsServable config) (plans.event_ask config start now t channel) (map (plans.event_ask config start now t) channels)
    (event_servable config start now t channel counts moment fit (All-head P channel channels good))
    (channels_servable config start now t channels counts moment fit (All-tail P channel channels good))

events_servable : (config : Config) (start now : ℕ) (ts : List Trigger) → IsConfig config → IsMoment now → AreFit ts
    → All (IsServable config) (plans.event_asks config start now ts)
events_servable config start now [] counts moment fit = All-nil (IsServable config)
events_servable config start now (t ∷ ts) counts moment fit =
    let first : IsTriggerFit t = All-head IsTriggerFit t ts fit in
    All-append (IsServable config) (map (plans.event_ask config start now t) t.channels) (plans.event_asks config start now ts)
    (channels_servable config start now t t.channels counts moment first first.channels)
    (events_servable config start now ts counts moment (All-tail IsTriggerFit t ts fit))

triggers_servable : (config : Config) (start now : ℕ) (told : List Counted → ReplyForm) (ts : Option (List Trigger)) → IsConfig config → IsMoment now
    → IfSome ts AreFit → AreServable config (plans.triggers config start now told ts)
triggers_servable config start now told None counts moment fit = tt
triggers_servable config start now told (Some ts) counts moment fit =
    elim (list_any plans.is_too_long ts) as (λ long. AreServable config
    (if long then plans.refused 413 else plans.asks_for (plans.event_asks config start now ts) (if plans.has_info ts then told (plans.counted ts) else form.Empty))) [
      | true ↦ tt
      | false ↦ events_servable config start now ts counts moment fit
    ]

-- ---- channels and users

names_servable : (config : Config) (prefix : List ℕ) (from count : ℕ) → from + count ≤ config.chan_shards
    → All (IsServable config) (map (λ k. Chan k (chan.Names prefix)) (range_with_len from count))
names_servable config prefix from zero within = All-nil (IsServable config)
names_servable config prefix from (suc count) within =
    All-cons (IsServable config) (Chan from (chan.Names prefix)) (map (λ k. Chan k (chan.Names prefix)) (range_with_len (from + 1) count))
    (tt, omega arith, tt) (names_servable config prefix (from + 1) count (omega arith))

one_servable : (config : Config) (ask : Ask) → IsServable config ask → All (IsServable config) (ask ∷ [])
one_servable config ask servable = All-cons (IsServable config) ask [] servable (All-nil (IsServable config))

lists_servable : (config : Config) (prefix : List ℕ) (info : Option (List ℕ)) → AreServable config (plans.lists_channels config prefix info)
lists_servable config prefix info =
    elim (plans.wants_users info && not (begins (codes "presence-") prefix)) as (λ b. AreServable config
    (if b then plans.refused 400 else plans.asks_for (map (λ k. Chan k (chan.Names prefix)) (range_with_len 0 config.chan_shards))
    (form.Channels (record { users = plans.wants_users info; subs = false })))) [
      | true ↦ tt
      | false ↦ names_servable config prefix 0 config.chan_shards (omega arith)
    ]

looks_servable : (config : Config) (now : ℕ) (name : List ℕ) (info : Option (List ℕ)) → IsConfig config → IsMoment now
    → AreServable config (plans.looks_at config now name info)
looks_servable config now name info counts moment = test (is_good_name name) (plans.wants_users info && not (is_presence name)) (plans.wants_cache info && not (is_cache name)) refl
  where
    looks : Ask
    looks = Chan (shard_of name config.chan_shards) (chan.Look name now)

    test : (good counted cached : Bool) → is_good_name name ≡ good → AreServable config
        (if not good then plans.refused 400
        else if counted then plans.refused 400
        else if cached then plans.refused 400
        else plans.asks_for (looks ∷ []) (form.Channel (plans.wanted_of info name) (plans.wants_cache info)))
    test true true cached is = tt
    test true false true is = tt
    test true false false is = one_servable config looks ((moment, is), shard_below name config.chan_shards counts.chan_shards.0, refl)
    test false counted cached is = tt

users_servable : (config : Config) (name : List ℕ) → IsConfig config → AreServable config (plans.lists_users config name)
users_servable config name counts = test (is_good_name name) (is_presence name) refl refl
  where
    lists : Ask
    lists = Chan (shard_of name config.chan_shards) (chan.Users name)

    test : (good members : Bool) → is_good_name name ≡ good → is_presence name ≡ members
        → AreServable config (if good && members then plans.asks_for (lists ∷ []) form.Users else plans.refused 400)
    test true true is has = one_servable config lists ((is, has), shard_below name config.chan_shards counts.chan_shards.0, refl)
    test true false is has = tt
    test false members is has = tt

terminates_servable : (config : Config) (now : ℕ) (id : List ℕ) → IsConfig config → IsMoment now → AreServable config (plans.terminates config now id)
terminates_servable config now id counts moment = test (is_user_id id) refl
  where
    closes : Ask
    closes = User (shard_of id config.user_shards) (user.Terminate id now)

    test : (good : Bool) → is_user_id id ≡ good
        → AreServable config (if good then plans.asks_for (closes ∷ []) form.Empty else plans.refused 400)
    test true is = one_servable config closes ((moment, is), shard_below id config.user_shards counts.user_shards.0, refl)
    test false is = tt

-- ---- requests

-- the body of an authorized request was read so
pub authorized_servable : (config : Config) (start now : ℕ) (q : Request) (ts : Option (List Trigger)) (r : Route) → IsConfig config → IsMoment now
    → IfSome ts AreFit → AreServable config (plans.planned_by config start q now ts r)
authorized_servable config start now q ts route.Events counts moment fit = triggers_servable config start now form.Triggered ts counts moment fit
authorized_servable config start now q ts route.BatchEvents counts moment fit = triggers_servable config start now form.Batch ts counts moment fit
authorized_servable config start now q ts route.Channels counts moment fit =
    lists_servable config (plans.text_or_empty (value_of q.params (codes "filter_by_prefix"))) (value_of q.params (codes "info"))
authorized_servable config start now q ts (route.Channel name) counts moment fit = looks_servable config now name (value_of q.params (codes "info")) counts moment
authorized_servable config start now q ts (route.ChannelUsers name) counts moment fit = users_servable config name counts
authorized_servable config start now q ts (route.Terminate id) counts moment fit = terminates_servable config now id counts moment
