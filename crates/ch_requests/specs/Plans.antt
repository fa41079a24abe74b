-- Which calls on shards a request asks for (Pusher Channels documentation, HTTP API).
use Rattle.std.specs.Prelude.{ℕ, Bool, false, ◌&&◌, not, nat_lt, List, [], ◌∷◌, map, bytes_eq, codes, Option, Some, None, is_some, if◌then◌else◌}
use Rattle.std.specs.List.{flat_map, list_any, slice_split, range_with_len}
use Rattle.ch_base.specs.declared.channel.ChanCall.TheVariants.{Publish, Names, Look, Users as UsersCall}
use Rattle.ch_base.specs.declared.user.UserCall.TheVariants.{SendTo, Terminate as TerminateCall}
use Rattle.ch_config.specs.declared.config.Config.{Config}
use Rattle.ch_history.specs.ChannelName.{begins, is_good_name, is_presence, is_cache}
use Rattle.ch_history.specs.Limits.{is_user_id}
use Rattle.ch_history.specs.Placement.{shard_of}
use Rattle.ch_names.specs.SocketIds.{socket_id_of}
use Rattle.ch_names.specs.declared.socket_id.SocketId.{SocketId}
use Rattle.ch_names.specs.declared.socket_id.SocketId.TheVariants.{Here}
use Rattle.ch_sig.specs.Parameters.{value_of}
use Rattle.ch_history.specs.UserChannels.{channel_user, is_user_channel}
use Rattle.ch_protocol.specs.declared.ask.Ask.{Ask}
use Rattle.ch_protocol.specs.declared.ask.Ask.TheVariants.{Chan, User}
use Rattle.ch_requests.specs.declared.limits.TheConstants.{LONGEST_DATA}
use Rattle.ch_requests.specs.Authorization.{is_authorized}
use Rattle.ch_requests.specs.Fields.{is_comma}
use Rattle.ch_requests.specs.Replies.{refusal}
use Rattle.ch_requests.specs.declared.plan.Counted.{Counted}
use Rattle.ch_requests.specs.declared.plan.Planned.{Planned}
use Rattle.ch_requests.specs.declared.plan.Planned.TheVariants.{Answer, Ask as AskPlan}
use Rattle.ch_requests.specs.declared.plan.ReplyForm.{ReplyForm}
use Rattle.ch_requests.specs.declared.plan.ReplyForm.TheVariants.{Empty, Triggered, Batch, Channels as ChannelsForm, Channel as ChannelForm, Users as UsersForm}
use Rattle.ch_requests.specs.declared.plan.Wanted.{Wanted}
use Rattle.ch_requests.specs.declared.request.Request.{Request}
use Rattle.ch_requests.specs.declared.request.Route.{Route}
use Rattle.ch_requests.specs.declared.request.Route.TheVariants.{Events, BatchEvents, Channels, Channel, ChannelUsers, Terminate}
use Rattle.ch_requests.specs.declared.trigger.Trigger.{Trigger}

-- it is refused with this status
abbrev pub refused : ℕ → Planned
refused status = Answer (refusal status)

abbrev pub asks_for : List Ask → ReplyForm → Planned
asks_for asks form = AskPlan (record { asks = asks; form = form })

-- ---- what is told of channels

-- whether the word stands in `info`, between its commas
abbrev pub info_has : List ℕ → Option (List ℕ) → Bool
info_has word None = false
info_has word (Some info) = list_any (bytes_eq word) (slice_split is_comma info)

abbrev pub wants_users : Option (List ℕ) → Bool
wants_users info = info_has (codes "user_count") info

abbrev pub wants_subs : Option (List ℕ) → Bool
wants_subs info = info_has (codes "subscription_count") info

-- whether the latest event is asked for, of one channel; elsewhere the word isn't known
abbrev pub wants_cache : Option (List ℕ) → Bool
wants_cache info = info_has (codes "cache") info

-- the counts that are told of a channel: users are counted on presence channels alone, and nothing on a user's own channel
abbrev pub wanted_of : Option (List ℕ) → List ℕ → Wanted
wanted_of info channel = record {
  users = wants_users info && is_presence channel;
  subs = wants_subs info && not (is_user_channel channel);
}

-- ---- triggers

abbrev pub is_too_long : Trigger → Bool
is_too_long t = nat_lt LONGEST_DATA t.size

abbrev pub here_of : SocketId → Option ℕ
here_of (Here number) = Some number
here_of id = None

-- the socket of this server that doesn't get the event
abbrev pub excepted : ℕ → Option (List ℕ) → Option ℕ
excepted start None = None
excepted start (Some id) = here_of (socket_id_of start id)

-- an event for one user, or on a channel
abbrev pub sends_to : Config → Trigger → List ℕ → ℕ → Ask
sends_to config t id now = User (shard_of id config.user_shards) (SendTo id t.event t.body now)

abbrev pub publishes_on : Config → ℕ → Trigger → List ℕ → ℕ → Ask
publishes_on config start t channel now =
    Chan (shard_of channel config.chan_shards) (Publish channel t.event t.body (excepted start t.socket_id) now)

abbrev pub event_ask_by : Config → ℕ → Trigger → List ℕ → ℕ → Option (List ℕ) → Ask
event_ask_by config start t channel now None = publishes_on config start t channel now
event_ask_by config start t channel now (Some id) = sends_to config t id now

abbrev pub event_ask : Config → ℕ → ℕ → Trigger → List ℕ → Ask
event_ask config start now t channel = event_ask_by config start t channel now (channel_user channel)

-- one ask for each channel of each event, in order
abbrev pub event_asks : Config → ℕ → ℕ → List Trigger → List Ask
event_asks config start now ts = flat_map (λ t. map (event_ask config start now t) t.channels) ts

-- the channels of the events, with what is told of each
abbrev pub counted : List Trigger → List Counted
counted ts = flat_map (λ t. map (λ channel. record { channel = channel; wanted = wanted_of t.info channel }) t.channels) ts

-- whether an event asks for counts
abbrev pub has_info : List Trigger → Bool
has_info ts = list_any (λ t. is_some t.info) ts

-- the events of a request that are well formed, unless the data of one are too long
abbrev pub triggers_events : Config → ℕ → ℕ → (List Counted → ReplyForm) → List Trigger → Planned
triggers_events config start now form ts =
    if list_any is_too_long ts then refused 413
    else asks_for (event_asks config start now ts) (if has_info ts then form (counted ts) else Empty)

abbrev pub triggers : Config → ℕ → ℕ → (List Counted → ReplyForm) → Option (List Trigger) → Planned
triggers config start now form None = refused 400
triggers config start now form (Some ts) = triggers_events config start now form ts

-- ---- channels and users

abbrev pub text_or_empty : Option (List ℕ) → List ℕ
text_or_empty None = []
text_or_empty (Some text) = text

-- the channels with a prefix, of each channel shard; users are counted where all of them have members
abbrev pub lists_channels : Config → List ℕ → Option (List ℕ) → Planned
lists_channels config prefix info =
    if wants_users info && not (begins (codes "presence-") prefix) then refused 400
    else asks_for (map (λ k. Chan k (Names prefix)) (range_with_len 0 config.chan_shards))
    (ChannelsForm (record { users = wants_users info; subs = false }))

abbrev pub looks_at : Config → ℕ → List ℕ → Option (List ℕ) → Planned
looks_at config now name info =
    if not (is_good_name name) then refused 400
    else if wants_users info && not (is_presence name) then refused 400
    else if wants_cache info && not (is_cache name) then refused 400
    else asks_for (Chan (shard_of name config.chan_shards) (Look name now) ∷ []) (ChannelForm (wanted_of info name) (wants_cache info))

abbrev pub lists_users : Config → List ℕ → Planned
lists_users config name =
    if is_good_name name && is_presence name
    then asks_for (Chan (shard_of name config.chan_shards) (UsersCall name) ∷ []) UsersForm
    else refused 400

abbrev pub terminates : Config → ℕ → List ℕ → Planned
terminates config now id =
    if is_user_id id
    then asks_for (User (shard_of id config.user_shards) (TerminateCall id now) ∷ []) Empty
    else refused 400

-- ---- requests

-- an authorized request, whose body triggers these events, or has a fault
abbrev pub planned_by : Config → ℕ → Request → ℕ → Option (List Trigger) → Route → Planned
planned_by config start q now ts Events = triggers config start now Triggered ts
planned_by config start q now ts BatchEvents = triggers config start now Batch ts
planned_by config start q now ts Channels =
    lists_channels config (text_or_empty (value_of q.params (codes "filter_by_prefix"))) (value_of q.params (codes "info"))
planned_by config start q now ts (Channel name) = looks_at config now name (value_of q.params (codes "info"))
planned_by config start q now ts (ChannelUsers name) = lists_users config name
planned_by config start q now ts (Terminate id) = terminates config now id

-- what is done with a request at the moment, on a server that started at this second
abbrev pub planned : Config → ℕ → Request → ℕ → Option (List Trigger) → Planned
planned config start q now ts =
    if is_authorized config q now then planned_by config start q now ts q.route else refused 401
