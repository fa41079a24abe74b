-- What each call on a channel shard is answered (Pusher Channels documentation, Channels protocol and HTTP API).
use Rattle.std.specs.Prelude.{ℕ, Bool, false, not, ◌&&◌, List, Option, Some, None, filter, map, length, nat_le, if◌then◌else◌}
use Rattle.ch_base.specs.declared.channel.Member.{Member}
use Rattle.ch_base.specs.declared.channel.NameRow.{NameRow}
use Rattle.ch_base.specs.declared.channel.CacheRow.{CacheRow}
use Rattle.ch_base.specs.declared.channel.ChanCall.{ChanCall}
use Rattle.ch_base.specs.declared.channel.ChanCall.TheVariants.{Join, Leave, Lost, Publish, Say, Take, TakeHooks, Names, Look, Users}
use Rattle.ch_base.specs.declared.channel.ChanAnswer.{ChanAnswer}
use Rattle.ch_base.specs.declared.channel.ChanAnswer.TheVariants.{Joined, Already, Crowded, Left, NotOn, Gone, Sent, Said, Frames, Hooks, Rows, Looked, Ids}
use Rattle.ch_base.specs.declared.frame.FrameFor.{FrameFor}
use Rattle.ch_base.specs.declared.webhook.Hook.{Hook}
use Rattle.ch_history.specs.declared.rows.Subscription.{Subscription}
use Rattle.ch_history.specs.Entries.{ChanHistory}
use Rattle.ch_history.specs.Texts.{ascending}
use Rattle.ch_history.specs.ChannelName.{is_presence, begins}
use Rattle.ch_history.specs.declared.limits.TheConstants.{MAX_USERS}
use Rattle.ch_history.specs.Subscriptions.{subscriptions, on_channel, is_on, channels_in}
use Rattle.ch_history.specs.Presence.{users_in, has_user}
use Rattle.ch_history.specs.Cache.{latest_row}
use Rattle.ch_history.specs.Frames.{waiting}
use Rattle.ch_history.specs.Pending.{pending}

-- whether the presence channel is full and the member is none of its users; xs: its subscriptions
abbrev pub is_crowded : List ℕ → List Subscription → Option Member → Bool
is_crowded c xs None = false
is_crowded c xs (Some m) = is_presence c && not (has_user c xs m.user_id) && nat_le MAX_USERS (length (users_in c xs))

-- the channel c with its counts
abbrev pub row_in : List Subscription → List ℕ → NameRow
row_in xs c = record { channel = c; subs = length (on_channel xs c); users = length (users_in c (on_channel xs c)) }

-- the channels with the prefix and a subscription, ascending
abbrev pub names_in : List Subscription → List ℕ → List (List ℕ)
names_in xs prefix = filter (begins prefix) (ascending (map (λ s. s.channel) xs))

-- what a call is answered; xs: the open subscriptions, kept: each channel's latest event, mine: the frames that wait for its
-- caller, log: the webhook events that are pending at this call
abbrev pub answer_by : List Subscription → (List ℕ → Option CacheRow) → List FrameFor → List Hook → ChanCall → ChanAnswer
answer_by xs kept mine log (Join socket c member at) =
    if is_on xs socket c then Already else if is_crowded c (on_channel xs c) member then Crowded else Joined
answer_by xs kept mine log (Leave socket c at) = if is_on xs socket c then Left else NotOn
answer_by xs kept mine log (Lost socket at) = Gone (length (channels_in xs socket))
answer_by xs kept mine log (Publish c event body except at) = Sent (length (on_channel xs c)) (length (users_in c (on_channel xs c)))
answer_by xs kept mine log (Say socket c event body at) = if is_on xs socket c then Said else NotOn
answer_by xs kept mine log Take = Frames mine
answer_by xs kept mine log (TakeHooks at) = Hooks log
answer_by xs kept mine log (Names prefix) = Rows (map (row_in xs) (names_in xs prefix))
answer_by xs kept mine log (Look c at) = Looked (length (on_channel xs c)) (length (users_in c (on_channel xs c))) (kept c)
answer_by xs kept mine log (Users c) = Ids (users_in c (on_channel xs c))

-- what the call of the caller w is answered after the history h
abbrev pub answer_of : ChanHistory → ℕ → ChanCall → ChanAnswer
answer_of h w call = answer_by (subscriptions h) (latest_row h call) (waiting h w) (pending h call) call
