-- Which calls on shards requests ask for, and what is refused. The requests are authorized, but for the last.
use Rattle.std.specs.Prelude.{◌≡◌, ℕ, List, [], ◌∷◌, codes, Option, Some, None, true, false}
use Rattle.ch_base.specs.declared.channel.ChanCall.TheVariants.{Publish, Names, Look}
use Rattle.ch_base.specs.declared.user.UserCall.TheVariants.{SendTo, Terminate as TerminateCall}
use Rattle.ch_config.specs.Config.{built_in}
use Rattle.ch_config.specs.declared.config.Config.{Config}
use Rattle.ch_protocol.specs.declared.ask.Ask.TheVariants.{Chan, User}
use Rattle.ch_sig.specs.declared.query.Param.{Param}
use Rattle.ch_requests.specs.AuthorizationExamples.{member, doubled}
use Rattle.ch_requests.specs.Plans.{planned, planned_by, refused, asks_for, excepted}
use Rattle.ch_requests.specs.declared.plan.Planned.{Planned}
use Rattle.ch_requests.specs.declared.plan.ReplyForm.TheVariants.{Empty, Triggered, Channels as ChannelsForm, Channel as ChannelForm}
use Rattle.ch_requests.specs.declared.request.Route.{Route}
use Rattle.ch_requests.specs.declared.request.Route.TheVariants.{Events, BatchEvents, Channels, Channel, ChannelUsers, Terminate}
use Rattle.ch_requests.specs.declared.trigger.Trigger.{Trigger}

-- two channel shards: `a` is on the first, and `b` on the second
abbrev pub two_shards : Config
two_shards = record {
  app_id = built_in.app_id;
  key = built_in.key;
  secret = built_in.secret;
  client_events = built_in.client_events;
  chan_shards = 2;
  user_shards = 1;
  workers = built_in.workers;
  listen = built_in.listen;
  webhook = built_in.webhook;
}

-- what is done at the moment 7 with a request of this route and these members, on a server that started at the second 1
abbrev pub does : Route → List Param → Option (List Trigger) → Planned
does route params ts =
    planned_by two_shards 1 (record { route = route; path = []; params = params; doubled = false; body = [] }) 7 ts route

-- an event `e` of which the data have so many bytes, on these channels
abbrev pub event_on : List (List ℕ) → ℕ → Option (List ℕ) → Option (List ℕ) → Trigger
event_on channels size socket_id info = record {
  event = codes "e";
  body = codes "\"d\"";
  size = size;
  channels = channels;
  socket_id = socket_id;
  info = info;
}

abbrev pub info : List ℕ → List Param
info words = member (codes "info") words ∷ []

abbrev pub published : List ℕ → Option ℕ → Planned
published channel except = asks_for (Chan 0 (Publish channel (codes "e") (codes "\"d\"") except 7) ∷ []) Empty

pub record EventPlans : Type 0 where
  pub one : does Events [] (Some (event_on (codes "a" ∷ []) 1 None None ∷ [])) ≡ published (codes "a") None
  pub two : does Events [] (Some (event_on (codes "a" ∷ codes "b" ∷ []) 1 None None ∷ []))
      ≡ asks_for (Chan 0 (Publish (codes "a") (codes "e") (codes "\"d\"") None 7) ∷ Chan 1 (Publish (codes "b") (codes "e") (codes "\"d\"") None 7) ∷ []) Empty
  pub told : does Events [] (Some (event_on (codes "a" ∷ []) 1 None (Some (codes "x,subscription_count")) ∷ []))
      ≡ asks_for (Chan 0 (Publish (codes "a") (codes "e") (codes "\"d\"") None 7) ∷ [])
      (Triggered (record { channel = codes "a"; wanted = record { users = false; subs = true } } ∷ []))
  pub excepted : does Events [] (Some (event_on (codes "a" ∷ []) 1 (Some (codes "1.2")) None ∷ [])) ≡ published (codes "a") (Some 2)
  pub of_a_stranger : does Events [] (Some (event_on (codes "a" ∷ []) 1 (Some (codes "2.2")) None ∷ [])) ≡ published (codes "a") None
  pub for_a_user : does Events [] (Some (event_on (codes "#server-to-user-w" ∷ []) 1 None None ∷ []))
      ≡ asks_for (User 0 (SendTo (codes "w") (codes "e") (codes "\"d\"") 7) ∷ []) Empty
  pub longest : does Events [] (Some (event_on (codes "a" ∷ []) 10240 None None ∷ [])) ≡ published (codes "a") None
  pub too_long : does Events [] (Some (event_on (codes "a" ∷ []) 10241 None None ∷ [])) ≡ refused 413
  pub fault : does Events [] None ≡ refused 400
  pub fault_of_a_batch : does BatchEvents [] None ≡ refused 400

pub record QueryPlans : Type 0 where
  pub channels : does Channels [] None ≡ asks_for (Chan 0 (Names []) ∷ Chan 1 (Names []) ∷ []) (ChannelsForm (record { users = false; subs = false }))
  pub users_of_all : does Channels (info (codes "user_count")) None ≡ refused 400
  pub users_of_presence : does Channels (member (codes "filter_by_prefix") (codes "presence-") ∷ info (codes "user_count")) None
      ≡ asks_for (Chan 0 (Names (codes "presence-")) ∷ Chan 1 (Names (codes "presence-")) ∷ []) (ChannelsForm (record { users = true; subs = false }))
  pub channel : does (Channel (codes "a")) (info (codes "subscription_count")) None
      ≡ asks_for (Chan 0 (Look (codes "a") 7) ∷ []) (ChannelForm (record { users = false; subs = true }) false)
  pub cached : does (Channel (codes "cache-c")) (info (codes "cache")) None
      ≡ asks_for (Chan 1 (Look (codes "cache-c") 7) ∷ []) (ChannelForm (record { users = false; subs = false }) true)
  pub never_cached : does (Channel (codes "a")) (info (codes "subscription_count,cache")) None ≡ refused 400
  pub unknown_of_all : does Channels (info (codes "cache")) None ≡ does Channels [] None
  pub bad_channel : does (Channel (codes "a b")) [] None ≡ refused 400
  pub users_of_one : does (Channel (codes "a")) (info (codes "user_count")) None ≡ refused 400
  pub nobody_is_there : does (ChannelUsers (codes "a")) [] None ≡ refused 400
  pub ends : does (Terminate (codes "w")) [] None ≡ asks_for (User 0 (TerminateCall (codes "w") 7) ∷ []) Empty
  pub unauthorized : planned built_in 1 doubled 1000000 None ≡ refused 401
