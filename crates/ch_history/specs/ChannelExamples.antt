-- Worked histories of a channel shard. Each value is what the definitions compute.
use Rattle.std.specs.Prelude.{◌≡◌, ℕ, zero, suc, ◌+◌, ◌/◌, ◌%◌, true, false, List, [], ◌∷◌, ◌++◌, Some, None, codes}
use Rattle.ch_base.specs.Growth.{entry}
use Rattle.ch_base.specs.declared.channel.Member.{Member}
use Rattle.ch_base.specs.declared.channel.ChanCall.TheVariants.{Join, Leave, Lost, Publish, Say, Take, TakeHooks, Look, Users}
use Rattle.ch_base.specs.declared.channel.ChanAnswer.{ChanAnswer}
use Rattle.ch_base.specs.declared.channel.ChanAnswer.TheVariants as answer
use Rattle.ch_base.specs.declared.frame.Frame.{Frame}
use Rattle.ch_base.specs.declared.frame.Frame.TheVariants as frame
use Rattle.ch_base.specs.declared.frame.FrameFor.{FrameFor}
use Rattle.ch_base.specs.declared.webhook.Hook.TheVariants as hook
use Rattle.ch_history.specs.declared.rows.Subscription.{Subscription}
use Rattle.ch_history.specs.Entries.{ChanHistory}
use Rattle.ch_history.specs.Steps.{AllHold}
use Rattle.ch_history.specs.Subscriptions.{on}
use Rattle.ch_history.specs.Presence.{users, user_rows}
use Rattle.ch_history.specs.Frames.{waiting}
use Rattle.ch_history.specs.Held.{is_held}
use Rattle.ch_history.specs.Pending.{hook_list, since_take}
use Rattle.ch_history.specs.Answers.{answer_of, is_crowded}
use Rattle.ch_history.specs.Legal.{IsLegal}

-- every entry is answered as it has to be
abbrev pub AllAnswered : ChanHistory → Type 0
AllAnswered h = AllHold (λ before e. e.answer ≡ answer_of before e.caller e.call) [] h

-- a frame for a socket
abbrev pub gets : ℕ → Frame → FrameFor
gets socket frame = record { socket = socket; frame = frame }

abbrev pub a : List ℕ
a = codes "a"

-- The excepted socket: two sockets of two callers, and an event that the first one isn't to get.

abbrev pub two_subscribed : ChanHistory
two_subscribed =
    entry 0 (Join 1 a None 0) answer.Joined
    ∷ entry 1 (Join 2 a None 0) answer.Joined
    ∷ []

abbrev pub published_but_to_one : ChanHistory
published_but_to_one =
    two_subscribed ++ entry 2 (Publish a (codes "e") (codes "\"x\"") (Some 1) 0) (answer.Sent 2 0) ∷ []

pub record ExceptedSocket : Type 0 where
  pub legal : IsLegal published_but_to_one
  pub first : waiting published_but_to_one 0 ≡ gets 1 (frame.Succeeded a) ∷ []
  pub second : waiting published_but_to_one 1 ≡ gets 2 (frame.Succeeded a) ∷ gets 2 (frame.Event a (codes "e") (codes "\"x\"") None) ∷ []

-- One socket that is lost at 10 and joins again: less than 3,000 ms later the vacated notice is dropped, and no Occupied is made.

abbrev pub joined_again : ChanHistory
joined_again =
    entry 0 (Join 1 a None 0) answer.Joined
    ∷ entry 0 (Lost 1 10) (answer.Gone 1)
    ∷ entry 0 (Join 1 a None 3009) answer.Joined
    ∷ entry 0 (TakeHooks 3009) (answer.Hooks (hook.Occupied a ∷ []))
    ∷ []

pub record JoinedAgain : Type 0 where
  pub answered : AllAnswered joined_again
  pub taken : since_take joined_again ≡ []
  pub on_again : on joined_again 1 a ≡ true
  pub not_held : is_held joined_again a ≡ false

-- The same with the second Join 3,000 ms later: the notice is due, and the channel is occupied anew.

abbrev pub joined_late : ChanHistory
joined_late =
    entry 0 (Join 1 a None 0) answer.Joined
    ∷ entry 0 (Lost 1 10) (answer.Gone 1)
    ∷ entry 0 (Join 1 a None 3010) answer.Joined
    ∷ entry 0 (TakeHooks 3010) (answer.Hooks (hook.Occupied a ∷ hook.Vacated a ∷ hook.Occupied a ∷ []))
    ∷ []

pub record JoinedLate : Type 0 where
  pub answered : AllAnswered joined_late

-- One user with two sockets: added once, removed once; the info is that of the first open subscription.

abbrev pub room : List ℕ
room = codes "presence-r"

abbrev pub user : List ℕ → List ℕ → Member
user id info = record { user_id = id; info = info }

abbrev pub both_sockets : ChanHistory
both_sockets =
    entry 0 (Join 1 room (Some (user (codes "u") (codes "1"))) 0) answer.Joined
    ∷ entry 0 (Join 2 room (Some (user (codes "u") (codes "2"))) 0) answer.Joined
    ∷ []

abbrev pub second_socket : ChanHistory
second_socket = both_sockets ++ entry 0 (Leave 1 room 0) answer.Left ∷ []

abbrev pub no_socket : ChanHistory
no_socket = second_socket ++ entry 0 (Leave 2 room 0) answer.Left ∷ []

pub record TwoSockets : Type 0 where
  pub answered : AllAnswered no_socket
  pub first_info : user_rows both_sockets room ≡ user (codes "u") (codes "1") ∷ []
  pub second_info : user_rows second_socket room ≡ user (codes "u") (codes "2") ∷ []
  pub nobody : users no_socket room ≡ []
  pub events : hook_list no_socket ≡ hook.Occupied room ∷ hook.Added room (codes "u") ∷ hook.Removed room (codes "u") ∷ []
  pub vacated : is_held no_socket room ≡ true

-- A user that is lost and comes again: that is told at once, and nothing is said of the channel.

abbrev pub user_again : ChanHistory
user_again =
    entry 0 (Join 1 room (Some (user (codes "u") (codes "null"))) 0) answer.Joined
    ∷ entry 0 (Lost 1 10) (answer.Gone 1)
    ∷ entry 0 (Join 1 room (Some (user (codes "u") (codes "null"))) 20) answer.Joined
    ∷ entry 0 (TakeHooks 20) (answer.Hooks (
    hook.Occupied room
    ∷ hook.Added room (codes "u")
    ∷ hook.Removed room (codes "u")
    ∷ hook.Added room (codes "u")
    ∷ []))
    ∷ []

pub record UserAgain : Type 0 where
  pub answered : AllAnswered user_again

-- Another user comes and goes: the users that are there hear of it, and the newcomer is told of all, itself too.

abbrev pub another_user : ChanHistory
another_user =
    second_socket
    ++ entry 0 Take (answer.Frames (
    gets 1 (frame.Present room (user (codes "u") (codes "1") ∷ []))
    ∷ gets 2 (frame.Present room (user (codes "u") (codes "1") ∷ []))
    ∷ []))
    ∷ entry 0 (Join 3 room (Some (user (codes "v") (codes "null"))) 0) answer.Joined
    ∷ entry 0 (Say 3 room (codes "client-m") (codes "{}") 0) answer.Said
    ∷ entry 0 (Users room) (answer.Ids (codes "u" ∷ codes "v" ∷ []))
    ∷ entry 0 (Lost 3 0) (answer.Gone 1)
    ∷ []

pub record AnotherUser : Type 0 where
  pub answered : AllAnswered another_user
  pub frames : waiting another_user 0 ≡
      gets 3 (frame.Present room (user (codes "u") (codes "2") ∷ user (codes "v") (codes "null") ∷ []))
      ∷ gets 2 (frame.Added room (user (codes "v") (codes "null")))
      ∷ gets 2 (frame.Event room (codes "client-m") (codes "{}") (Some (codes "v")))
      ∷ gets 2 (frame.Removed room (codes "v"))
      ∷ []
  pub events : hook_list another_user ≡
      hook.Occupied room
      ∷ hook.Added room (codes "u")
      ∷ hook.Added room (codes "v")
      ∷ hook.Client room (codes "client-m") (codes "{}") 3 (Some (codes "v"))
      ∷ hook.Removed room (codes "v")
      ∷ []

-- A newcomer of a cache channel, without and with a latest event.

abbrev pub kept : List ℕ
kept = codes "cache-c"

abbrev pub cache_newcomers : ChanHistory
cache_newcomers =
    entry 0 (Join 1 kept None 0) answer.Joined
    ∷ entry 0 (Publish kept (codes "e") (codes "\"1\"") None 1) (answer.Sent 1 0)
    ∷ entry 0 (Lost 1 2) (answer.Gone 1)
    ∷ entry 0 (Join 2 kept None 3) answer.Joined
    ∷ []

pub record CacheNewcomers : Type 0 where
  pub answered : AllAnswered cache_newcomers
  pub frames : waiting cache_newcomers 0 ≡
      gets 1 (frame.Succeeded kept)
      ∷ gets 1 (frame.Miss kept)
      ∷ gets 1 (frame.Event kept (codes "e") (codes "\"1\"") None)
      ∷ gets 2 (frame.Succeeded kept)
      ∷ gets 2 (frame.Event kept (codes "e") (codes "\"1\"") None)
      ∷ []
  pub events : hook_list cache_newcomers ≡ hook.Occupied kept ∷ hook.Miss kept ∷ []

-- A cached event ends 1,800,000 ms after it was published. A Look tells of how many seconds are left, rounded up.

abbrev pub event : Frame
event = frame.Event kept (codes "e") (codes "\"1\"") None

-- a Look at the cache channel, with one or more subscriptions, that is told of the event and its seconds
abbrev pub seen : ℕ → ℕ → ChanAnswer
seen subs ttl = answer.Looked subs 0 (Some (record { body = codes "\"1\""; ttl = ttl }))

abbrev pub half_an_hour : ChanHistory
half_an_hour =
    entry 0 (Join 1 kept None 0) answer.Joined
    ∷ entry 0 (Publish kept (codes "e") (codes "\"1\"") None 1) (answer.Sent 1 0)
    ∷ entry 0 (Look kept 1) (seen 1 1800)
    ∷ entry 0 (Look kept 1000) (seen 1 1800)
    ∷ entry 0 (Look kept 1001) (seen 1 1799)
    ∷ entry 0 (Join 2 kept None 1800000) answer.Joined
    ∷ entry 0 (Look kept 1800000) (seen 2 1)
    ∷ entry 0 (Join 3 kept None 1800001) answer.Joined
    ∷ entry 0 (Look kept 1800001) (answer.Looked 3 0 None)
    ∷ []

pub record HalfAnHour : Type 0 where
  pub answered : AllAnswered half_an_hour
  pub frames : waiting half_an_hour 0 ≡
      gets 1 (frame.Succeeded kept)
      ∷ gets 1 (frame.Miss kept)
      ∷ gets 1 event
      ∷ gets 2 (frame.Succeeded kept)
      ∷ gets 2 event
      ∷ gets 3 (frame.Succeeded kept)
      ∷ gets 3 (frame.Miss kept)
      ∷ []
  pub events : hook_list half_an_hour ≡ hook.Occupied kept ∷ hook.Miss kept ∷ hook.Miss kept ∷ []

-- An event that has ended doesn't come back for a caller whose moment is behind, and an event that such a caller publishes
-- ends by the shard's clock.

abbrev pub slow_caller : ChanHistory
slow_caller =
    entry 0 (Publish kept (codes "e") (codes "\"1\"") None 1000) (answer.Sent 0 0)
    ∷ entry 1 (Join 1 kept None 1801000) answer.Joined
    ∷ entry 0 (Join 2 kept None 500) answer.Joined
    ∷ entry 0 (Look kept 500) (answer.Looked 2 0 None)
    ∷ entry 0 (Publish kept (codes "e") (codes "\"1\"") (Some 1) 600) (answer.Sent 2 0)
    ∷ entry 1 (Look kept 3600999) (seen 2 1)
    ∷ entry 1 (Look kept 3601000) (answer.Looked 2 0 None)
    ∷ []

pub record SlowCaller : Type 0 where
  pub answered : AllAnswered slow_caller
  pub ahead : waiting slow_caller 1 ≡ gets 1 (frame.Succeeded kept) ∷ gets 1 (frame.Miss kept) ∷ []
  pub behind : waiting slow_caller 0 ≡ gets 2 (frame.Succeeded kept) ∷ gets 2 (frame.Miss kept) ∷ gets 2 event ∷ []

-- A loss over three channels: their notices are held for 3,000 ms, in ascending order.

abbrev pub three_channels_lost : ChanHistory
three_channels_lost =
    entry 0 (Join 1 (codes "b") None 0) answer.Joined
    ∷ entry 0 (Join 1 (codes "a") None 0) answer.Joined
    ∷ entry 0 (Join 1 (codes "c") None 0) answer.Joined
    ∷ entry 0 (Lost 1 4) (answer.Gone 3)
    ∷ entry 0 (TakeHooks 5) (answer.Hooks (hook.Occupied (codes "b") ∷ hook.Occupied (codes "a") ∷ hook.Occupied (codes "c") ∷ []))
    ∷ entry 0 (TakeHooks 3003) (answer.Hooks [])
    ∷ entry 0 (TakeHooks 3004) (answer.Hooks (hook.Vacated (codes "a") ∷ hook.Vacated (codes "b") ∷ hook.Vacated (codes "c") ∷ []))
    ∷ []

pub record ThreeChannelsLost : Type 0 where
  pub answered : AllAnswered three_channels_lost

-- A full presence channel: a hundredth user may join, a hundred and first may not, and a socket of one of them may.

-- so many subscriptions to the room, each of another user
abbrev pub crowd : ℕ → List Subscription
crowd zero = []
crowd (suc n) = record { channel = room; socket = suc n; owner = 0; member = Some (user ((48 + n / 10) ∷ (48 + n % 10) ∷ []) (codes "null")) } ∷ crowd n

pub record FullRoom : Type 0 where
  pub hundredth : is_crowded room (crowd 99) (Some (user (codes "u") (codes "null"))) ≡ false
  pub one_more : is_crowded room (crowd 100) (Some (user (codes "u") (codes "null"))) ≡ true
  pub one_of_them : is_crowded room (crowd 100) (Some (user (codes "07") (codes "null"))) ≡ false
