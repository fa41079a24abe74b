-- The worked histories of a channel shard hold, each by computing.
use Rattle.std.proofs.Common.{[], ◌∷◌, codes, refl, arith}
use Rattle.ch_base.specs.JsonText.{byte, IsJsonString}
use Rattle.ch_history.specs.ChannelExamples.{ExceptedSocket, JoinedAgain, JoinedLate, TwoSockets, UserAgain, AnotherUser, CacheNewcomers, HalfAnHour, SlowCaller, ThreeChannelsLost, FullRoom}

is_string : IsJsonString (codes "\"x\"")
is_string = (byte 120 ∷ [], (120 ∷ 34 ∷ [], refl, (refl, (34 ∷ [], refl, refl))))

pub excepted_socket : ExceptedSocket
excepted_socket = record {
  legal = (
    record { formed = ((omega arith, omega arith), omega arith, refl, tt); answered = refl },
    (
      record { formed = ((omega arith, omega arith), omega arith, refl, tt); answered = refl },
      (record { formed = (omega arith, refl, refl, is_string); answered = refl }, tt),
    ),
  );
  first = refl;
  second = refl;
}

pub joined_again : JoinedAgain
joined_again = record { answered = (refl, (refl, (refl, (refl, tt)))); taken = refl; on_again = refl; not_held = refl }

pub joined_late : JoinedLate
joined_late = record { answered = (refl, (refl, (refl, (refl, tt)))) }

pub two_sockets : TwoSockets
two_sockets = record { answered = (refl, (refl, (refl, (refl, tt)))); first_info = refl; second_info = refl; nobody = refl; events = refl; vacated = refl }

pub user_again : UserAgain
user_again = record { answered = (refl, (refl, (refl, (refl, tt)))) }

pub another_user : AnotherUser
another_user = record { answered = (refl, (refl, (refl, (refl, (refl, (refl, (refl, (refl, tt)))))))); frames = refl; events = refl }

pub cache_newcomers : CacheNewcomers
cache_newcomers = record { answered = (refl, (refl, (refl, (refl, tt)))); frames = refl; events = refl }

pub half_an_hour : HalfAnHour
half_an_hour = record {
  answered = (refl, (refl, (refl, (refl, (refl, (refl, (refl, (refl, (refl, tt)))))))));
  frames = refl;
  events = refl;
}

pub slow_caller : SlowCaller
slow_caller = record { answered = (refl, (refl, (refl, (refl, (refl, (refl, (refl, tt))))))); ahead = refl; behind = refl }

pub three_channels_lost : ThreeChannelsLost
three_channels_lost = record { answered = (refl, (refl, (refl, (refl, (refl, (refl, (refl, tt))))))) }

pub full_room : FullRoom
full_room = record { hundredth = refl; one_more = refl; one_of_them = refl }
