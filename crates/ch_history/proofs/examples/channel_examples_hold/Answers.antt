use Rattle.ch_history.proofs.ChannelExamples as proof
use Rattle.ch_history.proofs.examples.channel_examples_hold.Goals as goal

pub returns : goal.returns
returns c = record {
  excepted_socket = proof.excepted_socket;
  joined_again = proof.joined_again;
  joined_late = proof.joined_late;
  two_sockets = proof.two_sockets;
  user_again = proof.user_again;
  another_user = proof.another_user;
  cache_newcomers = proof.cache_newcomers;
  half_an_hour = proof.half_an_hour;
  slow_caller = proof.slow_caller;
  three_channels_lost = proof.three_channels_lost;
  full_room = proof.full_room;
}
