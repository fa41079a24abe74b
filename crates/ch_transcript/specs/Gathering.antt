-- The line `hooks`: the webhook events that are pending on the channel shards are taken and cut into batches, and each batch is written
-- and counts as sent.
use Rattle.std.specs.Prelude.{ℕ, List, [], ◌∷◌, ◌++◌, codes, flat_map}
use Rattle.std.specs.Fmt.{decimal}
use Rattle.std.specs.List.{range_with_len}
use Rattle.ch_base.specs.declared.channel.ChanCall.TheVariants.{TakeHooks}
use Rattle.ch_base.specs.declared.webhook.Hook.{Hook}
use Rattle.ch_config.specs.declared.config.Config.{Config}
use Rattle.ch_history.specs.Alone.{with_call}
use Rattle.ch_history.specs.Pending.{pending}
use Rattle.ch_protocol.specs.Shards.{Shards}
use Rattle.ch_webhooks.specs.Batches.{batch_of}
use Rattle.ch_webhooks.specs.Batching.{Batching, after_cut, cut_now, with_events}
use Rattle.ch_webhooks.specs.declared.batch.Batch.{Batch}
use Rattle.ch_webhooks.specs.declared.batch.Sender.{Sender}
use Rattle.ch_transcript.specs.Printing.{line_end}
use Rattle.ch_transcript.specs.declared.start.TheConstants.{START_SECOND}
use Rattle.ch_transcript.specs.Progress.{Progress, Played, Webhooks}

-- who sends the webhooks of a transcript
abbrev pub sender_of : Config → Sender
sender_of config = record { key = config.key; secret = config.secret; start = START_SECOND }

-- a batcher that has sent all its batches
abbrev pub batching_of : Config → Webhooks → Batching
batching_of config w = record { sender = sender_of config; uncut = w.uncut; waiting = []; next = w.next }

-- the events that are pending at the moment on so many channel shards, ascending
abbrev pub events_waiting : ℕ → Shards → ℕ → List Hook
events_waiting at shards count = flat_map (λ k. pending (shards.chans k) (TakeHooks at)) (range_with_len 0 count)

-- a TakeHooks is made on each channel shard
abbrev pub taken_hooks : ℕ → Shards → Shards
taken_hooks at shards = record { chans = λ k. with_call (shards.chans k) (TakeHooks at); users = shards.users }

-- a batch: its number, its signature and its body
abbrev pub batch_line : Batch → List ℕ
batch_line b = codes "hook " ++ decimal b.number ++ 32 ∷ b.signature ++ 32 ∷ b.body ++ line_end

-- the batcher with all events that are pending at the moment
abbrev pub with_all_events : Config → Progress → ℕ → Batching
with_all_events config p at = with_events (batching_of config p.webhooks) (events_waiting at p.shards config.chan_shards)

-- all events that are pending are taken and cut
abbrev pub gathers : Config → Progress → ℕ → Played
gathers config p at =
    let b = with_all_events config p at in
    record {
      text = flat_map (λ c. batch_line (batch_of b.sender c)) (cut_now b at);
      next = record {
        at = p.at;
        sockets = p.sockets;
        shards = taken_hooks at p.shards;
        webhooks = record { uncut = (after_cut b at).uncut; next = (after_cut b at).next };
      };
    }
