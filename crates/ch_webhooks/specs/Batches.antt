-- How a list of webhook events is parted into batches.
use Rattle.std.specs.Prelude.{ℕ, ◌+◌, ◌*◌, List, length, map, take, drop}
use Rattle.std.specs.Int.{div_ceil}
use Rattle.std.specs.List.{range_with_len}
use Rattle.ch_base.specs.declared.webhook.Hook.{Hook}
use Rattle.ch_sig.specs.Hmac.{hmac_hex}
use Rattle.ch_webhooks.specs.declared.limits.TheConstants.{BATCH_EVENTS}
use Rattle.ch_webhooks.specs.declared.batch.Batch.{Batch}
use Rattle.ch_webhooks.specs.declared.batch.Sender.{Sender}
use Rattle.ch_webhooks.specs.Events.{body_text}

-- the piece k of a list, counted from 0: `BATCH_EVENTS` of its elements; the last piece may have fewer
abbrev pub piece : {A : Type 0} → List A → ℕ → List A
piece xs k = take BATCH_EVENTS (drop (k * BATCH_EVENTS) xs)

-- so many pieces are the whole list
abbrev pub piece_count : {A : Type 0} → List A → ℕ
piece_count xs = div_ceil (length xs) BATCH_EVENTS

-- what a batch is made of: its number, the moment of the cut, and its events
pub record Content : Type 0 where
  pub number : ℕ
  pub moment : ℕ
  pub events : List Hook

-- a cut makes these of the events: a batch of each piece, numbered from next on
abbrev pub contents : ℕ → ℕ → List Hook → List Content
contents moment next events =
    map (λ k. record { number = next + k; moment = moment; events = piece events k }) (range_with_len 0 (piece_count events))

-- the batch: its body, made once, and the body's signature by the app's secret (Webhooks, "Security")
abbrev pub batch_of : Sender → Content → Batch
batch_of sender c = record {
  number = c.number;
  moment = c.moment;
  body = body_text sender.start c.moment c.events;
  signature = hmac_hex sender.secret (body_text sender.start c.moment c.events);
}
