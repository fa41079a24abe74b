-- A reply that is written to a link, piece by piece.
use Rattle.std.specs.Prelude.{ℕ, List}
use Rattle.ch_requests.specs.Replies.{refusal, reply_text}
use Rattle.ch_requests.specs.declared.reply.Reply.{Reply}
use Rattle.ch_exchange.specs.declared.pending.After.{After}
use Rattle.ch_exchange.specs.declared.pending.After.TheVariants.{Close}
use Rattle.ch_exchange.specs.declared.reply_bytes.ReplyBytes.{ReplyBytes}
use Rattle.ch_exchange.specs.declared.reply_bytes.ReplyBytes.TheVariants as bytes

-- the bytes of a reply that aren't written yet, and what follows the last of them
pub record Pending : Type 0 where
  pub left : List ℕ
  pub after : After

-- a reply after which the connection is closed (RFC 9112, section 9.6)
abbrev pub closing : Reply → Pending
closing reply = record { left = reply_text reply; after = Close }

-- the reply for want of memory
abbrev pub out_of_memory : Pending
out_of_memory = closing (refusal 503)

-- all bytes of a reply
abbrev pub whole : ReplyBytes → List ℕ
whole (bytes.Made own) = own
whole bytes.OutOfMemory = reply_text (refusal 503)
