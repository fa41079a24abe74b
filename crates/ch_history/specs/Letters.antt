-- The letter by which a call on channels is shown in the tail of its shard.
use Rattle.std.specs.Prelude.{ℕ}
use Rattle.ch_base.specs.declared.channel.ChanCall.{ChanCall}
use Rattle.ch_base.specs.declared.channel.ChanCall.TheVariants.{Join, Leave, Lost, Publish, Say, Take, TakeHooks, Names, Look, Users}

-- the letter of a call, one of J L X P S T H N K U
abbrev pub letter_of : ChanCall → ℕ
letter_of (Join socket channel member at) = 74
letter_of (Leave socket channel at) = 76
letter_of (Lost socket at) = 88
letter_of (Publish channel event body except at) = 80
letter_of (Say socket channel event body at) = 83
letter_of Take = 84
letter_of (TakeHooks at) = 72
letter_of (Names prefix) = 78
letter_of (Look channel at) = 75
letter_of (Users channel) = 85
