-- Behind the first ask of a message only watches wait, which tell the socket no frame.
use Rattle.std.proofs.Common.{◌≡◌, ℕ, zero, suc, ◌≤◌, List, [], ◌∷◌, ap, refl, ◌∙◌, arith}
use Rattle.ch_base.specs.declared.user.UserAnswer.{UserAnswer}
use Rattle.ch_protocol.specs.Asks.{ComesOf}
use Rattle.ch_protocol.specs.Sessions.{outcome, user_outcome, memory_outcome}
use Rattle.ch_protocol.specs.declared.ask.Ask.{Ask}
use Rattle.ch_protocol.specs.declared.ask.Ask.TheVariants.{Chan, User}
use Rattle.ch_protocol.specs.declared.ask.Made.{Made}
use Rattle.ch_protocol.specs.declared.ask.Made.TheVariants as made
use Rattle.ch_protocol.specs.declared.heard.Settled.{Settled}
use Rattle.ch_session.specs.Waits.{Awaits, AreWatchesOn, HoldsData}
use Rattle.ch_session.specs.declared.waiting.Waiting.{Waiting}
use Rattle.ch_session.specs.declared.waiting.Waiting.TheVariants.{Nothing, Join, Call, SignIn, Watches}
use Rattle.ch_dispatch.specs.Outcomes.{frames_of}

memory_silent : (place : ℕ) → 1 ≤ place → frames_of (memory_outcome place) ≡ []
memory_silent zero later = absurd (omega (arith, later))
memory_silent (suc place) later = refl

user_silent : (place : ℕ) (answer : UserAnswer) → 1 ≤ place → frames_of (user_outcome [] place answer) ≡ []
user_silent zero answer later = absurd (omega (arith, later))
user_silent (suc place) answer later = refl

watch_silent : (shards : List ℕ) (place : ℕ) (ask : Ask) (rest : List Ask) (came : Made) → 1 ≤ place → AreWatchesOn shards (ask ∷ rest)
    → ComesOf ask came → frames_of (outcome [] place came) ≡ []
watch_silent [] place ask rest came later on comes = absurd on
watch_silent (k ∷ ks) place (Chan shard call) rest came later on comes = absurd on.0
watch_silent (k ∷ ks) place (User shard call) rest (made.Chan answer) later on comes = absurd comes
watch_silent (k ∷ ks) place (User shard call) rest (made.User answer) later on comes = user_silent place answer later
watch_silent (k ∷ ks) place (User shard call) rest made.Memory later on comes = memory_silent place later

pub later_silent : (waits : Waiting) (place : ℕ) (ask : Ask) (rest : List Ask) (came : Made) (means : Settled) → 1 ≤ place
    → Awaits waits place (ask ∷ rest) → ComesOf ask came → ((user_data : List ℕ) → HoldsData waits user_data → means ≡ outcome user_data place came)
    → frames_of means ≡ []
later_silent Nothing place ask rest came means later awaits comes meaning = absurd awaits
later_silent (Join shard) place ask rest came means later awaits comes meaning = absurd (omega (arith, later, awaits.0))
later_silent (Call shard) place ask rest came means later awaits comes meaning = absurd (omega (arith, later, awaits.0))
later_silent (SignIn shard user user_data watches) place ask rest came means later awaits comes meaning = absurd (omega (arith, later, awaits.0))
later_silent (Watches shards) place ask rest came means later awaits comes meaning =
    ap frames_of (meaning [] tt) ∙ watch_silent shards place ask rest came later awaits.1 comes
