-- What a line keeps: how many sockets there are.
use Rattle.std.proofs.Common.{◌≡◌, ℕ, zero, suc, ◌+◌, ◌<◌, ◌≤◌, Bool, true, false, ◌&&◌, cond, nat_le, refl, sym, ap, subst, ◌∙◌, List, [], ◌∷◌, ◌++◌, length, length-set, length-append, arith}
use Rattle.std.specs.Prelude.{Option, Some, None, MatchBool}
use Rattle.std.proofs.lemmas.Bool.{lt-ltb}
use Rattle.ch_base.specs.JsonText.{IsJsonString}
use Rattle.ch_base.specs.declared.frame.Frame.{Frame}
use Rattle.ch_base.specs.declared.frame.Frame.TheVariants as frame
use Rattle.ch_base.specs.declared.frame.FrameFor.{FrameFor}
use Rattle.ch_config.specs.declared.config.Config.{Config}
use Rattle.ch_protocol.specs.Shards.{Shards}
use Rattle.ch_rate.specs.Quiet.{quiet_from}
use Rattle.ch_transcript.specs.declared.commands.Command.{Command}
use Rattle.ch_transcript.specs.declared.commands.Command.TheVariants.{Open, Say, Join, SignIn, Lose, Tick, Publish, Tail, Api, Hooks, Http}
use Rattle.ch_transcript.specs.declared.commands.Line.TheVariants.{Timed}
use Rattle.ch_transcript.specs.Commands.{line_of}
use Rattle.ch_transcript.specs.Progress.{Socket, Progress, Played, socket_of, has_socket, is_live, quietly}
use Rattle.ch_transcript.specs.Rounds.{Telling, tells_as, tells, tells_all, all_waiting, taken, any_ended, loses_ended, Rounds, after_round, rounds, rounded}
use Rattle.ch_transcript.specs.Turns.{Turn, hears}
use Rattle.ch_transcript.specs.Obeying.{takes_turn, of_socket, opens, opening_lines, is_accepted, publishes, may_except, Sense, IsJudged, Means, obeyed}
use Rattle.ch_transcript.specs.declared.limits.TheConstants.{MOST_OPENED}
use Rattle.ch_transcript.specs.Outcomes.{at_moment, played_as, MeansAs, Plays}
use Rattle.ch_soak.proofs.Bytes.{both_true, at_least}

-- the line is played, at this moment, and there are so many sockets then
abbrev pub Keeps : ℕ → ℕ → Option Played → Type 0
Keeps n at None = ⊥
Keeps n at (Some x) = (x.next.at ≡ at) × (length x.next.sockets ≡ n)

-- ---- rounds

as_size : (sockets : List Socket) (number : ℕ) (f : Frame) → length (tells_as sockets number f).sockets ≡ length sockets
as_size sockets number frame.Kill = length-set sockets _ _
as_size sockets number (frame.Opened n) = refl
as_size sockets number (frame.Error code) = refl
as_size sockets number frame.Ping = refl
as_size sockets number frame.Pong = refl
as_size sockets number (frame.Succeeded channel) = refl
as_size sockets number (frame.Present channel rows) = refl
as_size sockets number (frame.Added channel member) = refl
as_size sockets number (frame.Removed channel user_id) = refl
as_size sockets number (frame.Event channel event body user_id) = refl
as_size sockets number (frame.Miss channel) = refl
as_size sockets number (frame.SignedIn user_data) = refl
as_size sockets number (frame.Watch online user_id) = refl

told_size : (b : Bool) (x y : Telling) (n : ℕ) → length x.sockets ≡ n → length y.sockets ≡ n → length (cond b x y).sockets ≡ n
told_size true x y n a b = a
told_size false x y n a b = b

tells_size : (sockets : List Socket) (x : FrameFor) → length (tells sockets x).sockets ≡ length sockets
tells_size sockets x =
    told_size (is_live sockets x.socket) (tells_as sockets x.socket x.frame) (record { text = []; sockets = sockets }) (length sockets) (as_size sockets x.socket x.frame) refl

all_size : (sockets : List Socket) (xs : List FrameFor) → length (tells_all sockets xs).sockets ≡ length sockets
all_size sockets [] = refl
all_size sockets (x ∷ xs) = all_size (tells sockets x).sockets xs ∙ tells_size sockets x

round_size : (b : Bool) (x y : Rounds) (n : ℕ) → length x.sockets ≡ n → length y.sockets ≡ n → length (cond b x y).sockets ≡ n
round_size true x y n a b = a
round_size false x y n a b = b

rounds_size : (n : ℕ) (config : Config) (at : ℕ) (sockets : List Socket) (shards : Shards) → length (rounds n config at sockets shards).sockets ≡ length sockets
rounds_size zero config at sockets shards = refl
rounds_size (suc n) config at sockets shards =
    let t = tells_all sockets (all_waiting config shards) in
    let size = all_size sockets (all_waiting config shards) in
    round_size (any_ended sockets t.sockets) (after_round t.text (rounds n config at t.sockets (loses_ended at 1 sockets t.sockets (taken shards))))
    (record { text = t.text; sockets = t.sockets; shards = taken shards }) (length sockets)
    (rounds_size n config at t.sockets (loses_ended at 1 sockets t.sockets (taken shards)) ∙ size) size

rounded_keeps : (config : Config) (n at : ℕ) (o : Option Played) → Keeps n at o → Keeps n at (rounded config o)
rounded_keeps config n at None h = h
rounded_keeps config n at (Some x) h = (h.0, rounds_size (length x.next.sockets + 1) config x.next.at x.next.sockets x.next.shards ∙ h.1)

-- ---- commands

either : (n at : ℕ) (b : Bool) (x y : Played) → Keeps n at (Some x) → Keeps n at (Some y) → Keeps n at (Some (cond b x y))
either n at true x y a b = a
either n at false x y a b = b

pub of_socket_keeps : (p : Progress) (number : ℕ) (turn : Socket → Shards → Turn) → 1 ≤ number → number ≤ length p.sockets → Keeps (length p.sockets) p.at (of_socket p number turn)
of_socket_keeps p number turn least most =
    let x = takes_turn p number (turn (socket_of p.sockets number) p.shards) in
    let P : Bool → Type 0 = λ t. Keeps (length p.sockets) p.at (cond t (Some (cond (is_live p.sockets number) x (quietly p))) None) in
    let has : has_socket p.sockets number ≡ true = both_true (nat_le 1 number) (nat_le number (length p.sockets)) (at_least 1 number least) (at_least number (length p.sockets) most) in
    subst P (sym has) (either (length p.sockets) p.at (is_live p.sockets number) x (quietly p) (refl, length-set p.sockets _ _) (refl, refl))

-- the connection of the next socket
abbrev next_socket : ℕ → Option ℕ → Socket
next_socket at refusal = record { is_open = is_accepted refusal; quiet = quiet_from at; asks = [] }

abbrev opened : Progress → ℕ → Option ℕ → Played
opened p at refusal = record {
  text = opening_lines (length p.sockets + 1) refusal;
  next = record { at = p.at; sockets = p.sockets ++ next_socket at refusal ∷ []; shards = p.shards; webhooks = p.webhooks };
}

pub opens_keeps : (p : Progress) (at : ℕ) (refusal : Option ℕ) → length p.sockets < MOST_OPENED → Keeps (length p.sockets + 1) p.at (opens p at refusal)
opens_keeps p at refusal few =
    let P : Bool → Type 0 = λ t. Keeps (length p.sockets + 1) p.at (cond t (Some (opened p at refusal)) None) in
    subst P (sym (lt-ltb (length p.sockets) MOST_OPENED few)) (refl, length-append p.sockets (next_socket at refusal ∷ []))

judged_string : (body : List ℕ) (b : Bool) → IsJudged body b → IsJsonString body → b ≡ true
judged_string body true h quoted = refl
judged_string body false h quoted = absurd (h quoted)

-- this command is obeyed wherever eight connections were opened
abbrev pub Sure : Command → Type 0
Sure (Say number text) = (1 ≤ number) × (number ≤ 8)
Sure (Join number channel channel_data) = (1 ≤ number) × (number ≤ 8)
Sure (SignIn number user_data) = (1 ≤ number) × (number ≤ 8)
Sure (Publish channel event body except) = IsJsonString body × (except ≡ None)
Sure Hooks = Unit {0}
Sure _ = ⊥

publish_keeps : (p : Progress) (x : Played) (is_string : Bool) (except : Option ℕ) → Keeps 8 p.at (Some x) → is_string ≡ true → except ≡ None → Keeps 8 p.at (cond (is_string && may_except p except) (Some x) None)
publish_keeps p x is_string (Some number) keeps string none = absurd (cc)
publish_keeps p x false None keeps string none = absurd (cc)
publish_keeps p x true None keeps string none = keeps

pub obeyed_keeps : (config : Config) (p : Progress) (at : ℕ) (command : Command) (s : Sense) → Sure command → length p.sockets ≡ 8 → Means config p at command s → Keeps 8 p.at (obeyed config p at command s)
obeyed_keeps config p at (Say number text) s sure eight means =
    subst (λ n. Keeps n p.at (obeyed config p at (Say number text) s)) eight (of_socket_keeps p number (hears config number at s.reading) sure.0 (omega (arith, sure.1, eight)))
obeyed_keeps config p at (Join number channel channel_data) s sure eight means =
    subst (λ n. Keeps n p.at (obeyed config p at (Join number channel channel_data) s)) eight (of_socket_keeps p number (hears config number at s.reading) sure.0 (omega (arith, sure.1, eight)))
obeyed_keeps config p at (SignIn number user_data) s sure eight means =
    subst (λ n. Keeps n p.at (obeyed config p at (SignIn number user_data) s)) eight (of_socket_keeps p number (hears config number at s.reading) sure.0 (omega (arith, sure.1, eight)))
obeyed_keeps config p at (Publish channel event body except) s sure eight means =
    publish_keeps p (publishes config p at channel event body except) s.is_string except (refl, eight) (judged_string body s.is_string means sure.0) sure.1
obeyed_keeps config p at Hooks s sure eight means = (refl, eight)
obeyed_keeps config p at (Open target) s sure eight means = absurd sure
obeyed_keeps config p at (Lose number) s sure eight means = absurd sure
obeyed_keeps config p at (Tick number) s sure eight means = absurd sure
obeyed_keeps config p at (Tail shard) s sure eight means = absurd sure
obeyed_keeps config p at (Api method path query body) s sure eight means = absurd sure
obeyed_keeps config p at (Http bytes) s sure eight means = absurd sure

-- ---- lines

pub played_keeps : (config : Config) (p : Progress) (line : List ℕ) (at n : ℕ) (command : Command) (x : Option Played) → line_of line ≡ Timed at command → p.at ≤ at
    → ((s : Sense) → Means config (at_moment at p) at command s → Keeps n at (obeyed config (at_moment at p) at command s)) → Plays config p line x → Keeps n at x
played_keeps config p line at n command x is later keeps plays =
    let s = plays.0 in
    let M : Type 0 = Means config (at_moment at p) at command s in
    let le = at_least p.at at later in
    let read : MeansAs config p (Timed at command) s = subst (λ z. MeansAs config p z s) is plays.1 in
    let means : M = subst (λ t. MatchBool t M (Unit {0})) le read in
    let o = obeyed config (at_moment at p) at command s in
    let same : x ≡ rounded config o = plays.2 ∙ (ap (λ z. played_as config p z s) is ∙ ap (λ t. cond t (rounded config o) None) le) in
    subst (Keeps n at) (sym same) (rounded_keeps config n at o (keeps s means))
