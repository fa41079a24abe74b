-- What a line's command played.
use Rattle.std.proofs.Common.{◌≡◌, ℕ, Bool, true, false, ◌&&◌, ◌+◌, ◌<◌, ◌≤◌, ◌∙◌, nat_le, ap, sym, refl, subst, List, [], ◌∷◌, ◌++◌, length, append_assoc, cond, arith}
use Rattle.std.specs.Prelude.{Option, Some, None, Result, Ok, Err, OnOk, MatchResult, MatchBool}
use Rattle.std.proofs.lemmas.Bool.{lt-ltb}
use Rattle.std.proofs.lemmas.Bool.Decides.{nat_tests}
use Rattle.ch_config.specs.declared.config.Config.{Config}
use Rattle.ch_desk.specs.Bench.{BenchModel}
use Rattle.ch_player.specs.Rounding.{RunsRounds}
use Rattle.ch_protocol.specs.Readings.{Reading, Reads}
use Rattle.ch_protocol.specs.Targets.{target_refusal}
use Rattle.ch_transcript.specs.Printing.{tail_line}
use Rattle.ch_requests.specs.declared.request.Look.{Look}
use Rattle.ch_requests.specs.declared.request.Look.TheVariants.{Need}
use Rattle.ch_requests.specs.declared.trigger.Trigger.{Trigger}
use Rattle.ch_transcript.specs.Joining.{join_text, sign_in_text}
use Rattle.ch_transcript.specs.Requests.{api_bytes}
use Rattle.ch_protocol.specs.Shards.{Shards}
use Rattle.ch_transcript.specs.Exchanges.{Comes, of_exchange}
use Rattle.ch_transcript.specs.Gathering.{gathers}
use Rattle.ch_transcript.specs.Obeying.{Sense, Hears, Means, of_socket, takes_turn, tails, opens, opening_lines, publishes, obeyed}
use Rattle.ch_transcript.specs.declared.limits.TheConstants.{MOST_OPENED}
use Rattle.ch_transcript.specs.Outcomes.{at_moment}
use Rattle.ch_transcript.specs.Progress.{Progress, Played, Socket, has_socket, is_live, socket_of, quietly}
use Rattle.ch_transcript.specs.Rounds.{rounded, rounds}
use Rattle.ch_transcript.specs.Turns.{Turn, ticks, ends_turn}
use Rattle.ch_transcript.specs.declared.commands.Command.{Command}
use Rattle.ch_transcript.specs.declared.commands.Command.TheVariants.{Open, Say, Join, SignIn, Lose, Tick, Publish, Tail, Api, Hooks, Http}
use Rattle.ch_transcript.specs.declared.commands.Method.{Method}
use Rattle.ch_transcript.specs.declared.commands.Line.{Line}
use Rattle.ch_transcript.specs.declared.commands.Line.TheVariants.{Skipped, Timed, Bad}
use Rattle.ch_player.specs.Seats.{AreSeats}
use Rattle.ch_player.specs.Playing.{PlaysAs, IsRefused, PlaysLine, RunsOn}
use Rattle.ch_player.specs.Steps.{TurnOf, HearsOf, Obeys, ObeysWhole, Publishes, MayPublish, ExchangesOf, new_socket}
use Rattle.ch_player.specs.declared.player.Player.{Player}
use Rattle.ch_player.specs.declared.seat.Seat.{Seat}
use Rattle.ch_player.specs.declared.line_fault.LineFault.{LineFault}
use Rattle.ch_player.specs.declared.line_fault.LineFault.TheVariants.{NotALine, Memory}

-- ---- results

pub plays_map : (player : Player) (old new : List ℕ) (A B : Option Played → Type 0) → ((x : Option Played) → A x → B x) → PlaysAs player old new A → PlaysAs player old new B
plays_map player old new A B f h = record { played = h.played; is = f (Some h.played) h.is; text = h.text; next = h.next }

pub refused_map : (fault : LineFault) (A B : Option Played → Type 0) → ((x : Option Played) → A x → B x) → IsRefused fault A → IsRefused fault B
refused_map NotALine A B f h = f None h
refused_map Memory A B f h = tt

abbrev pub Plays_or : {T : Type 0} → Result T LineFault → Player → List ℕ → List ℕ → (Option Played → Type 0) → Type 0
Plays_or r player old new A = MatchResult r (λ _. PlaysAs player old new A) (λ fault. IsRefused fault A)

pub answer_map : {T : Type 0} (r : Result T LineFault) (player : Player) (old new : List ℕ) (A B : Option Played → Type 0) → ((x : Option Played) → A x → B x) → Plays_or r player old new A → Plays_or r player old new B
answer_map (Ok u) player old new A B f h = plays_map player old new A B f h
answer_map (Err fault) player old new A B f h = refused_map fault A B f h

pub on_ok : {T E : Type 0} (r : Result T E) {A B : Type 0} → (A → B) → OnOk r A → OnOk r B
on_ok (Ok u) f h = f h
on_ok (Err e) f h = tt

-- ---- senses

abbrev pub no_reading : Reading
no_reading = record { verdict = Err 0; member = None; user = None }

abbrev pub read_as : Reading → Sense
read_as r = record { reading = r; is_string = false; look = Need; events = None }

abbrev pub judged_as : Bool → Sense
judged_as b = record { reading = no_reading; is_string = b; look = Need; events = None }

abbrev pub looked_as : Look → Option (List Trigger) → Sense
looked_as look events = record { reading = no_reading; is_string = false; look = look; events = events }

-- ---- sockets

pub found : (slice items : List (Option Seat)) (sockets : List Socket) (number : ℕ) (b : Bool) → slice ≡ items → ((s : List Socket) → AreSeats slice s → b ≡ has_socket s number) → AreSeats items sockets
    → has_socket sockets number ≡ b
found slice items sockets number b same has are = sym (has sockets (subst (λ z. AreSeats z sockets) (sym same) are))

pub not_live : (sockets : List Socket) (number : ℕ) → has_socket sockets number ≡ false → is_live sockets number ≡ false
not_live sockets number gone = ap (λ t. t && (socket_of sockets number).is_open) gone

pub turn_none : (p : Progress) (number : ℕ) (turn : Socket → Shards → Turn) → has_socket p.sockets number ≡ false → None ≡ of_socket p number turn
turn_none p number turn gone =
    sym (ap (λ t. cond t (Some (cond (is_live p.sockets number) (takes_turn p number (turn (socket_of p.sockets number) p.shards)) (quietly p))) None) gone)

pub turn_quiet : (p : Progress) (number : ℕ) (turn : Socket → Shards → Turn) → has_socket p.sockets number ≡ true → is_live p.sockets number ≡ false → Some (quietly p) ≡ of_socket p number turn
turn_quiet p number turn has dead =
    let taken = takes_turn p number (turn (socket_of p.sockets number) p.shards) in
    sym (ap (λ t. cond t (Some (cond (is_live p.sockets number) taken (quietly p))) None) has ∙ ap (λ t. Some (cond t taken (quietly p))) dead)

pub turn_taken : (p : Progress) (number : ℕ) (turn : Socket → Shards → Turn) → has_socket p.sockets number ≡ true → is_live p.sockets number ≡ true
    → Some (takes_turn p number (turn (socket_of p.sockets number) p.shards)) ≡ of_socket p number turn
turn_taken p number turn has live =
    let taken = takes_turn p number (turn (socket_of p.sockets number) p.shards) in
    sym (ap (λ t. cond t (Some (cond (is_live p.sockets number) taken (quietly p))) None) has ∙ ap (λ t. Some (cond t taken (quietly p))) live)

pub hears_nothing : (p : Progress) (number : ℕ) (text : List ℕ) → is_live p.sockets number ≡ false → Hears p number text no_reading
hears_nothing p number text dead = subst (λ t. MatchBool t (Reads text no_reading) (Unit {0})) (sym dead) tt

pub hears_text : (p : Progress) (number : ℕ) (text : List ℕ) (r : Reading) → is_live p.sockets number ≡ true → Reads text r → Hears p number text r
hears_text p number text r live reads = subst (λ t. MatchBool t (Reads text r) (Unit {0})) (sym live) reads

-- ---- new sockets

-- the next connection is opened, or refused
abbrev pub opened : Progress → ℕ → Option ℕ → Played
opened p at refusal = record {
  text = opening_lines (length p.sockets + 1) refusal;
  next = record { at = p.at; sockets = p.sockets ++ new_socket at refusal ∷ []; shards = p.shards; webhooks = p.webhooks };
}

pub opens_is : (p : Progress) (at : ℕ) (refusal : Option ℕ) → length p.sockets < MOST_OPENED → Some (opened p at refusal) ≡ opens p at refusal
opens_is p at refusal few = sym (ap (λ t. cond t (Some (opened p at refusal)) None) (lt-ltb (length p.sockets) MOST_OPENED few))

-- ---- tails

pub tail_is : (config : Config) (p : Progress) (k : ℕ) → k < config.chan_shards → Some (record { text = tail_line (p.shards.chans k); next = p }) ≡ tails config p k
tail_is config p k inside = sym (ap (λ t. cond t (Some (record { text = tail_line (p.shards.chans k); next = p })) None) (lt-ltb k config.chan_shards inside))

-- ---- publishing

pub publish_none : (config : Config) (p : Progress) (at : ℕ) (c e b : List ℕ) (except : Option ℕ) (may : Bool) → MayPublish p b except may → may ≡ false → Publishes config p at c e b except None
publish_none config p at c e b except may h refused =
    (h.0, h.1, sym (ap (λ t. cond t (Some (publishes config p at c e b except)) None) (sym h.2 ∙ refused)))

pub publish_some : (config : Config) (p : Progress) (at : ℕ) (c e b : List ℕ) (except : Option ℕ) (may : Bool) → MayPublish p b except may → may ≡ true
    → (x : Option Played) → x ≡ Some (publishes config p at c e b except) → Publishes config p at c e b except x
publish_some config p at c e b except may h allowed x is =
    (h.0, h.1, is ∙ sym (ap (λ t. cond t (Some (publishes config p at c e b except)) None) (sym h.2 ∙ allowed)))

-- ---- commands

abbrev Of : Config → Progress → ℕ → Option Played → Command → Type 0
Of config p at x command = Obeys config p at command x

pub obeys_open : (config : Config) (p : Progress) (at : ℕ) (command : Command) (target : List ℕ) → command ≡ Open target
    → (x : Option Played) → x ≡ opens p at (target_refusal config.key target) → Obeys config p at command x
obeys_open config p at command target is x h = subst (Of config p at x) (sym is) (read_as no_reading, tt, h)

pub obeys_say : (config : Config) (p : Progress) (at : ℕ) (command : Command) (number : ℕ) (text : List ℕ) → command ≡ Say number text
    → (x : Option Played) → HearsOf config p at number text x → Obeys config p at command x
obeys_say config p at command number text is x h = subst (Of config p at x) (sym is) (read_as h.0, h.1, h.2)

pub obeys_join : (config : Config) (p : Progress) (at : ℕ) (command : Command) (number : ℕ) (channel text : List ℕ) (channel_data : Option (List ℕ)) → command ≡ Join number channel channel_data
    → text ≡ join_text config number channel channel_data → (x : Option Played) → HearsOf config p at number text x → Obeys config p at command x
obeys_join config p at command number channel text channel_data is same x h =
    subst (Of config p at x) (sym is) (read_as h.0, subst (λ z. Hears p number z h.0) same h.1, h.2)

pub obeys_sign_in : (config : Config) (p : Progress) (at : ℕ) (command : Command) (number : ℕ) (user_data text : List ℕ) → command ≡ SignIn number user_data
    → text ≡ sign_in_text config number user_data → (x : Option Played) → HearsOf config p at number text x → Obeys config p at command x
obeys_sign_in config p at command number user_data text is same x h =
    subst (Of config p at x) (sym is) (read_as h.0, subst (λ z. Hears p number z h.0) same h.1, h.2)

pub obeys_lose : (config : Config) (p : Progress) (at : ℕ) (command : Command) (number : ℕ) → command ≡ Lose number
    → (x : Option Played) → TurnOf p number (ends_turn [] number at) x → Obeys config p at command x
obeys_lose config p at command number is x h = subst (Of config p at x) (sym is) (read_as no_reading, tt, h)

pub obeys_tick : (config : Config) (p : Progress) (at : ℕ) (command : Command) (number : ℕ) → command ≡ Tick number
    → (x : Option Played) → TurnOf p number (ticks number at) x → Obeys config p at command x
obeys_tick config p at command number is x h = subst (Of config p at x) (sym is) (read_as no_reading, tt, h)

pub obeys_publish : (config : Config) (p : Progress) (at : ℕ) (command : Command) (c e b : List ℕ) (except : Option ℕ) → command ≡ Publish c e b except
    → (x : Option Played) → Publishes config p at c e b except x → Obeys config p at command x
obeys_publish config p at command c e b except is x h = subst (Of config p at x) (sym is) (judged_as h.0, h.1, h.2)

pub obeys_tail : (config : Config) (p : Progress) (at : ℕ) (command : Command) (k : ℕ) → command ≡ Tail k
    → (x : Option Played) → x ≡ tails config p k → Obeys config p at command x
obeys_tail config p at command k is x h = subst (Of config p at x) (sym is) (read_as no_reading, tt, h)

pub obeys_hooks : (config : Config) (p : Progress) (at : ℕ) (command : Command) → command ≡ Hooks
    → (x : Option Played) → x ≡ Some (gathers config p at) → Obeys config p at command x
obeys_hooks config p at command is x h = subst (Of config p at x) (sym is) (read_as no_reading, tt, h)

pub obeys_api : (config : Config) (p : Progress) (at : ℕ) (command : Command) (method : Method) (path query body bytes : List ℕ) → command ≡ Api method path query body
    → bytes ≡ api_bytes config at method path query body → (x : Option Played) → ExchangesOf config p at bytes x → Obeys config p at command x
obeys_api config p at command method path query body bytes is same x (e, (look, events, comes, f), h) =
    subst (Of config p at x) (sym is)
    (looked_as look events, subst (λ z. Comes config at z look events) same comes, h ∙ ap (λ z. Some (of_exchange p z)) f)

pub obeys_http : (config : Config) (p : Progress) (at : ℕ) (command : Command) (bytes slice : List ℕ) → command ≡ Http bytes
    → slice ≡ bytes → (x : Option Played) → ExchangesOf config p at slice x → Obeys config p at command x
obeys_http config p at command bytes slice is same x (e, (look, events, comes, f), h) =
    subst (Of config p at x) (sym is)
    (looked_as look events, subst (λ z. Comes config at z look events) same comes, h ∙ ap (λ z. Some (of_exchange p z)) f)

-- ---- lines

-- a command, and the rounds after it
pub obeys_whole : (config : Config) (p : Progress) (at : ℕ) (command : Command) (player after : Player) (old mid new : List ℕ)
    → (h : PlaysAs player old mid (Obeys config p at command))
    → RunsOn after mid new h.played.next (rounds (length h.played.next.sockets + 1) config h.played.next.at h.played.next.sockets h.played.next.shards)
    → PlaysAs after old new (ObeysWhole config p at command)
obeys_whole config p at command player after old mid new h runs =
    let q = h.played.next in
    let r = rounds (length q.sockets + 1) config q.at q.sockets q.shards in
    record {
      played = record { text = h.played.text ++ r.text; next = record { at = q.at; sockets = r.sockets; shards = r.shards; webhooks = q.webhooks } };
      is = (h.is.0, h.is.1, ap (rounded config) h.is.2);
      text = runs.text ∙ ap (λ z. z ++ r.text) h.text ∙ append_assoc old h.played.text r.text;
      next = runs.next;
    }

-- a command that may not stand has no rounds
pub none_whole : (config : Config) (p : Progress) (at : ℕ) (command : Command) → Obeys config p at command None → ObeysWhole config p at command None
none_whole config p at command h = (h.0, h.1, ap (rounded config) h.2)

pub refused_whole : (fault : LineFault) (config : Config) (p : Progress) (at : ℕ) (command : Command) → IsRefused fault (Obeys config p at command) → IsRefused fault (ObeysWhole config p at command)
refused_whole NotALine config p at command h = none_whole config p at command h
refused_whole Memory config p at command h = tt

-- a line at a moment that isn't before the last one
pub timed_is : (config : Config) (p : Progress) (at : ℕ) (command : Command) → p.at ≤ at → (x : Option Played) → ObeysWhole config (at_moment at p) at command x → PlaysLine config p (Timed at command) x
timed_is config p at command later x h =
    let later_is : nat_le p.at at ≡ true = grind (arith, nat_tests) in (
      h.0,
      subst (λ t. MatchBool t (Means config (at_moment at p) at command h.0) (Unit {0})) (sym later_is) h.1,
      h.2 ∙ sym (ap (λ t. cond t (rounded config (obeyed config (at_moment at p) at command h.0)) None) later_is),
    )

-- a line at an earlier one
pub timed_none : (config : Config) (p : Progress) (at : ℕ) (command : Command) → at < p.at → PlaysLine config p (Timed at command) None
timed_none config p at command before =
    let earlier : nat_le p.at at ≡ false = grind (arith, nat_tests) in (
      read_as no_reading,
      subst (λ t. MatchBool t (Means config (at_moment at p) at command (read_as no_reading)) (Unit {0})) (sym earlier) tt,
      sym (ap (λ t. cond t (rounded config (obeyed config (at_moment at p) at command (read_as no_reading))) None) earlier),
    )

pub line_is : (config : Config) (p : Progress) (line other : Line) → line ≡ other → (x : Option Played) → PlaysLine config p other x → PlaysLine config p line x
line_is config p line other is x h = subst (λ z. PlaysLine config p z x) (sym is) h

pub skipped_is : (config : Config) (p : Progress) → PlaysLine config p Skipped (Some (quietly p))
skipped_is config p = (read_as no_reading, tt, refl)

pub bad_is : (config : Config) (p : Progress) → PlaysLine config p Bad None
bad_is config p = (read_as no_reading, tt, refl)

-- rounds at the moment of the last line
pub ran : {T E : Type 0} (result : Result T E) (bench : BenchModel) (now : List (Option Seat)) (old new : List ℕ) (config : Config) (at : ℕ) (p : Progress) → at ≡ p.at
    → OnOk result (RunsRounds bench now old new (rounds (length p.sockets + 1) config at p.sockets p.shards))
    → OnOk result (RunsRounds bench now old new (rounds (length p.sockets + 1) config p.at p.sockets p.shards))
ran result bench now old new config at p same h = subst (λ z. OnOk result (RunsRounds bench now old new (rounds (length p.sockets + 1) config z p.sockets p.shards))) same h
