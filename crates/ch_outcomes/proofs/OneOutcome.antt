-- That a transcript has one outcome.
use Rattle.std.proofs.Common.{◌≡◌, ℕ, ◌+◌, Bool, true, false, List, [], ◌∷◌, length, refl, sym, ap, ◌∙◌, subst, Some}
use Rattle.std.specs.Prelude.{Option, None, MatchBool, ◌&&◌, nat_le, nat_lt, if◌then◌else◌}
use Rattle.ch_config.specs.declared.config.Config.{Config}
use Rattle.ch_transcript.specs.Commands.{line_of}
use Rattle.ch_transcript.specs.Joining.{join_text, sign_in_text}
use Rattle.ch_transcript.specs.Lines.{lines_of}
use Rattle.ch_transcript.specs.declared.limits.TheConstants.{LONGEST_LINE}
use Rattle.ch_transcript.specs.Printing.{long_line}
use Rattle.ch_transcript.specs.Requests.{api_bytes}
use Rattle.ch_transcript.specs.Exchanges.{Exchange, of_exchange}
use Rattle.ch_transcript.specs.Obeying.{may_except, publishes, Sense, Means, obeyed}
use Rattle.ch_transcript.specs.Outcomes.{at_moment, played_as, MeansAs, Plays, Outcome, ends, after_text, Follows, OutcomeFrom, HasOutcome}
use Rattle.ch_transcript.specs.Progress.{Progress, beginning, Played}
use Rattle.ch_transcript.specs.Rounds.{rounded}
use Rattle.ch_transcript.specs.Turns.{hears}
use Rattle.ch_transcript.specs.declared.commands.Command.{Command}
use Rattle.ch_transcript.specs.declared.commands.Command.TheVariants.{Open, Say, Join, SignIn, Lose, Tick, Publish, Tail, Api, Hooks, Http}
use Rattle.ch_transcript.specs.declared.commands.Line.{Line}
use Rattle.ch_transcript.specs.declared.commands.Line.TheVariants.{Skipped, Timed, Bad}
use Rattle.ch_outcomes.proofs.OneSense.{heard_once, judged_once, comes_once}

-- ---- lines

-- what a command does is the same by each sense that it has
obeyed_once : (config : Config) (p : Progress) (at : ℕ) (command : Command) (s t : Sense) → Means config p at command s → Means config p at command t
    → obeyed config p at command s ≡ obeyed config p at command t
obeyed_once config p at (Open target) s t h k = refl
obeyed_once config p at (Say number text) s t h k = heard_once p number text (hears config number at) s.reading t.reading h k
obeyed_once config p at (Join number channel channel_data) s t h k =
    heard_once p number (join_text config number channel channel_data) (hears config number at) s.reading t.reading h k
obeyed_once config p at (SignIn number user_data) s t h k =
    heard_once p number (sign_in_text config number user_data) (hears config number at) s.reading t.reading h k
obeyed_once config p at (Lose number) s t h k = refl
obeyed_once config p at (Tick number) s t h k = refl
obeyed_once config p at (Publish channel event body except) s t h k =
    ap (λ (z : Bool). if z && may_except p except then Some (publishes config p at channel event body except) else None)
    (judged_once body s.is_string t.is_string h k)
obeyed_once config p at (Tail shard) s t h k = refl
obeyed_once config p at Hooks s t h k = refl
obeyed_once config p at (Api method path query body) s t h k =
    ap (λ (z : Exchange). Some (of_exchange p z))
    (comes_once config at (api_bytes config at method path query body) p.shards s.look t.look s.events t.events h k)
obeyed_once config p at (Http bytes) s t h k =
    ap (λ (z : Exchange). Some (of_exchange p z)) (comes_once config at bytes p.shards s.look t.look s.events t.events h k)

played_once : (config : Config) (p : Progress) (line : Line) (s t : Sense) → MeansAs config p line s → MeansAs config p line t
    → played_as config p line s ≡ played_as config p line t
played_once config p Skipped s t h k = refl
played_once config p Bad s t h k = refl
played_once config p (Timed at command) s t h k = test (nat_le p.at at) h k
  where
    now : Progress
    now = at_moment at p

    test : (good : Bool) → MatchBool good (Means config now at command s) (Unit {0}) → MatchBool good (Means config now at command t) (Unit {0})
        → (if good then rounded config (obeyed config now at command s) else None) ≡ (if good then rounded config (obeyed config now at command t) else None)
    test true x y = ap (rounded config) (obeyed_once config now at command s t x y)
    test false x y = refl

pub one_play : (config : Config) (p : Progress) (line : List ℕ) (a b : Option Played) → Plays config p line a → Plays config p line b → a ≡ b
one_play config p line a b (s, h, e) (t, k, f) = e ∙ played_once config p (line_of line) s t h k ∙ sym f

-- ---- all lines

follows_once : (n : ℕ) (More : Progress → Outcome → Type 0) → ((q : Progress) (a b : Outcome) → More q a → More q b → a ≡ b)
    → (x : Option Played) (a b : Outcome) → Follows n More x a → Follows n More x b → a ≡ b
follows_once n More once None a b h k = h ∙ sym k
follows_once n More once (Some x) a b (later, h, e) (other, k, f) = e ∙ ap (after_text x.text) (once x.next later other h k) ∙ sym f

-- what a line and the lines after it make, where these make one outcome
line_once : (config : Config) (n : ℕ) (p : Progress) (line : List ℕ) (More : Progress → Outcome → Type 0) → ((q : Progress) (a b : Outcome) → More q a → More q b → a ≡ b)
    → (a b : Outcome) → (x y : Option Played) → Plays config p line x → Plays config p line y → Follows n More x a → Follows n More y b → a ≡ b
line_once config n p line More once a b x y plays plays_too follows follows_too =
    let same : y ≡ x = one_play config p line y x plays_too plays in
    follows_once n More once x a b follows (subst (λ (z : Option Played). Follows n More z b) same follows_too)

either_once : (config : Config) (n : ℕ) (p : Progress) (line : List ℕ) (More : Progress → Outcome → Type 0) → ((q : Progress) (a b : Outcome) → More q a → More q b → a ≡ b)
    → (long : Bool) (a b : Outcome) → MatchBool long (a ≡ ends 8 (long_line n)) ((x : Option Played) × Plays config p line x × Follows n More x a)
    → MatchBool long (b ≡ ends 8 (long_line n)) ((x : Option Played) × Plays config p line x × Follows n More x b) → a ≡ b
either_once config n p line More once true a b h k = h ∙ sym k
either_once config n p line More once false a b (x, plays, follows) (y, plays_too, follows_too) =
    line_once config n p line More once a b x y plays plays_too follows follows_too

outcome_once : (config : Config) (n : ℕ) (p : Progress) (lines : List (List ℕ)) (a b : Outcome) → OutcomeFrom config n p lines a → OutcomeFrom config n p lines b → a ≡ b
outcome_once config n p [] a b h k = h ∙ sym k
outcome_once config n p (line ∷ lines) a b h k =
    either_once config n p line (λ q later. OutcomeFrom config (n + 1) q lines later) (λ q c d. outcome_once config (n + 1) q lines c d)
    (nat_lt LONGEST_LINE (length line)) a b h k

pub one_outcome : (config : Config) (bytes : List ℕ) (a b : Outcome) → HasOutcome config bytes a → HasOutcome config bytes b → a ≡ b
one_outcome config bytes a b h k = outcome_once config 1 beginning (lines_of bytes) a b h k
