-- Rounds: the shards are taken and told one after another, and the losses are made.
use Rattle.std.proofs.Common.{◌≡◌, ◌≢◌, ℕ, zero, suc, ◌+◌, ◌<◌, ◌≤◌, ◌∙◌, ap, ap₂, sym, refl, subst, Bool, true, false, ◌||◌, ◌&&◌, not, List, [], ◌∷◌, ◌++◌, length, take, slice_index_or, slice_set, flat_map, append_assoc, append-nil, arith, inl, inr}
use native.Mathlib.Decide.{dec_lt}
use mathlib.Core.Logic.{dite}
use Rattle.std.proofs.lemmas.Bool.{cases_eq}
use Rattle.std.proofs.lemmas.List.{length-take-le, get_or_past, get_or-set_same, get_or-set_other}
use Rattle.std.proofs.Math.Bool.{or_assoc}
use Rattle.std.proofs.Math.Seq.{take-suc}
use Rattle.std.specs.List.{range_with_len}
use Rattle.std.proofs.lemmas.Grind.{flat_map-append}
use Rattle.std.specs.Prelude.{Option, Some, None, IfSome, is_some, if◌then◌else◌}
use Rattle.ch_base.specs.declared.frame.FrameFor.{FrameFor}
use Rattle.ch_config.specs.declared.config.Config.{Config}
use Rattle.ch_desk.specs.Bench.{BenchModel}
use Rattle.ch_session.specs.Kept.{Kept}
use Rattle.ch_player.specs.Benches.{IsAtShards}
use Rattle.ch_socket.specs.Sockets.{IsOpen, IsReady}
use Rattle.ch_protocol.specs.Shards.{Shards, loses}
use Rattle.ch_transcript.specs.Progress.{Socket, no_socket}
use Rattle.ch_transcript.specs.Rounds.{Telling, tells_all, all_waiting, taken, has_ended, any_ended, loses_ended, Rounds, after_round, rounds}
use Rattle.ch_player.specs.Seats.{IsSeatOf, AreSeats, AreReady, session_in, SameSessions, AddsTelling}
use Rattle.ch_player.specs.Rounding.{open_in, ended_in, one_loss, LosesOne, AllOpen, WereOpen, RunsRound, RunsRounds}
use Rattle.ch_player.specs.declared.seat.Seat.{Seat}
use Rattle.ch_player.proofs.Tellings.{tells_all-append, Tells-then}

-- one number more
range-push : (a n : ℕ) → range_with_len a (suc n) ≡ range_with_len a n ++ (a + n) ∷ []
range-push a zero = let same : a ≡ a + 0 = omega arith in ap (λ z. z ∷ []) same
range-push a (suc n) =
    let same : (a + 1) + n ≡ a + suc n = omega arith in
    ap (λ zs. a ∷ zs) (range-push (a + 1) n ∙ ap (λ z. range_with_len (a + 1) n ++ z ∷ []) same)

-- the frames of the shards below the next one, and then its own
flat_map-push : (F : ℕ → List FrameFor) (k : ℕ) → flat_map F (range_with_len 0 (k + 1)) ≡ flat_map F (range_with_len 0 k) ++ F k
flat_map-push F k =
    let more : k + 1 ≡ suc k = omega arith in
    let zero_more : 0 + k ≡ k = omega arith in
    let below = range_with_len 0 k in
    ap (λ n. flat_map F (range_with_len 0 n)) more
    ∙ ap (flat_map F) (range-push 0 k)
    ∙ ap (λ n. flat_map F (below ++ n ∷ [])) zero_more
    ∙ flat_map-append F below (k ∷ [])
    ∙ ap (λ zs. flat_map F below ++ zs) (append-nil (F k))

-- the frames of two lists were told, one list after the other
pub Tells-both : (now : List (Option Seat)) (a b c : List ℕ) (sockets : List Socket) (xs ys : List FrameFor)
    → b ≡ a ++ (tells_all sockets xs).text → AddsTelling now b c (tells_all (tells_all sockets xs).sockets ys) → AddsTelling now a c (tells_all sockets (xs ++ ys))
Tells-both now a b c sockets xs ys first more =
    let P : Telling → Type 0 = λ z. AddsTelling now a c z in
    subst P (sym (tells_all-append sockets xs ys)) (Tells-then now a b c (tells_all sockets xs) (tells_all (tells_all sockets xs).sockets ys) first more)

-- the frames of the shards below the next one were told, and then its own
pub Tells-shard : (now : List (Option Seat)) (a b c : List ℕ) (sockets : List Socket) (F : ℕ → List FrameFor) (k : ℕ) (frames : List FrameFor) → frames ≡ F k
    → b ≡ a ++ (tells_all sockets (flat_map F (range_with_len 0 k))).text → AddsTelling now b c (tells_all (tells_all sockets (flat_map F (range_with_len 0 k))).sockets frames)
    → AddsTelling now a c (tells_all sockets (flat_map F (range_with_len 0 (k + 1))))
Tells-shard now a b c sockets F k frames is first more =
    let below = flat_map F (range_with_len 0 k) in
    let P : List FrameFor → Type 0 = λ xs. AddsTelling now b c (tells_all (tells_all sockets below).sockets xs) in
    let Q : List FrameFor → Type 0 = λ xs. AddsTelling now a c (tells_all sockets xs) in
    subst Q (sym (flat_map-push F k)) (Tells-both now a b c sockets below (F k) first (subst P is more))

-- Shards that are called one after another: mid where those below k were called, new where k was called too.
module _ {H : Type 0} (f : H → H) (old mid new : ℕ → H) (k : ℕ) (elsewhere : (j : ℕ) → j ≢ k → new j ≡ mid j) (left : (j : ℕ) → k ≤ j → mid j ≡ old j) where
  pub done-next : new k ≡ f (mid k) → ((j : ℕ) → j < k → mid j ≡ f (old j)) → (j : ℕ) → j < k + 1 → new j ≡ f (old j)
  done-next called done j below = elim (cases_eq j k) [
    | inl same ↦ (
        let Q : ℕ → Type 0 = λ i. new i ≡ f (old i) in
        subst Q (sym same) (called ∙ ap f (left k (omega arith))))
    | inr other ↦ elsewhere j other ∙ done j (omega (arith, below, other))
  ]

  pub left-next : (j : ℕ) → k + 1 ≤ j → new j ≡ old j
  left-next j above = elsewhere j (λ same. omega (arith, above, same)) ∙ left j (omega (arith, above))

-- One socket that ended

ended_case : (b : Bool) (k session : Kept) → Some session ≡ (if b then None else Some k) → (b ≡ false) × (session ≡ k)
ended_case true k session is = absurd (cc is)
ended_case false k session is = (refl, cc is)

-- the socket as it was before it was closed
abbrev pub opened : Socket → Socket
opened s = record { is_open = true; quiet = s.quiet; asks = s.asks }

has_ended-taken : (number : ℕ) (seat : Option Seat) (session : Kept) (before after : Socket) → Some session ≡ ended_in seat → before.is_open ≡ is_some seat
    → IsSeatOf number seat after → has_ended before after ≡ true
has_ended-taken number None session before after taken were is = absurd (cc taken)
has_ended-taken number (Some seat) session before after taken were is =
    let shut : after.is_open ≡ false = is.lives ∙ (ended_case seat.is_open seat.session session taken).0 in
    ap (λ b. b && not after.is_open) were ∙ ap not shut

-- the session that was taken out is that of the socket before it was closed
pub IsOpen-taken : (number : ℕ) (seat : Option Seat) (session : Kept) (after : Socket) → Some session ≡ ended_in seat → IsSeatOf number seat after → IsOpen number session (opened after)
IsOpen-taken number None session after taken is = absurd (cc taken)
IsOpen-taken number (Some seat) session after taken is =
    subst (λ k. IsOpen number k (opened after)) (sym (ended_case seat.is_open seat.session session taken).1) (record { lives = refl; session = is.session; quiet = is.quiet })

-- its losses were made
pub LosesOne-taken : (number at : ℕ) (bench : BenchModel) (seat : Option Seat) (session : Kept) (before after : Socket) (shards : Shards) → Some session ≡ ended_in seat → before.is_open ≡ is_some seat
    → IsSeatOf number seat after → IsAtShards bench (loses number at after.asks shards) → LosesOne number at bench before after shards true
LosesOne-taken number at bench seat session before after shards taken were is lost =
    let ended = has_ended-taken number seat session before after taken were is in
    record {
      told = sym ended;
      at_shards = subst (λ b. IsAtShards bench (if b then loses number at after.asks shards else shards)) (sym ended) lost;
    }

-- The losses of a list

or_false : (a : Bool) → a ≡ (a || false)
or_false true = refl
or_false false = refl

any_ended-push : (xs ys : List Socket) (x y : Socket) → length xs ≡ length ys → any_ended (xs ++ x ∷ []) (ys ++ y ∷ []) ≡ (any_ended xs ys || has_ended x y)
any_ended-push [] [] x y same = sym (or_false (has_ended x y))
any_ended-push [] (b ∷ ys) x y same = let h : 0 ≡ suc (length ys) = same in absurd (omega (arith, h))
any_ended-push (a ∷ xs) [] x y same = let h : suc (length xs) ≡ 0 = same in absurd (omega (arith, h))
any_ended-push (a ∷ xs) (b ∷ ys) x y same =
    let h : suc (length xs) ≡ suc (length ys) = same in
    ap (λ z. has_ended a b || z) (any_ended-push xs ys x y (omega (arith, h))) ∙ sym (or_assoc (has_ended a b) (any_ended xs ys) (has_ended x y))

loses_ended-push : (at number : ℕ) (xs ys : List Socket) (x y : Socket) (shards : Shards) → length xs ≡ length ys
    → loses_ended at number (xs ++ x ∷ []) (ys ++ y ∷ []) shards ≡ one_loss (number + length xs) at x y (loses_ended at number xs ys shards)
loses_ended-push at number [] [] x y shards same =
    let here : number ≡ number + 0 = omega arith in ap (λ n. one_loss n at x y shards) here
loses_ended-push at number [] (b ∷ ys) x y shards same = let h : 0 ≡ suc (length ys) = same in absurd (omega (arith, h))
loses_ended-push at number (a ∷ xs) [] x y shards same = let h : suc (length xs) ≡ 0 = same in absurd (omega (arith, h))
loses_ended-push at number (a ∷ xs) (b ∷ ys) x y shards same =
    let h : suc (length xs) ≡ suc (length ys) = same in
    let first = one_loss number at a b shards in
    let place : (number + 1) + length xs ≡ number + suc (length xs) = omega arith in
    loses_ended-push at (number + 1) xs ys x y first (omega (arith, h)) ∙ ap (λ n. one_loss n at x y (loses_ended at (number + 1) xs ys first)) place

-- the losses of the sockets below a place were made, and it is told whether one ended
pub record Losing (at i : ℕ) (bench : BenchModel) (before after : List Socket) (shards : Shards) (any : Bool) : Type 0 where
  pub told : any ≡ any_ended (take i before) (take i after)
  pub at_shards : IsAtShards bench (loses_ended at 1 (take i before) (take i after) shards)

take-next : (xs : List Socket) (i : ℕ) → i < length xs → take i xs ++ slice_index_or xs i no_socket ∷ [] ≡ take (i + 1) xs
take-next xs i inside =
    let more : suc i ≡ i + 1 = omega arith in sym (take-suc xs i no_socket inside) ∙ ap (λ n. take n xs) more

pub Losing-next : (at i : ℕ) (bench : BenchModel) (before after : List Socket) (shards : Shards) (any ended : Bool) → length before ≡ length after → i < length before
    → any ≡ any_ended (take i before) (take i after)
    → LosesOne (i + 1) at bench (slice_index_or before i no_socket) (slice_index_or after i no_socket) (loses_ended at 1 (take i before) (take i after) shards) ended
    → Losing at (i + 1) bench before after shards (any || ended)
Losing-next at i bench before after shards any ended same inside told one =
    let xs = take i before in
    let ys = take i after in
    let x = slice_index_or before i no_socket in
    let y = slice_index_or after i no_socket in
    let count : length xs ≡ i = length-take-le i before (omega (arith, inside)) in
    let alike : length xs ≡ length ys = count ∙ sym (length-take-le i after (omega (arith, inside, same))) in
    let place : i + 1 ≡ 1 + length xs = omega (arith, count) in
    let more_before = take-next before i inside in
    let more_after = take-next after i (omega (arith, inside, same)) in
    record {
      told = ap₂ (λ a b. a || b) told one.told ∙ sym (any_ended-push xs ys x y alike) ∙ ap₂ any_ended more_before more_after;
      at_shards = subst (IsAtShards bench)
          (ap (λ n. one_loss n at x y (loses_ended at 1 xs ys shards)) place ∙ sym (loses_ended-push at 1 xs ys x y shards alike) ∙ ap₂ (λ p q. loses_ended at 1 p q shards) more_before more_after)
          one.at_shards;
    }

-- Seats that are left

-- a seat was replaced by itself, if it is open
module _ (mid new : List (Option Seat)) (i : ℕ) (left : new ≡ slice_set mid i (open_in (slice_index_or mid i None))) where
  pub seat-elsewhere : (j : ℕ) → j ≢ i → slice_index_or new j None ≡ slice_index_or mid j None
  seat-elsewhere j other = ap (λ z. slice_index_or z j None) left ∙ get_or-set_other mid i j _ None other

  pub seat-here : i < length mid → slice_index_or new i None ≡ open_in (slice_index_or mid i None)
  seat-here inside = ap (λ z. slice_index_or z i None) left ∙ get_or-set_same mid i _ None inside

-- the seats are those that are open
pub record Emptied (old new : List (Option Seat)) : Type 0 where
  pub count : length new ≡ length old
  pub each : (i : ℕ) → slice_index_or new i None ≡ open_in (slice_index_or old i None)

pub Emptied-all : (old new : List (Option Seat)) → length new ≡ length old → ((i : ℕ) → i < length old → slice_index_or new i None ≡ open_in (slice_index_or old i None)) → Emptied old new
Emptied-all old new count below = record {
  count = count;
  each = λ i. dite (dec_lt i (length old)) (below i)
      (λ beyond. get_or_past new i None (omega (arith, beyond, count)) ∙ sym (ap open_in (get_or_past old i None (omega (arith, beyond)))));
}

IfSome-open : (P : Seat → Type 0) (seat : Seat) (b : Bool) → P seat → IfSome (if b then Some seat else None) P
IfSome-open P seat true is = is
IfSome-open P seat false is = tt

IsSeatOf-shut : (number : ℕ) (seat : Seat) (s : Socket) (b : Bool) → seat.is_open ≡ b → IsSeatOf number (Some seat) s → IsSeatOf number (if b then Some seat else None) s
IsSeatOf-shut number seat s true eq is = is
IsSeatOf-shut number seat s false eq is = is.lives ∙ eq

IsSeatOf-open : (number : ℕ) (seat : Option Seat) (s : Socket) → IsSeatOf number seat s → IsSeatOf number (open_in seat) s
IsSeatOf-open number None s is = is
IsSeatOf-open number (Some seat) s is = IsSeatOf-shut number seat s seat.is_open refl is

open_is_open : (seat : Seat) (b : Bool) → seat.is_open ≡ b → IfSome (if b then Some seat else None) (λ x. x.is_open ≡ true)
open_is_open seat true eq = eq
open_is_open seat false eq = tt

all_open_in : (seat : Option Seat) → IfSome (open_in seat) (λ x. x.is_open ≡ true)
all_open_in None = tt
all_open_in (Some seat) = open_is_open seat seat.is_open refl

still_in : (P : Seat → Type 0) (seat : Option Seat) → IfSome seat P → IfSome (open_in seat) P
still_in P None is = tt
still_in P (Some seat) is = IfSome-open P seat seat.is_open is

pub AreSeats-emptied : (old new : List (Option Seat)) (sockets : List Socket) → Emptied old new → AreSeats old sockets → AreSeats new sockets
AreSeats-emptied old new sockets e are = record {
  count = e.count ∙ are.count;
  each = λ i below. subst (λ x. IsSeatOf (i + 1) x (slice_index_or sockets i no_socket)) (sym (e.each i)) (IsSeatOf-open (i + 1) (slice_index_or old i None) _ (are.each i below));
}

pub AllOpen-emptied : (old new : List (Option Seat)) → Emptied old new → AllOpen new
AllOpen-emptied old new e = record {
  each = λ i. subst (λ x. IfSome x (λ seat. seat.is_open ≡ true)) (sym (e.each i)) (all_open_in (slice_index_or old i None));
}

pub AreReady-emptied : (config : Config) (old new : List (Option Seat)) → Emptied old new → AreReady config old → AreReady config new
AreReady-emptied config old new e ready = record {
  each = λ i below. subst (λ x. IfSome x (λ seat. IsReady config (i + 1) seat.session)) (sym (e.each i))
      (still_in (λ seat. IsReady config (i + 1) seat.session) (slice_index_or old i None) (ready.each i (omega (arith, below, e.count))));
}

-- One round

some_session : (seat : Option Seat) → is_some seat ≡ is_some (session_in seat)
some_session None = refl
some_session (Some seat) = refl

open_as_seat : (number : ℕ) (seat : Option Seat) (s : Socket) → IfSome seat (λ x. x.is_open ≡ true) → IsSeatOf number seat s → s.is_open ≡ is_some seat
open_as_seat number None s opens is = is
open_as_seat number (Some seat) s opens is = is.lives ∙ opens

-- those that have a seat after a round were open before
pub WereOpen-told : (old new : List (Option Seat)) (sockets : List Socket) → AreSeats old sockets → AllOpen old → SameSessions old new → WereOpen sockets new
WereOpen-told old new sockets are opens same = record {
  count = sym (same.count ∙ are.count);
  each = λ i below.
      open_as_seat (i + 1) (slice_index_or old i None) (slice_index_or sockets i no_socket) (opens.each i) (are.each i below)
      ∙ some_session (slice_index_or old i None) ∙ ap is_some (sym (same.each i)) ∙ sym (some_session (slice_index_or new i None));
}

of_session : (P : Kept → Type 0) (old new : Option Seat) → session_in new ≡ session_in old → IfSome old (λ seat. P seat.session) → IfSome new (λ seat. P seat.session)
of_session P old None same is = tt
of_session P None (Some new) same is = absurd (cc same)
of_session P (Some old) (Some new) same is = let here : old.session ≡ new.session = cc same in subst P here is

-- a session stays ready in a round
pub AreReady-told : (config : Config) (old new : List (Option Seat)) → AreReady config old → SameSessions old new → AreReady config new
AreReady-told config old new ready same = record {
  each = λ i below. of_session (IsReady config (i + 1)) (slice_index_or old i None) (slice_index_or new i None) (same.each i) (ready.each i (omega (arith, below, same.count)));
}

-- Round after round

-- some rounds of all were run, and at most so many are left
pub record Running (left : ℕ) (config : Config) (at : ℕ) (bench : BenchModel) (now : List (Option Seat)) (old new : List ℕ) (all : Rounds) : Type 0 where
  pub text : List ℕ
  pub sockets : List Socket
  pub shards : Shards
  pub adds : new ≡ old ++ text
  pub seats : AreSeats now sockets
  pub at_shards : IsAtShards bench shards
  pub is : all ≡ after_round text (rounds left config at sockets shards)

pub Running-first : (left : ℕ) (config : Config) (at : ℕ) (bench : BenchModel) (now : List (Option Seat)) (out : List ℕ) (sockets : List Socket) (shards : Shards) → left ≡ length sockets + 1
    → AreSeats now sockets → IsAtShards bench shards → Running left config at bench now out out (rounds (length sockets + 1) config at sockets shards)
Running-first left config at bench now out sockets shards count are here = record {
  text = [];
  sockets = sockets;
  shards = shards;
  adds = sym (append-nil out);
  seats = are;
  at_shards = here;
  is = ap (λ n. rounds n config at sockets shards) (sym count);
}

or_none : (a b : Bool) → (a || b) ≡ false → (a ≡ false) × (b ≡ false)
or_none true b h = absurd (cc h)
or_none false b h = (refl, h)

-- none ended: no loss is made
loses_none : (at number : ℕ) (xs ys : List Socket) (shards : Shards) → any_ended xs ys ≡ false → loses_ended at number xs ys shards ≡ shards
loses_none at number [] ys shards none = refl
loses_none at number (x ∷ xs) [] shards none = refl
loses_none at number (x ∷ xs) (y ∷ ys) shards none =
    let each = or_none (has_ended x y) (any_ended xs ys) none in
    loses_none at (number + 1) xs ys (one_loss number at x y shards) each.1 ∙ ap (λ b. if b then loses number at y.asks shards else shards) each.0

module _ (n : ℕ) (config : Config) (at : ℕ) (bench before_bench : BenchModel) (now before : List (Option Seat)) (old mid new : List ℕ) (all : Rounds)
    (run : Running (suc n) config at before_bench before old mid all) where
  abbrev told : Telling
  told = tells_all run.sockets (all_waiting config run.shards)

  abbrev lost : Shards
  lost = loses_ended at 1 run.sockets told.sockets (taken run.shards)

  abbrev chosen : Bool → Rounds
  chosen b = if b then after_round told.text (rounds n config at told.sockets lost) else record { text = told.text; sockets = told.sockets; shards = taken run.shards }

  adds_more : new ≡ mid ++ told.text → new ≡ old ++ (run.text ++ told.text)
  adds_more more = more ∙ ap (λ z. z ++ told.text) run.adds ∙ append_assoc old run.text told.text

  is_chosen : (b : Bool) → b ≡ any_ended run.sockets told.sockets → all ≡ after_round run.text (chosen b)
  is_chosen b is = run.is ∙ ap (λ c. after_round run.text (chosen c)) (sym is)

  -- one ended: there is another round
  pub Running-next : RunsRound config at bench now mid new run.sockets run.shards true → Running n config at bench now old new all
  Running-next round = record {
    text = run.text ++ told.text;
    sockets = told.sockets;
    shards = lost;
    adds = adds_more round.text;
    seats = round.loses.seats;
    at_shards = round.loses.at_shards;
    is =
        let r = rounds n config at told.sockets lost in
        is_chosen true round.loses.told ∙ ap (λ z. record { text = z; sockets = r.sockets; shards = r.shards }) (sym (append_assoc run.text told.text r.text));
  }

  -- none ended: it was the last one
  pub RunsRounds-last : RunsRound config at bench now mid new run.sockets run.shards false → RunsRounds bench now old new all
  RunsRounds-last round =
      let none = loses_none at 1 run.sockets told.sockets (taken run.shards) (sym round.loses.told) in
      subst (RunsRounds bench now old new) (sym (is_chosen false round.loses.told)) (record {
        text = adds_more round.text;
        seats = round.loses.seats;
        at_shards = subst (IsAtShards bench) none round.loses.at_shards;
      })

-- no round is left
pub RunsRounds-all : (config : Config) (at : ℕ) (bench : BenchModel) (now : List (Option Seat)) (old new : List ℕ) (all : Rounds) → Running 0 config at bench now old new all → RunsRounds bench now old new all
RunsRounds-all config at bench now old new all run =
    subst (RunsRounds bench now old new) (sym run.is) (record {
      text = run.adds ∙ ap (λ z. old ++ z) (sym (append-nil run.text));
      seats = run.seats;
      at_shards = run.at_shards;
    })
