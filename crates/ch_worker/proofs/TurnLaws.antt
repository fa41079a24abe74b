-- The laws of a worker's turn.
use Rattle.std.proofs.Common.{◌≡◌, ◌≢◌, ◌+◌, ℕ, true, false, List, [], ◌∷◌, ◌++◌, length, map, ap, sym, subst, refl, ◌∙◌, arith, length-append}
use Rattle.std.specs.Prelude.{⊤, All, Option, Some, None, Result, Ok, Err, is_ok, if◌then◌else◌}
use Rattle.std.specs.Option.{option_map, option_to_list}
use Rattle.std.proofs.lemmas.List.Elements.{All-nil, All-cons, All-head, All-tail}
use Rattle.ch_base.specs.declared.memory.Memory.{Memory}
use Rattle.ch_clients.proofs.Parts.{whole_all, short_one, one_short, idle_all, all_idle}
use Rattle.ch_clients.proofs.Edits.{all_left, all_right}
use Rattle.ch_clients.specs.Clients.{Client, newcomer}
use Rattle.ch_clients.specs.Leaving.{Left, still_leaving, part_of_left}
use Rattle.ch_clients.specs.Serving.{Turned, leavers}
use Rattle.ch_clients.specs.declared.answer.WorkerTurn.{WorkerTurn}
use Rattle.ch_clients.specs.declared.answer.WorkerTurn.TheVariants.{Moved, Memory as OutOfMemory}
use Rattle.ch_desk.specs.OwnEntries.{was_made}
use Rattle.ch_io.specs.Known.{Takes}
use Rattle.ch_live.specs.declared.peer.Peer.{Peer}
use Rattle.ch_net.specs.Arriving.{ArrivalsTold}
use Rattle.ch_net.specs.Links.{LinkTold}
use Rattle.ch_net.specs.declared.arrivals.Arrival.{Arrival}
use Rattle.ch_protocol.specs.Asks.{Asked}
use Rattle.ch_protocol.specs.declared.ask.Made.{Made}
use Rattle.ch_protocol.specs.declared.ask.Made.TheVariants as made
use Rattle.ch_clients.proofs.InTurns.{in_turn_map}
use Rattle.ch_worker.specs.Laws.{ArrivalsAreLetIn, EachShardIsTaken, IdleIsTold, LeaversAreGone, MemoryIsTold, UpgradesAreMade}
use Rattle.ch_worker.specs.Taking.{each_take, IsMade, part_of_take}
use Rattle.ch_worker.specs.Turns.{Course, LetsNextIn, Moment, Scene, TakesCourse, part_of_newcomer, parts_of}

-- ---- a turn that isn't short of memory

abbrev IsWhole : WorkerTurn → Type 0
IsWhole p = p ≢ OutOfMemory

parts_are_whole : (m : Moment) (c : Course) (old new : Scene) (result : WorkerTurn) → TakesCourse m c old new result → result ≢ OutOfMemory
    → All IsWhole (parts_of c)
parts_are_whole m c old new result takes whole = whole_all (parts_of c) (λ e. whole (takes.answer ∙ e))

taken_whole : (came : Made) → part_of_take came ≢ OutOfMemory → was_made came ≡ true
taken_whole (made.Chan answer) whole = refl
taken_whole (made.User answer) whole = refl
taken_whole made.Memory whole = absurd (whole refl)

takes_whole : (xs : List Asked) → All IsWhole (map (λ x. part_of_take x.came) xs) → All (λ x. was_made x.came ≡ true) xs
takes_whole [] whole = All-nil (λ x. was_made x.came ≡ true)
takes_whole (x ∷ xs) whole =
    let parts = map (λ (x : Asked). part_of_take x.came) xs in
    All-cons (λ x. was_made x.came ≡ true) x xs (taken_whole x.came (All-head IsWhole (part_of_take x.came) parts whole))
    (takes_whole xs (All-tail IsWhole (part_of_take x.came) parts whole))

pub each_shard_is_taken : EachShardIsTaken
each_shard_is_taken m c old new result takes whole = (
  in_turn_map IsMade (λ x. x.ask) (λ x y a b is. is.same) (each_take old.desk) c.takes old.desk c.desk_taken takes.takes,
  takes_whole c.takes (all_left IsWhole (map (λ (x : Asked). part_of_take x.came) c.takes) _ (parts_are_whole m c old new result takes whole)),
)

gone_whole : (peer : Peer) (r : Result ⊤ Memory) → (if is_ok r then Moved else OutOfMemory) ≢ OutOfMemory → (if is_ok r then [] else peer ∷ []) ≡ []
gone_whole peer (Ok t) whole = refl
gone_whole peer (Err e) whole = absurd (whole refl)

none_leaves : (ls : List Left) → All IsWhole (map part_of_left ls) → still_leaving ls ≡ []
none_leaves [] whole = refl
none_leaves (l ∷ ls) whole =
    ap (λ xs. xs ++ still_leaving ls) (gone_whole l.peer l.result (All-head IsWhole (part_of_left l) (map part_of_left ls) whole))
    ∙ none_leaves ls (All-tail IsWhole (part_of_left l) (map part_of_left ls) whole)

pub leavers_are_gone : LeaversAreGone
leavers_are_gone m c old new result takes whole =
    let lefts = map part_of_left c.lefts in
    let whole_lefts = all_left IsWhole lefts _ (all_right IsWhole (map (λ (x : Asked). part_of_take x.came) c.takes) _ (parts_are_whole m c old new result takes whole)) in
    ap (λ x. x.leaving) takes.clients ∙ ap (λ xs. xs ++ leavers c.turns) (none_leaves c.lefts whole_lefts)

turned_whole : (turns : List Turned) → All IsWhole (map (λ t. t.part) turns) → All (λ t. t.part ≢ OutOfMemory) turns
turned_whole [] whole = All-nil (λ t. t.part ≢ OutOfMemory)
turned_whole (t ∷ ts) whole =
    All-cons (λ t. t.part ≢ OutOfMemory) t ts (All-head IsWhole t.part (map (λ (u : Turned). u.part) ts) whole)
    (turned_whole ts (All-tail IsWhole t.part (map (λ (u : Turned). u.part) ts) whole))

pub upgrades_are_made : UpgradesAreMade
upgrades_are_made m c old new result takes whole =
    let takes_parts = map (λ (x : Asked). part_of_take x.came) c.takes in
    let lefts = map part_of_left c.lefts in
    let turned = map (λ (t : Turned). t.part) c.turns in
    let rest = all_right IsWhole lefts _ (all_right IsWhole takes_parts _ (parts_are_whole m c old new result takes whole)) in
    turned_whole c.turns (All-tail IsWhole (part_of_newcomer c.newcomer) turned rest)

-- ---- answers

pub memory_is_told : MemoryIsTold
memory_is_told m c old new result takes = (
  λ e. short_one (parts_of c) (sym takes.answer ∙ e),
  λ short. takes.answer ∙ one_short (parts_of c) short,
)

pub idle_is_told : IdleIsTold
idle_is_told m c old new result takes = (
  λ e. idle_all (parts_of c) (sym takes.answer ∙ e),
  λ all. takes.answer ∙ all_idle (parts_of c) all,
)

-- ---- arrivals

same_count : {A B : Type 0} (f : A → B) (o : Option A) → length (option_to_list (option_map f o)) ≡ length (option_to_list o)
same_count f None = refl
same_count f (Some a) = refl

same_list : {A : Type 0} (xs ys : List A) → Some xs ≡ Some ys → xs ≡ ys
same_list xs ys e = cc

module _ {L : Type 0} (told : L → LinkTold) where
  next_counts : (now : ℕ) (client : Option Client) (old new : ArrivalsTold L) (before after : List (Arrival L))
      → LetsNextIn told now client old new → old.left ≡ Some before → new.left ≡ Some after → length before ≡ length (option_to_list client) + length after
  next_counts now client old new before after h e f =
      let known = subst (λ l. Takes (Some before) l (option_to_list h.arrival)) f (subst (λ l. Takes l new.left (option_to_list h.arrival)) e h.left) in
      omega (arith, ap length known, length-append (option_to_list h.arrival) after, ap (λ o. length (option_to_list o)) h.is, same_count (newcomer told now) h.arrival)

  pub arrivals_are_let_in : ArrivalsAreLetIn told
  arrivals_are_let_in now true client old new before after h e f = next_counts now client old new before after h e f
  arrivals_are_let_in now false client old new before after (none, same) e f =
      omega (arith, ap (λ o. length (option_to_list o)) none, ap length (same_list before after (sym e ∙ sym (ap (λ a. a.left) same) ∙ f)))
