-- The clients' turns, one after another.
use Rattle.std.proofs.Common.{◌≡◌, ◌≤◌, ◌<◌, ◌+◌, ◌-◌, ℕ, List, [], ◌∷◌, ◌++◌, length, ap, sym, subst, ◌∙◌, arith, append_assoc, append-nil, length-append}
use Rattle.std.specs.Prelude.{All}
use Rattle.std.specs.List.{flat_map}
use Rattle.std.proofs.lemmas.List.Concat.{flat_map-append}
use Rattle.std.proofs.lemmas.Option.{slice_get_within}
use Rattle.ch_clients.proofs.Passing.{pass_begins, pass_goes_on, pass_ends, pass_falls}
use Rattle.ch_clients.proofs.Placing.{length_replaced}
use Rattle.ch_clients.specs.Answers.{stronger}
use Rattle.ch_clients.specs.Clients.{Client, ClientsView, AreAscending, MayTurn}
use Rattle.ch_clients.specs.declared.limits.TheConstants.{MOST_CLIENTS}
use Rattle.ch_clients.specs.Passes.{HasTurn, HasPassed}
use Rattle.ch_clients.specs.Serving.{Setting, Turned, Fate, Stays, Leaves, Dropped, IsServed, ServesEach, client_of, leaver_of, leavers}
use Rattle.ch_clients.specs.declared.answer.WorkerTurn.{WorkerTurn}
use Rattle.ch_clients.specs.declared.answer.WorkerTurn.TheVariants.{Idle}
use Rattle.ch_clients.specs.declared.next.Next.{Next}
use Rattle.ch_desk.specs.Views.{DeskView, IsDeskOf}
use Rattle.ch_live.specs.Peers.{IsPeerOver}
use Rattle.ch_live.specs.declared.peer.Peer.{Peer}

abbrev pub kept_of : Turned → List Client
kept_of t = client_of t.fate

abbrev pub part_of : Turned → WorkerTurn
part_of t = t.part

-- how the lists are before a turn, or after it
pub record Lists : Type 0 where
  pub connected : List Client
  pub leaving : List Peer

-- how far the turns are
pub record Serving (s : Setting) (old lists : Lists) (before desk : DeskView) (place : ℕ) (part : WorkerTurn) : Type 0 where
  pub turns : List Turned
  pub passed : HasPassed (IsServed s) kept_of part_of old.connected lists.connected before desk turns place part
  pub left : lists.leaving ≡ old.leaving ++ leavers turns
  pub may : All (MayTurn s.config) lists.connected
  pub over : All (IsPeerOver s.config) lists.leaving
  pub room : length lists.connected + length lists.leaving ≤ MOST_CLIENTS
  pub shards : IsDeskOf s.config desk

pub turns_begin : (s : Setting) (lists : Lists) (desk : DeskView) → All (MayTurn s.config) lists.connected → All (IsPeerOver s.config) lists.leaving
    → length lists.connected + length lists.leaving ≤ MOST_CLIENTS → IsDeskOf s.config desk → Serving s lists lists desk desk 0 Idle
turns_begin s lists desk may over room shards = record {
  turns = [];
  passed = pass_begins (IsServed s) kept_of part_of lists.connected desk;
  left = sym (append-nil lists.leaving);
  may = may;
  over = over;
  room = room;
  shards = shards;
}

-- a client stays or leaves, but not both
one_fate : (fate : Fate) → length (client_of fate) + length (leaver_of fate) ≤ 1
one_fate (Stays client) = omega arith
one_fate (Leaves peer) = omega arith
one_fate Dropped = omega arith

pub turns_go_on : (s : Setting) (old lists lists_new : Lists) (before desk desk_new : DeskView) (place : ℕ) (part : WorkerTurn) (t : Turned) (next : Next)
    → Serving s old lists before desk place part
    → HasTurn (IsServed s) kept_of part_of place lists.connected lists_new.connected desk desk_new t next
    → lists_new.leaving ≡ lists.leaving ++ leaver_of t.fate
    → All (MayTurn s.config) lists_new.connected → All (IsPeerOver s.config) lists_new.leaving → IsDeskOf s.config desk_new
    → Serving s old lists_new before desk_new next.place (stronger part next.part)
turns_go_on s old lists lists_new before desk desk_new place part t next h had left may over shards =
    let inside = slice_get_within lists.connected place had.x had.there in
    let sizes = length_replaced lists.connected place (kept_of t) inside in
    record {
      turns = h.turns ++ t ∷ [];
      passed = pass_goes_on (IsServed s) kept_of part_of old.connected lists.connected lists_new.connected before desk desk_new h.turns place part t next h.passed had;
      left = left ∙ ap (λ xs. xs ++ leaver_of t.fate) h.left ∙ append_assoc old.leaving (leavers h.turns) (leaver_of t.fate)
          ∙ ap (λ xs. old.leaving ++ xs) (sym (flat_map-append (λ (u : Turned). leaver_of u.fate) h.turns (t ∷ []) ∙ ap (λ xs. leavers h.turns ++ xs) (append-nil (leaver_of t.fate))));
      may = may;
      over = over;
      room = omega (arith, h.room, ap length left, length-append lists.leaving (leaver_of t.fate), ap length had.replaced, sizes, one_fate t.fate);
      shards = shards;
    }

pub turns_fall : (s : Setting) (old lists lists_new : Lists) (before desk desk_new : DeskView) (place : ℕ) (part : WorkerTurn) (t : Turned) (next : Next)
    → Serving s old lists before desk place part
    → HasTurn (IsServed s) kept_of part_of place lists.connected lists_new.connected desk desk_new t next
    → length lists_new.connected - next.place < length lists.connected - place
turns_fall s old lists lists_new before desk desk_new place part t next h had =
    pass_falls (IsServed s) kept_of part_of old.connected lists.connected lists_new.connected before desk desk_new h.turns place part t next h.passed had

pub turns_end : (s : Setting) (c c_new : ClientsView) (lists : Lists) (before desk : DeskView) (place : ℕ) (part : WorkerTurn)
    → Serving s (record { connected = c.connected; leaving = c.leaving }) lists before desk place part → length lists.connected ≤ place → AreAscending c.connected
    → c_new ≡ record c { connected = lists.connected; leaving = lists.leaving }
    → (turns : List Turned) × ServesEach s turns c c_new before desk part
turns_end s c c_new lists before desk place part h over ascending is =
    let e = pass_ends (IsServed s) kept_of part_of c.connected lists.connected before desk h.turns place part h.passed over in (
      h.turns,
      record {
        each = e.0;
        ascending = ascending;
        clients = is ∙ ap (λ xs. record c { connected = xs; leaving = lists.leaving }) e.1 ∙ ap (λ xs. record c { connected = flat_map kept_of h.turns; leaving = xs }) h.left;
        answer = e.2;
      },
    )

-- the same with a setting that is told otherwise
pub turns_go_on_in : (s u : Setting) → u ≡ s → (old lists lists_new : Lists) (before desk desk_new : DeskView) (place : ℕ) (part : WorkerTurn) (t : Turned) (next : Next)
    → Serving s old lists before desk place part
    → HasTurn (IsServed u) kept_of part_of place lists.connected lists_new.connected desk desk_new t next
    → lists_new.leaving ≡ lists.leaving ++ leaver_of t.fate
    → All (MayTurn u.config) lists_new.connected → All (IsPeerOver u.config) lists_new.leaving → IsDeskOf u.config desk_new
    → Serving s old lists_new before desk_new next.place (stronger part next.part)
turns_go_on_in s u same old lists lists_new before desk desk_new place part t next h had left may over shards =
    turns_go_on s old lists lists_new before desk desk_new place part t next h
    (subst (λ v. HasTurn (IsServed v) kept_of part_of place lists.connected lists_new.connected desk desk_new t next) same had) left
    (subst (λ v. All (MayTurn v.config) lists_new.connected) same may) (subst (λ v. All (IsPeerOver v.config) lists_new.leaving) same over)
    (subst (λ v. IsDeskOf v.config desk_new) same shards)

pub turns_fall_in : (s u : Setting) → u ≡ s → (old lists lists_new : Lists) (before desk desk_new : DeskView) (place : ℕ) (part : WorkerTurn) (t : Turned) (next : Next)
    → Serving s old lists before desk place part
    → HasTurn (IsServed u) kept_of part_of place lists.connected lists_new.connected desk desk_new t next
    → length lists_new.connected - next.place < length lists.connected - place
turns_fall_in s u same old lists lists_new before desk desk_new place part t next h had =
    turns_fall s old lists lists_new before desk desk_new place part t next h
    (subst (λ v. HasTurn (IsServed v) kept_of part_of place lists.connected lists_new.connected desk desk_new t next) same had)
