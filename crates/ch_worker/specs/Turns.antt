-- One turn of a worker.
use Rattle.std.specs.Prelude.{◌≡◌, ◌+◌, ℕ, Bool, nat_lt, List, ◌∷◌, ◌++◌, length, map, Option, Some, None, MatchBool}
use Rattle.std.specs.List.{flat_map}
use Rattle.std.specs.Option.{option_map, option_to_list}
use Rattle.ch_clients.specs.Answers.{strongest}
use Rattle.ch_clients.specs.Clients.{Client, AreAscending, all_handed, newcomer, placed}
use Rattle.ch_clients.specs.declared.limits.TheConstants.{MOST_CLIENTS}
use Rattle.ch_clients.specs.InTurn.{InTurn}
use Rattle.ch_clients.specs.Leaving.{Left, IsLeft, still_leaving, part_of_left}
use Rattle.ch_clients.specs.Serving.{Setting, Turned, IsServed, staying, leavers, setting_of}
use Rattle.ch_clients.specs.declared.answer.WorkerTurn.{WorkerTurn}
use Rattle.ch_clients.specs.declared.answer.WorkerTurn.TheVariants.{Idle, Moved}
use Rattle.ch_desk.specs.OwnEntries.{Makes}
use Rattle.ch_desk.specs.Views.{DeskView}
use Rattle.ch_io.specs.Counts.{raised}
use Rattle.ch_io.specs.Known.{Takes}
use Rattle.ch_net.specs.Arriving.{ArrivalsTold, NoneHasCause}
use Rattle.ch_net.specs.Links.{LinkTold}
use Rattle.ch_net.specs.declared.arrivals.Arrival.{Arrival}
use Rattle.ch_net.specs.declared.wire.Message.{Message}
use Rattle.ch_protocol.specs.Asks.{Asked}
use Rattle.ch_worker.specs.Taking.{each_take, IsMade, frames_of, part_of_take}
use Rattle.ch_worker.specs.Workers.{WorkerView}

-- What happens in a turn: the Take on each shard, with what came of it; what a visit to each of those who leave comes to; the client
-- that is let in, if one is; how the turn of each client goes; and the desk after the Takes and after the losses.
pub record Course : Type 0 where
  pub takes : List Asked
  pub lefts : List Left
  pub newcomer : Option Client
  pub turns : List Turned
  pub desk_taken : DeskView
  pub desk_lost : DeskView

-- ---- the calls

-- the calls of the caller: the Takes, the losses, and then the asks of the clients, in order
abbrev pub calls_of : Course → List Asked
calls_of c = c.takes ++ (flat_map (λ l. l.asked) c.lefts ++ flat_map (λ t. t.asked) c.turns)

-- ---- the clients

-- the clients once the frames that were taken are handed over
abbrev pub after_frames : Course → WorkerView → List Client
after_frames c w = all_handed w.clients.connected (frames_of c.takes)

-- the clients that have a turn: these, and the one that is let in
abbrev pub with_newcomer : Option Client → List Client → List Client
with_newcomer None clients = clients
with_newcomer (Some client) clients = placed client clients

abbrev pub served : Course → WorkerView → List Client
served c w = with_newcomer c.newcomer (after_frames c w)

-- whether there is room for one more client, with those who still leave
abbrev pub room_left : Course → WorkerView → Bool
room_left c w = nat_lt (length w.clients.connected + length (still_leaving c.lefts)) MOST_CLIENTS

-- ---- the answer

abbrev pub part_of_newcomer : Option Client → WorkerTurn
part_of_newcomer None = Idle
part_of_newcomer (Some client) = Moved

-- what each thing that is done comes to
abbrev pub parts_of : Course → List WorkerTurn
parts_of c =
    map (λ x. part_of_take x.came) c.takes ++ (map part_of_left c.lefts ++ part_of_newcomer c.newcomer ∷ map (λ t. t.part) c.turns)

-- ---- the turn

-- how a worker and its desk are before a turn, or after it
pub record Scene : Type 0 where
  pub worker : WorkerView
  pub desk : DeskView

-- the moment of a turn, and the messages behind a handshake's head where they are known
pub record Moment : Type 0 where
  pub now : ℕ
  pub messages : Option (List ℕ) → List ℕ → Option (List Message)

abbrev pub setting_at : WorkerView → Moment → Setting
setting_at w m = setting_of w.clients m.now m.messages

-- The turn of a worker at a moment takes this course, and has this answer.
pub record TakesCourse (m : Moment) (c : Course) (old new : Scene) (result : WorkerTurn) : Type 0 where
  -- one Take on each shard
  pub takes : InTurn IsMade (each_take old.desk) c.takes old.desk c.desk_taken
  -- then the losses of those who leave
  pub losses : InTurn (IsLeft m.now) old.worker.clients.leaving c.lefts c.desk_taken c.desk_lost
  -- then the turn of each client, ascending by number: of those that had a frame handed over, and of the one that is let in
  pub turns : InTurn (IsServed (setting_at old.worker m)) (served c old.worker) c.turns c.desk_lost new.desk
  pub ascending : AreAscending (served c old.worker)
  -- these are all calls of the caller, in this order
  pub calls : Makes (calls_of c) old.desk new.desk
  -- who is there afterwards; all else of the clients is as before
  pub clients : new.worker.clients ≡ record old.worker.clients {
    connected = staying c.turns;
    leaving = still_leaving c.lefts ++ leavers c.turns;
  }
  pub turn : new.worker.turns ≡ raised old.worker.turns 1
  pub taken : new.worker.taken ≡ raised old.worker.taken (length (option_to_list c.newcomer))
  pub answer : result ≡ strongest (parts_of c)

-- ---- arrivals

-- the client that is let in takes its place and is counted, if there is one
pub record LetsClientIn (client : Option Client) (old new : WorkerView) : Type 0 where
  pub clients : new.clients ≡ record old.clients { connected = with_newcomer client old.clients.connected }
  pub turns : new.turns ≡ old.turns
  pub taken : new.taken ≡ raised old.taken (length (option_to_list client))

module _ {L : Type 0} where
  -- the next connection is let in, or none was here
  pub record LetsNextIn (told : L → LinkTold) (now : ℕ) (client : Option Client) (old new : ArrivalsTold L) : Type 0 where
    pub arrival : Option (Arrival L)
    pub is : client ≡ option_map (newcomer told now) arrival
    pub left : Takes old.left new.left (option_to_list arrival)
    pub cause : NoneHasCause arrival old.blanks new.blanks

  -- where there is room, the next connection is let in; where there isn't, none is asked for
  abbrev pub LetsIn : (L → LinkTold) → ℕ → Bool → Option Client → ArrivalsTold L → ArrivalsTold L → Type 0
  LetsIn told now room client old new = MatchBool room (LetsNextIn told now client old new) ((client ≡ None) × (new ≡ old))
