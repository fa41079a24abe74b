-- The steps of a worker's turn, put together.
use Rattle.std.proofs.Common.{◌≡◌, ◌<◌, ◌+◌, ◌^◌, ℕ, Bool, true, min, ltb, List, [], ◌∷◌, ◌++◌, length, map, ap, sym, subst, refl, ◌∙◌}
use Rattle.std.specs.Prelude.{Some}
use Rattle.std.specs.List.{flat_map}
use Rattle.std.specs.Option.{option_to_list}
use Rattle.ch_base.specs.declared.frame.FrameFor.{FrameFor}
use Rattle.ch_clients.specs.declared.limits.TheConstants.{MOST_CLIENTS}
use Rattle.ch_clients.specs.Answers.{stronger, strongest}
use Rattle.ch_clients.specs.Clients.{Client, ClientsView, Speech, Http, WebSocket, handed_to, all_handed, has_room, newcomer, placed}
use Rattle.ch_clients.specs.InTurn.{InTurn}
use Rattle.ch_clients.specs.Leaving.{Left, IsLeft, LosesEach, still_leaving, part_of_left}
use Rattle.ch_clients.specs.Serving.{Setting, Turned, IsServed, ServesEach, SpeaksInTurn, setting_of}
use Rattle.ch_clients.specs.declared.answer.WorkerTurn.{WorkerTurn}
use Rattle.ch_clients.proofs.Losing.{loses_makes}
use Rattle.ch_clients.proofs.Parts.{strongest_four}
use Rattle.ch_clients.proofs.Sound.{length_handed}
use Rattle.ch_config.specs.declared.config.Config.{Config}
use Rattle.ch_desk.proofs.OwnEntries.{Makes-none, Makes-then}
use Rattle.ch_desk.specs.OwnEntries.{Makes}
use Rattle.ch_desk.specs.Views.{DeskView}
use Rattle.ch_io.specs.Counts.{raised}
use Rattle.ch_live.specs.Courses.{Course as LiveCourse}
use Rattle.ch_live.specs.Turns.{IsTurn}
use Rattle.ch_live.specs.declared.peer.Peer.{Peer}
use Rattle.ch_live.specs.declared.peer.Peer.TheVariants.{Open, Refused}
use Rattle.ch_live.specs.declared.turn.Turn.{Turn}
use Rattle.ch_io.specs.Known.{Takes}
use Rattle.ch_net.specs.Arriving.{ArrivalsTold}
use Rattle.ch_net.specs.Links.{LinkTold}
use Rattle.ch_net.specs.Wires.{WireTold}
use Rattle.ch_net.specs.declared.arrivals.Arrival.{Arrival}
use Rattle.ch_protocol.specs.Asks.{Asked}
use Rattle.ch_worker.proofs.Counts.{one_more}
use Rattle.ch_worker.specs.Takes.{TakesEach}
use Rattle.ch_worker.specs.Taking.{IsMade, each_take, frames_of, part_of_take}
use Rattle.ch_worker.specs.Turns.{Course, LetsClientIn, LetsIn, Moment, TakesCourse, after_frames, calls_of, part_of_newcomer, room_left, served, setting_at, with_newcomer}
use Rattle.ch_worker.specs.Workers.{WorkerView}

-- ---- each makes its calls, so all make them in their order

module _ {A B : Type 0} (P : A → B → DeskView → DeskView → Type 0) where
  in_turn_makes : (asked : B → List Asked) → ((x : A) (y : B) (a b : DeskView) → P x y a b → Makes (asked y) a b)
      → (xs : List A) (ys : List B) (a c : DeskView) → InTurn P xs ys a c → Makes (flat_map asked ys) a c
  in_turn_makes asked one [] [] a c same = subst (Makes [] a) (sym same) (Makes-none a)
  in_turn_makes asked one (x ∷ xs) (y ∷ ys) a c (b, here, rest) =
      Makes-then (asked y) (flat_map asked ys) a b c (one x y a b here) (in_turn_makes asked one xs ys b c rest)
  in_turn_makes asked one [] (y ∷ ys) a c never = absurd never
  in_turn_makes asked one (x ∷ xs) [] a c never = absurd never

-- ---- each step makes its calls

live_makes : (config : Config) (now : ℕ) (c : LiveCourse) (p q : Peer) (w v : WireTold) (a b : DeskView) (r : Turn) → IsTurn config now c p q w v a b r → Makes c.asked a b
live_makes config now c (Open x) (Open y) w v a b r takes = takes.calls
live_makes config now c (Refused code) (Refused same) w v a b r (e, away) = away.calls
live_makes config now c (Open x) (Refused same) w v a b r never = absurd never
live_makes config now c (Refused code) (Open y) w v a b r never = absurd never

speech_makes : (s : Setting) (number : ℕ) (speech : Speech) (t : Turned) (a b : DeskView) → SpeaksInTurn s number speech t a b → Makes t.asked a b
speech_makes s number (Http stage link) t a b h = subst (λ xs. Makes xs a b) (sym h.asked) h.turn.calls
speech_makes s number (WebSocket peer wire) t a b h =
    subst (λ xs. Makes xs a b) (sym h.asked) (live_makes s.config s.now h.course peer h.peer_new wire h.wire_new a b h.result h.turn)

pub serving_makes : (s : Setting) (x : Client) (t : Turned) (a b : DeskView) → IsServed s x t a b → Makes t.asked a b
serving_makes s x t a b h = speech_makes s x.number x.speech t a b h

pub leaving_makes : (now : ℕ) (p : Peer) (l : Left) (a b : DeskView) → IsLeft now p l a b → Makes l.asked a b
leaving_makes now p l a b h = loses_makes now l.asked p l.peer a b l.result h.loses

-- ---- the whole turn

each_alone : (xs : List Asked) → flat_map (λ x. x ∷ []) xs ≡ xs
each_alone [] = refl
each_alone (x ∷ xs) = ap (λ ys. x ∷ ys) (each_alone xs)

-- the calls of the three passes
calls_are : (m : Moment) (c : Course) (w : WorkerView) (old new : DeskView)
    → InTurn IsMade (each_take old) c.takes old c.desk_taken
    → InTurn (IsLeft m.now) w.clients.leaving c.lefts c.desk_taken c.desk_lost
    → InTurn (IsServed (setting_at w m)) (served c w) c.turns c.desk_lost new
    → Makes (calls_of c) old new
calls_are m c w old new takes losses turns =
    Makes-then c.takes (flat_map (λ l. l.asked) c.lefts ++ flat_map (λ t. t.asked) c.turns) old c.desk_taken new
    (subst (λ xs. Makes xs old c.desk_taken) (each_alone c.takes)
    (in_turn_makes IsMade (λ x. x ∷ []) (λ x y a b is. is.calls) (each_take old) c.takes old c.desk_taken takes))
    (Makes-then (flat_map (λ l. l.asked) c.lefts) (flat_map (λ t. t.asked) c.turns) c.desk_taken c.desk_lost new
    (in_turn_makes (IsLeft m.now) (λ l. l.asked) (leaving_makes m.now) w.clients.leaving c.lefts c.desk_taken c.desk_lost losses)
    (in_turn_makes (IsServed (setting_at w m)) (λ t. t.asked) (serving_makes (setting_at w m)) (served c w) c.turns c.desk_lost new turns))

-- those who are there once the losses are made
lost_is : (c : Course) (w : WorkerView) (taken lost : ClientsView)
    → taken ≡ record w.clients { connected = after_frames c w } → lost ≡ record taken { leaving = lost.leaving } → lost.leaving ≡ still_leaving c.lefts
    → lost ≡ record w.clients { connected = after_frames c w; leaving = still_leaving c.lefts }
lost_is c w taken lost handed losing left =
    losing ∙ ap (λ (x : ClientsView). let y : ClientsView = record x { leaving = lost.leaving } in y) handed
    ∙ ap (λ (xs : List Peer). let y : ClientsView = record w.clients { connected = after_frames c w; leaving = xs } in y) left

-- the clients that have a turn
clients_served : (c : Course) (w : WorkerView) (taken lost let_in : ClientsView)
    → taken ≡ record w.clients { connected = after_frames c w } → lost ≡ record taken { leaving = lost.leaving } → lost.leaving ≡ still_leaving c.lefts
    → let_in ≡ record lost { connected = with_newcomer c.newcomer lost.connected }
    → let_in ≡ record w.clients { connected = served c w; leaving = still_leaving c.lefts }
clients_served c w taken lost let_in handed losing left coming =
    coming ∙ ap (λ (x : ClientsView). let y : ClientsView = record x { connected = with_newcomer c.newcomer x.connected } in y) (lost_is c w taken lost handed losing left)

pub turn_takes : (m : Moment) (c : Course) (old new : WorkerView) (desk desk_new : DeskView) (taken lost let_in : ClientsView) (p q r s result : WorkerTurn)
    → TakesEach (each_take desk) c.takes old.clients taken desk c.desk_taken p
    → LosesEach m.now c.lefts taken.leaving lost.leaving c.desk_taken c.desk_lost q → lost ≡ record taken { leaving = lost.leaving }
    → let_in ≡ record lost { connected = with_newcomer c.newcomer lost.connected } → r ≡ part_of_newcomer c.newcomer
    → ServesEach (setting_of let_in m.now m.messages) c.turns let_in new.clients c.desk_lost desk_new s
    → new.turns ≡ raised old.turns 1 → new.taken ≡ raised old.taken (length (option_to_list c.newcomer))
    → result ≡ stronger (stronger (stronger p q) r) s
    → TakesCourse m c (record { worker = old; desk = desk }) (record { worker = new; desk = desk_new }) result
turn_takes m c old new desk desk_new taken lost let_in p q r s result takes loses losing coming came serves turns counted answer =
    let all = clients_served c old taken lost let_in takes.handed losing loses.stay coming in
    let serving = subst (λ x. ServesEach (setting_of x m.now m.messages) c.turns x new.clients c.desk_lost desk_new s) all serves in
    let losses = subst (λ x. InTurn (IsLeft m.now) x.leaving c.lefts c.desk_taken c.desk_lost) takes.handed loses.each in
    record {
      takes = takes.each;
      losses = losses;
      turns = serving.each;
      ascending = serving.ascending;
      calls = calls_are m c old desk desk_new takes.each losses serving.each;
      clients = serving.clients;
      turn = turns;
      taken = counted;
      answer = answer
          ∙ ap (λ x. stronger (stronger (stronger x q) r) s) takes.answer
          ∙ ap (λ x. stronger (stronger (stronger (strongest (map (λ (x : Asked). part_of_take x.came) c.takes)) x) r) s) loses.answer
          ∙ ap (λ x. stronger (stronger (stronger (strongest (map (λ (x : Asked). part_of_take x.came) c.takes)) (strongest (map part_of_left c.lefts))) x) s) came
          ∙ ap (λ x. stronger (stronger (stronger (strongest (map (λ (x : Asked). part_of_take x.came) c.takes)) (strongest (map part_of_left c.lefts))) (part_of_newcomer c.newcomer)) x) serving.answer
          ∙ strongest_four (map (λ (x : Asked). part_of_take x.came) c.takes) (map part_of_left c.lefts) (map (λ (t : Turned). t.part) c.turns) (part_of_newcomer c.newcomer);
    }

-- ---- room

pub length_all_handed : (clients : List Client) (fs : List FrameFor) → length (all_handed clients fs) ≡ length clients
length_all_handed clients [] = refl
length_all_handed clients (f ∷ fs) = length_all_handed (handed_to clients f) fs ∙ length_handed clients f

-- the room that is left once those who are gone are gone
pub room_is : (c : Course) (w : WorkerView) (taken lost : ClientsView)
    → taken ≡ record w.clients { connected = after_frames c w } → lost ≡ record taken { leaving = lost.leaving } → lost.leaving ≡ still_leaving c.lefts
    → has_room lost ≡ room_left c w
room_is c w taken lost handed losing left =
    ap has_room (lost_is c w taken lost handed losing left)
    ∙ ap (λ n. ltb (n + length (still_leaving c.lefts)) MOST_CLIENTS) (length_all_handed w.clients.connected (frames_of c.takes))

-- ---- a newcomer

pub lets_one_in : (client : Client) (old new : WorkerView) (n : ℕ) → old.taken < 2 ^ 64 → n ≡ min (old.taken + 1) 18446744073709551615
    → new ≡ record { clients = record old.clients { connected = placed client old.clients.connected }; turns = old.turns; taken = n }
    → LetsClientIn (Some client) old new
lets_one_in client old new n small is same = record {
  clients = ap (λ w. w.clients) same;
  turns = ap (λ w. w.turns) same;
  taken = ap (λ w. w.taken) same ∙ one_more old.taken n small is;
}

module _ {L : Type 0} where
  pub comes_in : (told : L → LinkTold) (now : ℕ) (room : Bool) (a : Arrival L) (client : Client) (old new : ArrivalsTold L) → room ≡ true → client ≡ newcomer told now a
      → Takes old.left new.left (a ∷ []) → LetsIn told now room (Some client) old new
  comes_in told now room a client old new there is left =
      subst (λ b. LetsIn told now b (Some client) old new) (sym there) (record { arrival = Some a; is = ap Some is; left = left; cause = tt })
