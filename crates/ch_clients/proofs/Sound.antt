-- What holds of all clients stays over frames, losses and newcomers.
use Rattle.std.proofs.Common.{◌≡◌, ◌≤◌, ◌+◌, ℕ, suc, true, false, cond, eqb, leb, List, [], ◌∷◌, length, ap, sym, subst, refl, arith, length-append}
use Rattle.std.specs.Prelude.{⊤, All, Result, Ok, Err, is_ok, if◌then◌else◌}
use Rattle.std.proofs.lemmas.Bool.{ltb-true}
use Rattle.std.proofs.lemmas.List.Elements.{All-cons, All-head, All-tail}
use Rattle.ch_base.specs.declared.frame.Frame.{Frame}
use Rattle.ch_base.specs.declared.frame.FrameFor.{FrameFor}
use Rattle.ch_base.specs.declared.memory.Memory.{Memory}
use Rattle.ch_clients.specs.declared.limits.TheConstants.{MOST_CLIENTS}
use Rattle.ch_clients.specs.Clients.{Client, ClientsView, Speech, Http, WebSocket, AreSound, MaySpeak, MayTurn, handed, handed_to, has_room, placed, with_frame}
use Rattle.ch_clients.specs.InTurn.{InTurn}
use Rattle.ch_clients.specs.Leaving.{Left, IsLeft, LosesEach, still_leaving, still_there}
use Rattle.ch_clients.specs.declared.answer.WorkerTurn.{WorkerTurn}
use Rattle.ch_config.specs.declared.config.Config.{Config}
use Rattle.ch_desk.specs.Views.{DeskView}
use Rattle.ch_live.specs.Peers.{IsPeerOver}
use Rattle.ch_live.specs.declared.peer.Peer.{Peer}
use Rattle.ch_live.specs.declared.peer.Peer.TheVariants.{Open, Refused}

-- ---- a frame

speaks_on : (config : Config) (frame : Frame) (speech : Speech) → MaySpeak config speech → MaySpeak config (handed frame speech)
speaks_on config frame (Http stage link) may = may
speaks_on config frame (WebSocket (Open c) wire) may = may
speaks_on config frame (WebSocket (Refused code) wire) may = may

all_handed_may : (config : Config) (clients : List Client) (f : FrameFor) → All (MayTurn config) clients → All (MayTurn config) (handed_to clients f)
all_handed_may config [] f all = all
all_handed_may config (c ∷ cs) f all =
    let here = All-head (MayTurn config) c cs all in
    let rest = All-tail (MayTurn config) c cs all in
    elim (eqb c.number f.socket) as (λ b. All (MayTurn config) (cond b (with_frame c f ∷ cs) (c ∷ handed_to cs f))) [
      | true ↦ All-cons (MayTurn config) (with_frame c f) cs (speaks_on config f.frame c.speech here) rest
      | false ↦ All-cons (MayTurn config) c (handed_to cs f) here (all_handed_may config cs f rest)
    ]

pub length_handed : (clients : List Client) (f : FrameFor) → length (handed_to clients f) ≡ length clients
length_handed [] f = refl
length_handed (c ∷ cs) f = elim (eqb c.number f.socket) as (λ b. length (cond b (with_frame c f ∷ cs) (c ∷ handed_to cs f)) ≡ suc (length cs)) [
  | true ↦ refl
  | false ↦ ap suc (length_handed cs f)
]

pub sound_handed : (c : ClientsView) (f : FrameFor) (connected : List Client) → connected ≡ handed_to c.connected f → AreSound c → AreSound (record c { connected = connected })
sound_handed c f connected is sound = record {
  config = sound.config;
  room = omega (arith, sound.room, ap length is, length_handed c.connected f);
  clients = subst (All (MayTurn c.config)) (sym is) (all_handed_may c.config c.connected f sound.clients);
  leaving = sound.leaving;
}

-- ---- losses

module _ {A B S : Type 0} (P : A → B → S → S → Type 0) where
  pub in_turn_length : (xs : List A) (ys : List B) (a c : S) → InTurn P xs ys a c → length ys ≡ length xs
  in_turn_length [] [] a c same = refl
  in_turn_length (x ∷ xs) (y ∷ ys) a c (b, here, rest) = ap suc (in_turn_length xs ys b c rest)
  in_turn_length [] (y ∷ ys) a c never = absurd never
  in_turn_length (x ∷ xs) [] a c never = absurd never

one_there : (peer : Peer) (r : Result ⊤ Memory) → length (if is_ok r then [] else peer ∷ []) ≤ 1
one_there peer (Ok u) = omega arith
one_there peer (Err m) = omega arith

fewer_leave : (lefts : List Left) → length (still_leaving lefts) ≤ length lefts
fewer_leave [] = omega arith
fewer_leave (l ∷ ls) = omega (arith, length-append (still_there l) (still_leaving ls), one_there l.peer l.result, fewer_leave ls)

pub sound_lost : (c : ClientsView) (now : ℕ) (lefts : List Left) (leaving : List Peer) (a b : DeskView) (part : WorkerTurn)
    → LosesEach now lefts c.leaving leaving a b part → All (IsPeerOver c.config) leaving → AreSound c → AreSound (record c { leaving = leaving })
sound_lost c now lefts leaving a b part loses over sound = record {
  config = sound.config;
  room = omega (arith, sound.room, ap length loses.stay, fewer_leave lefts, in_turn_length (IsLeft now) c.leaving lefts a b loses.each);
  clients = sound.clients;
  leaving = over;
}

-- ---- a newcomer

all_placed : (P : Client → Type 0) (client : Client) (clients : List Client) → P client → All P clients → All P (placed client clients)
all_placed P client [] here all = All-cons P client [] here all
all_placed P client (c ∷ cs) here all =
    elim (leb c.number client.number) as (λ b. All P (cond b (c ∷ placed client cs) (client ∷ c ∷ cs))) [
      | true ↦ All-cons P c (placed client cs) (All-head P c cs all) (all_placed P client cs here (All-tail P c cs all))
      | false ↦ All-cons P client (c ∷ cs) here all
    ]

pub length_placed : (client : Client) (clients : List Client) → length (placed client clients) ≡ suc (length clients)
length_placed client [] = refl
length_placed client (c ∷ cs) = elim (leb c.number client.number) as (λ b. length (cond b (c ∷ placed client cs) (client ∷ c ∷ cs)) ≡ suc (suc (length cs))) [
  | true ↦ ap suc (length_placed client cs)
  | false ↦ refl
]

pub sound_placed : (c : ClientsView) (client : Client) (connected : List Client) → connected ≡ placed client c.connected → has_room c ≡ true → MayTurn c.config client → AreSound c
    → AreSound (record c { connected = connected })
sound_placed c client connected is room may sound = record {
  config = sound.config;
  room = omega (arith, ltb-true (length c.connected + length c.leaving) MOST_CLIENTS room, ap length is, length_placed client c.connected);
  clients = subst (All (MayTurn c.config)) (sym is) (all_placed (MayTurn c.config) client c.connected may sound.clients);
  leaving = sound.leaving;
}
