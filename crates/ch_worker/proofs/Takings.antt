-- The Takes of a turn.
use Rattle.std.proofs.Common.{◌≡◌, ◌+◌, ℕ, zero-add, List, [], ◌∷◌, ◌++◌, map, refl, ap, ◌∙◌, sym, subst, append-nil}
use Rattle.std.specs.Prelude.{Some, None}
use Rattle.std.specs.List.{range_with_len}
use Rattle.std.proofs.lemmas.List.{map-append}
use Rattle.std.proofs.lemmas.List.Concat.{flat_map-append}
use Rattle.std.proofs.lemmas.List.FromFn.{map-range_with_len_more}
use Rattle.std.proofs.lemmas.List.Sums.{fold-append}
use Rattle.ch_base.specs.declared.channel.ChanAnswer.TheVariants as chan_answer
use Rattle.ch_base.specs.declared.channel.ChanCall.TheVariants as chan_call
use Rattle.ch_base.specs.declared.frame.FrameFor.{FrameFor}
use Rattle.ch_base.specs.declared.user.UserAnswer.TheVariants as user_answer
use Rattle.ch_base.specs.declared.user.UserCall.TheVariants as user_call
use Rattle.ch_clients.specs.Answers.{stronger, strongest}
use Rattle.ch_clients.specs.Clients.{Client, ClientsView, handed_to, all_handed}
use Rattle.ch_clients.specs.declared.answer.WorkerTurn.{WorkerTurn}
use Rattle.ch_clients.specs.declared.answer.WorkerTurn.TheVariants.{Idle, Memory}
use Rattle.ch_clients.proofs.InTurns.{in_turn_one, in_turn_then}
use Rattle.ch_clients.proofs.Parts.{strongest_append, strongest_one}
use Rattle.ch_desk.specs.Views.{DeskView, IsSameDesk}
use Rattle.ch_protocol.specs.Asks.{Asked, ComesOf}
use Rattle.ch_protocol.specs.declared.ask.Ask.{Ask}
use Rattle.ch_protocol.specs.declared.ask.Ask.TheVariants.{Chan, User}
use Rattle.ch_protocol.specs.declared.ask.Made.{Made}
use Rattle.ch_protocol.specs.declared.ask.Made.TheVariants as made
use Rattle.ch_worker.specs.Taking.{IsMade, user_takes, frames_in, frames_of, any_frames, part_of_take}
use Rattle.ch_worker.specs.Takes.{IsTake, IsTakeAnswer, TakesOne, TakesEach, taken_frames}

-- ---- one Take

-- where there was memory, the frames that were taken are those of the answer
pub taken_are : (came : Made) (frames : List FrameFor) → taken_frames came ≡ Some frames → (frames ≡ frames_in came) × (part_of_take came ≡ any_frames frames)
taken_are (made.Chan answer) frames e = let same : frames_in (made.Chan answer) ≡ frames = (let h : Some (frames_in (made.Chan answer)) ≡ Some frames = e in cc) in (sym same, ap any_frames same)
taken_are (made.User answer) frames e = let same : frames_in (made.User answer) ≡ frames = (let h : Some (frames_in (made.User answer)) ≡ Some frames = e in cc) in (sym same, ap any_frames same)
taken_are made.Memory frames e = absurd (let wrong : None ≡ Some frames = e in cc)

pub none_taken : (came : Made) → taken_frames came ≡ None → (frames_in came ≡ []) × (part_of_take came ≡ Memory)
none_taken (made.Chan answer) e = absurd (let wrong : Some (frames_in (made.Chan answer)) ≡ None = e in cc)
none_taken (made.User answer) e = absurd (let wrong : Some (frames_in (made.User answer)) ≡ None = e in cc)
none_taken made.Memory e = (refl, refl)

-- ---- several

-- none yet
pub takes_begin : (c : ClientsView) (desk : DeskView) → TakesEach [] [] c c desk desk (strongest [])
takes_begin c desk = record { each = refl; handed = refl; answer = refl }

pub takes_one : (ask : Ask) (came : Asked) (c c_new : ClientsView) (old new : DeskView) (part : WorkerTurn) → TakesOne ask came c c_new old new part
    → TakesEach (ask ∷ []) (came ∷ []) c c_new old new part
takes_one ask came c c_new old new part h = record {
  each = in_turn_one IsMade ask came old new h.made;
  handed = h.handed ∙ ap (λ (fs : List FrameFor). let w : ClientsView = record c { connected = all_handed c.connected fs } in w) (sym (append-nil (frames_in came.came)));
  answer = h.answer ∙ sym (strongest_one (part_of_take came.came));
}

-- some and then others
pub takes_then : (asks more : List Ask) (takes others : List Asked) (c d e : ClientsView) (old mid new : DeskView) (p q : WorkerTurn)
    → TakesEach asks takes c d old mid p → TakesEach more others d e mid new q
    → TakesEach (asks ++ more) (takes ++ others) c e old new (stronger p q)
takes_then asks more takes others c d e old mid new p q h g = record {
  each = in_turn_then IsMade asks takes more others old mid new h.each g.each;
  handed = g.handed
      ∙ ap (λ (x : ClientsView). let w : ClientsView = record x { connected = all_handed x.connected (frames_of others) } in w) h.handed
      ∙ ap (λ (xs : List Client). let w : ClientsView = record c { connected = xs } in w)
      (sym (fold-append handed_to c.connected (frames_of takes) (frames_of others))
      ∙ ap (λ fs. all_handed c.connected fs) (sym (flat_map-append (λ (x : Asked). frames_in x.came) takes others)));
  answer = ap (λ x. stronger x q) h.answer ∙ ap (λ x. stronger (strongest (map (λ (x : Asked). part_of_take x.came) takes)) x) g.answer
      ∙ sym (ap strongest (map-append (λ (x : Asked). part_of_take x.came) takes others)
      ∙ strongest_append (map (λ (x : Asked). part_of_take x.came) takes) (map (λ (x : Asked). part_of_take x.came) others));
}

-- ---- one on each shard of a kind

-- the first n shards were taken from
pub record Taking (ask_of : ℕ → Ask) (n : ℕ) (c c_new : ClientsView) (old new : DeskView) (part : WorkerTurn) : Type 0 where
  pub takes : List Asked
  pub each : TakesEach (map ask_of (range_with_len 0 n)) takes c c_new old new part
  pub same : IsSameDesk old new

pub taking_begins : (ask_of : ℕ → Ask) (c : ClientsView) (desk : DeskView) → Taking ask_of 0 c c desk desk Idle
taking_begins ask_of c desk = record {
  takes = [];
  each = takes_begin c desk;
  same = record { caller = refl; house = refl; chan_shards = refl; user_shards = refl };
}

pub same_then : (a b c : DeskView) → IsSameDesk a b → IsSameDesk b c → IsSameDesk a c
same_then a b c p q = record {
  caller = q.caller ∙ p.caller;
  house = q.house ∙ p.house;
  chan_shards = q.chan_shards ∙ p.chan_shards;
  user_shards = q.user_shards ∙ p.user_shards;
}

pub taking_goes_on : (ask_of : ℕ → Ask) (n : ℕ) (c d e : ClientsView) (old mid new : DeskView) (p q : WorkerTurn) (came : Asked)
    → Taking ask_of n c d old mid p → TakesOne (ask_of n) came d e mid new q → Taking ask_of (n + 1) c e old new (stronger p q)
taking_goes_on ask_of n c d e old mid new p q came h one = record {
  takes = h.takes ++ came ∷ [];
  each = subst (λ asks. TakesEach asks (h.takes ++ came ∷ []) c e old new (stronger p q)) (sym (map-range_with_len_more ask_of 0 n n (zero-add n)))
      (takes_then (map ask_of (range_with_len 0 n)) (ask_of n ∷ []) h.takes (came ∷ []) c d e old mid new p q h.each (takes_one (ask_of n) came d e mid new q one));
  same = same_then old mid new h.same one.made.calls.same;
}

pub taking_ends : (ask_of : ℕ → Ask) (n m : ℕ) (c d : ClientsView) (old new : DeskView) (p : WorkerTurn) → Taking ask_of n c d old new p → n ≡ m
    → (takes : List Asked) × TakesEach (map ask_of (range_with_len 0 m)) takes c d old new p
taking_ends ask_of n m c d old new p h same =
    subst (λ k. (takes : List Asked) × TakesEach (map ask_of (range_with_len 0 k)) takes c d old new p) same (h.takes, h.each)

-- the user shards are those of before
pub users_same : (d e : DeskView) (takes : List Asked) (c c_new : ClientsView) (f : DeskView) (p : WorkerTurn) → IsSameDesk d e
    → TakesEach (user_takes e) takes c c_new e f p → TakesEach (user_takes d) takes c c_new e f p
users_same d e takes c c_new f p same h =
    subst (λ n. TakesEach (map (λ k. User k user_call.Take) (range_with_len 0 n)) takes c c_new e f p) same.user_shards h

-- a Take is answered with frames, or finds no memory
pub take_answers : (ask : Ask) (made : Made) → IsTake ask → ComesOf ask made → IsTakeAnswer made
take_answers ask made.Memory is comes = tt
take_answers (Chan shard chan_call.Take) (made.Chan (chan_answer.Frames frames)) is comes = tt
take_answers (Chan shard chan_call.Take) (made.Chan answer) is comes = absurd comes
take_answers (Chan shard chan_call.Take) (made.User answer) is comes = absurd comes
take_answers (User shard user_call.Take) (made.User (user_answer.Frames frames)) is comes = tt
take_answers (User shard user_call.Take) (made.User answer) is comes = absurd comes
take_answers (User shard user_call.Take) (made.Chan answer) is comes = absurd comes
take_answers (Chan shard call) made is comes = absurd is
take_answers (User shard call) made is comes = absurd is
