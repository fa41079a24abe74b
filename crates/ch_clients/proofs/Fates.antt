-- What becomes of a client, and the lists then.
use Rattle.std.proofs.Common.{◌≡◌, ◌<◌, ◌≤◌, ◌+◌, ℕ, List, [], ◌∷◌, ◌++◌, length, ap, sym, subst, refl, ◌∙◌, arith, append-nil, add-zero}
use Rattle.std.specs.Prelude.{Some, slice_get, All}
use Rattle.std.specs.List.{insert, remove}
use Rattle.std.proofs.lemmas.List.Edits.{length-remove}
use Rattle.std.proofs.lemmas.List.Elements.{All-nil, All-cons}
use Rattle.ch_clients.proofs.Edits.{all_both}
use Rattle.ch_clients.proofs.Placing.{all_removed, all_replaced, at_place, one_there, put_back, removed, remove_set, replaced_one, replaced_same, replaced_set, set_there}
use Rattle.ch_clients.proofs.Rows.{set_ascends}
use Rattle.ch_clients.proofs.Serving.{kept_of, part_of}
use Rattle.ch_clients.proofs.Stepping.{step_serves}
use Rattle.ch_clients.specs.Clients.{Client, AreAscending, MayTurn, Speech, Http, WebSocket}
use Rattle.ch_clients.specs.declared.limits.TheConstants.{MOST_CLIENTS}
use Rattle.ch_clients.specs.Passes.{HasTurn, replaced}
use Rattle.ch_clients.specs.Serving.{Setting, Turned, Fate, Stays, Leaves, Dropped, IsServed, IsUpgraded, client_of, leaver_of}
use Rattle.ch_clients.specs.Steps.{Becomes, HasFate, IsFateOfEnd, IsFateOfHandshake, IsStepAt, MayFollow, MayGoOn}
use Rattle.ch_clients.specs.declared.client.Step.{Step}
use Rattle.ch_clients.specs.declared.client.Step.TheVariants as step
use Rattle.ch_clients.specs.declared.next.Next.{Next}
use Rattle.ch_clients.specs.declared.answer.WorkerTurn.{WorkerTurn}
use Rattle.ch_clients.specs.declared.answer.WorkerTurn.TheVariants.{Moved}
use Rattle.ch_config.specs.declared.config.Config.{Config}
use Rattle.ch_desk.specs.Views.{DeskView}
use Rattle.ch_exchange.specs.declared.stage.Stage.{Stage}
use Rattle.ch_live.specs.Peers.{IsPeerOver}
use Rattle.ch_live.specs.declared.peer.Peer.{Peer}
use Rattle.ch_net.specs.Links.{LinkTold}
use Rattle.ch_net.specs.Wires.{WireTold}

-- ---- it stays

pub stays_so : (clients : List Client) (leaving : List Peer) (place : ℕ) (client : Client) → place < length clients → slice_get clients place ≡ Some client
    → HasFate place (Stays client) clients clients leaving leaving (place + 1)
stays_so clients leaving place client lt there = record {
  keeps = replaced_same clients place client lt there;
  leaves = sym (append-nil leaving);
  follows = refl;
}

pub stays_may : (config : Config) (clients : List Client) (place : ℕ) (part : WorkerTurn) → place < length clients → MayGoOn config place (step.Stays part) clients
    → All (MayTurn config) clients
stays_may config clients place part lt may =
    let x = at_place clients place lt in
    subst (All (MayTurn config)) (sym (replaced_same clients place x.0 lt x.1))
    (all_replaced (MayTurn config) clients place (x.0 ∷ []) lt may.others (All-cons (MayTurn config) x.0 [] (may.follows x.0 x.1) (All-nil (MayTurn config))))

-- ---- it speaks WebSocket from now on

pub back_is : (clients left back : List Client) (place : ℕ) (made : Client) → place < length clients → left ≡ remove clients place → back ≡ insert left place made
    → back ≡ replaced place (made ∷ []) clients
back_is clients left back place made lt out is =
    is ∙ ap (λ xs. insert xs place made) out ∙ put_back clients place made lt ∙ replaced_one clients place made lt

pub upgrade_becomes : (s : Setting) (clients left back : List Client) (leaving : List Peer) (place : ℕ) (client taken made : Client) (number : ℕ) (target : List ℕ) (stage : Stage)
    (link : LinkTold) (peer : Peer) (wire : WireTold)
    → place < length clients → slice_get clients place ≡ Some client → slice_get clients place ≡ Some taken
    → Http stage link ≡ taken.speech → number ≡ taken.number → made ≡ record { number = number; speech = WebSocket peer wire }
    → IsUpgraded s number target stage link peer wire → left ≡ remove clients place → back ≡ insert left place made
    → (fate : Fate) × IsFateOfHandshake s client.number target client.speech Moved fate × HasFate place fate clients back leaving leaving (place + 1)
upgrade_becomes s clients left back leaving place client taken made number target stage link peer wire lt here there speaks named is upgraded out put =
    let same = one_there clients place taken client there here in
    let speech : Http stage link ≡ client.speech = speaks ∙ ap (λ c. c.speech) same in
    let numbered : number ≡ client.number = named ∙ ap (λ c. c.number) same in (
      Stays made,
      subst (λ sp. IsFateOfHandshake s client.number target sp Moved (Stays made)) speech (
        peer,
        wire,
        subst (λ n. IsUpgraded s n target stage link peer wire) numbered upgraded,
        ap Stays (is ∙ ap (λ n. record { number = n; speech = WebSocket peer wire }) numbered),
      ),
      record {
        keeps = back_is clients left back place made lt out put;
        leaves = sym (append-nil leaving);
        follows = refl;
      },
    )

pub upgrade_may : (config : Config) (clients left back : List Client) (place : ℕ) (made : Client) (number : ℕ) (peer : Peer) (wire : WireTold) (st : Step)
    → place < length clients → made ≡ record { number = number; speech = WebSocket peer wire } → left ≡ remove clients place → back ≡ insert left place made
    → IsPeerOver config peer → MayGoOn config place st clients → All (MayTurn config) back
upgrade_may config clients left back place made number peer wire st lt is out put over may =
    subst (All (MayTurn config)) (sym (back_is clients left back place made lt out put))
    (all_replaced (MayTurn config) clients place (made ∷ []) lt may.others
    (All-cons (MayTurn config) made [] (subst (MayTurn config) (sym is) over) (All-nil (MayTurn config))))

pub back_ascends : (clients left : List Client) (place : ℕ) (taken made : Client) → place < length clients → slice_get clients place ≡ Some taken
    → made.number ≡ taken.number → left ≡ remove clients place → AreAscending clients → AreAscending (insert left place made)
back_ascends clients left place taken made lt there same out ascending =
    subst AreAscending (sym (ap (λ xs. insert xs place made) out ∙ put_back clients place made lt)) (set_ascends clients place taken made there same ascending)

pub room_back : (clients left : List Client) (place : ℕ) → place < length clients → left ≡ remove clients place → length clients ≤ MOST_CLIENTS → length left < MOST_CLIENTS
room_back clients left place lt out room = omega (arith, ap length out, length-remove clients place lt, room, lt)

-- ---- it is gone

pub end_becomes : (clients left : List Client) (leaving leaving_new : List Peer) (place : ℕ) (client taken : Client) (speech : Speech) (fate : Fate)
    → place < length clients → slice_get clients place ≡ Some client → slice_get clients place ≡ Some taken → speech ≡ taken.speech → left ≡ remove clients place
    → IsFateOfEnd speech fate → client_of fate ≡ [] → leaving_new ≡ leaving ++ leaver_of fate
    → IsFateOfEnd client.speech fate × HasFate place fate clients left leaving leaving_new place
end_becomes clients left leaving leaving_new place client taken speech fate lt here there speaks out ends none left_is = (
  subst (λ sp. IsFateOfEnd sp fate) (speaks ∙ ap (λ c. c.speech) (one_there clients place taken client there here)) ends,
  record {
    keeps = out ∙ removed clients place lt ∙ ap (λ these. replaced place these clients) (sym none);
    leaves = left_is;
    follows = sym (add-zero place) ∙ ap (λ these. place + length these) (sym none);
  },
)

over_of_end : (config : Config) (speech : Speech) (fate : Fate) → IsFateOfEnd speech fate → MayFollow config step.Ends speech → All (IsPeerOver config) (leaver_of fate)
over_of_end config speech (Stays client) ends follows = All-nil (IsPeerOver config)
over_of_end config speech Dropped ends follows = All-nil (IsPeerOver config)
over_of_end config (Http stage link) (Leaves left) ends follows = absurd (let wrong : Leaves left ≡ Dropped = ends in cc)
over_of_end config (WebSocket peer wire) (Leaves left) ends follows =
    All-cons (IsPeerOver config) left [] (subst (IsPeerOver config) (sym ends.1) follows) (All-nil (IsPeerOver config))

pub end_over : (config : Config) (clients : List Client) (leaving leaving_new : List Peer) (place : ℕ) (taken : Client) (speech : Speech) (fate : Fate)
    → slice_get clients place ≡ Some taken → speech ≡ taken.speech → IsFateOfEnd speech fate → leaving_new ≡ leaving ++ leaver_of fate
    → MayGoOn config place step.Ends clients → All (IsPeerOver config) leaving → All (IsPeerOver config) leaving_new
end_over config clients leaving leaving_new place taken speech fate there speaks ends is may over =
    subst (All (IsPeerOver config)) (sym is)
    (all_both (IsPeerOver config) leaving (leaver_of fate) over
    (over_of_end config speech fate ends (subst (MayFollow config step.Ends) (sym speaks) (may.follows taken there))))

pub end_may : (config : Config) (clients left : List Client) (place : ℕ) (st : Step) → left ≡ remove clients place → MayGoOn config place st clients → All (MayTurn config) left
end_may config clients left place st out may = subst (All (MayTurn config)) (sym out) may.others

-- ---- a turn at a place

pub may_go_on : (s : Setting) (clients stepped : List Client) (a b : DeskView) (place : ℕ) (st : Step) → place < length clients → All (MayTurn s.config) clients
    → IsStepAt s place clients stepped a b st → MayGoOn s.config place st stepped
may_go_on s clients stepped a b place st lt may is = record {
  others = subst (λ xs. All (MayTurn s.config) (remove xs place)) (sym is.set)
      (remove_set (MayTurn s.config) clients place is.after lt (all_removed (MayTurn s.config) clients place lt may));
  follows = λ client there. subst (λ c. MayFollow s.config st c.speech)
      (one_there stepped place is.after client (subst (λ xs. slice_get xs place ≡ Some is.after) (sym is.set) (set_there clients place is.after lt)) there) is.follows;
}

pub had_turn : (s : Setting) (clients stepped after : List Client) (leaving leaving_new : List Peer) (a b : DeskView) (place : ℕ) (st : Step) (next : Next)
    → place < length clients → IsStepAt s place clients stepped a b st
    → ((client : Client) → slice_get stepped place ≡ Some client
    → (fate : Fate) × Becomes s client st next.part fate × HasFate place fate stepped after leaving leaving_new next.place)
    → (t : Turned) × HasTurn (IsServed s) kept_of part_of place clients after a b t next × (leaving_new ≡ leaving ++ leaver_of t.fate)
had_turn s clients stepped after leaving leaving_new a b place st next lt is becomes =
    let there = subst (λ xs. slice_get xs place ≡ Some is.after) (sym is.set) (set_there clients place is.after lt) in
    let (fate, becoming, has) = becomes is.after there in
    let so = step_serves s is.before is.after a b st next.part fate is.steps becoming in (
      so.turned,
      record {
        x = is.before;
        there = is.there;
        turn = so.served;
        replaced = has.keeps ∙ ap (λ xs. replaced place (client_of fate) xs) is.set ∙ replaced_set clients place is.after (client_of fate) lt
            ∙ ap (λ f. replaced place (client_of f) clients) (sym so.is_fate);
        part = sym so.is_part;
        follows = has.follows ∙ ap (λ f. place + length (client_of f)) (sym so.is_fate);
      },
      has.leaves ∙ ap (λ f. leaving ++ leaver_of f) (sym so.is_fate),
    )
