-- The turn of a message, by the asks that were made of it and what came of them.
use Rattle.std.proofs.Common.{◌≡◌, ◌≢◌, ◌∙◌, ℕ, zero, suc, ◌+◌, Bool, true, false, List, [], ◌∷◌, ◌++◌, All, ap, sym, subst, refl, append_assoc, append-nil}
use Rattle.std.specs.Prelude.{Option, Some, None, MatchBool}
use Rattle.std.specs.List.{flat_map}
use Rattle.std.specs.Option.{option_to_list}
use Rattle.std.proofs.lemmas.List.Elements.{All-cons, All-nil}
use Rattle.ch_base.specs.declared.error_codes.TheConstants.{OUT_OF_MEMORY, RECONNECT}
use Rattle.ch_base.specs.declared.frame.Frame.{Frame}
use Rattle.ch_base.specs.declared.frame.Frame.TheVariants.{Error}
use Rattle.ch_desk.specs.OwnEntries.{IsAnswered, was_made}
use Rattle.ch_dispatch.specs.MadeAsks.{AreMadeFrom, outcomes_from, settled_all}
use Rattle.ch_dispatch.specs.Messages.{comes_to}
use Rattle.ch_dispatch.specs.Outcomes.{end_in, frames_in, stops}
use Rattle.ch_protocol.specs.Asks.{Asked, ComesOf, asks_of, came_of}
use Rattle.ch_protocol.specs.Sessions.{outcome}
use Rattle.ch_protocol.specs.Settling.{SettledAsk}
use Rattle.ch_protocol.specs.Shards.{Shards, after_ask, after_asks, made_of, made_of_all}
use Rattle.ch_protocol.specs.declared.ask.Ask.{Ask}
use Rattle.ch_protocol.specs.declared.ask.Made.{Made}
use Rattle.ch_protocol.specs.declared.ask.Made.TheVariants as made
use Rattle.ch_protocol.specs.declared.heard.Heard.{Heard}
use Rattle.ch_protocol.specs.declared.heard.Heard.TheVariants as heard
use Rattle.ch_protocol.specs.declared.heard.Settled.{Settled}
use Rattle.ch_protocol.specs.declared.heard.Settled.TheVariants as settled
use Rattle.ch_session.specs.Judging as judging
use Rattle.ch_socket.specs.Responses.{ending_lines}
use Rattle.ch_transcript.specs.Printing.{frame_line, end_lines}
use Rattle.ch_transcript.specs.Progress.{Socket}
use Rattle.ch_transcript.specs.Turns.{Turn, after_turn, asks_all, asks_one, does, ends_turn, goes_on, settled_socket, writes}

-- the lines of frames
abbrev pub frame_lines : ℕ → List Frame → List ℕ
frame_lines number frames = flat_map (frame_line number) frames

-- the turn that writes this text and ends with the code, if there is one
abbrev pub ends_as : ℕ → ℕ → Option ℕ → List ℕ → Socket → Shards → Turn
ends_as number at None text s shards = writes text s shards
ends_as number at (Some code) text s shards = ends_turn text number at s shards

-- the turn of outcomes
abbrev pub outcome_turn : ℕ → ℕ → List Settled → Socket → Shards → Turn
outcome_turn number at outcomes s shards =
    ends_as number at (end_in outcomes) (frame_lines number (frames_in outcomes) ++ ending_lines number (end_in outcomes)) s shards

-- the socket with these asks settled
abbrev pub with_asks : Socket → List SettledAsk → Socket
with_asks s asks = record { is_open = s.is_open; quiet = s.quiet; asks = asks }

-- ---- lists

cons_head : {X : Type 0} (x y : X) (xs ys : List X) → x ∷ xs ≡ y ∷ ys → x ≡ y
cons_head x y xs ys same = cc same

cons_tail : {X : Type 0} (x y : X) (xs ys : List X) → x ∷ xs ≡ y ∷ ys → xs ≡ ys
cons_tail x y xs ys same = cc same

-- ---- one ask

after_ends : (number at : ℕ) (end : Option ℕ) (before text : List ℕ) (s : Socket) (shards : Shards)
    → after_turn before (ends_as number at end text s shards) ≡ ends_as number at end (before ++ text) s shards
after_ends number at None before text s shards = refl
after_ends number at (Some code) before text s shards = refl

one_is : (number at : ℕ) (user_data : List ℕ) (place : ℕ) (ask : Ask) (s : Socket) (shards : Shards) (more : Socket → Shards → Turn)
    → asks_one number at user_data place ask s shards more
    ≡ goes_on number at (outcome user_data place (made_of shards ask)) (settled_socket at ask (made_of shards ask) s) (after_ask shards ask) more
one_is number at user_data place ask s shards more = refl

-- the ask's outcome and the outcomes after it: none where it stops
step_is : (number at : ℕ) (o : Settled) (later : List Settled) (s t : Socket) (shards then_shards : Shards) (more : Socket → Shards → Turn)
    → MatchBool (stops o) ((later ≡ []) × (t ≡ s) × (then_shards ≡ shards)) (more s shards ≡ outcome_turn number at later t then_shards)
    → goes_on number at o s shards more ≡ outcome_turn number at (o ∷ later) t then_shards
step_is number at settled.Nothing later s t shards then_shards more next = next
step_is number at (settled.Reply frame) later s t shards then_shards more next =
    ap (after_turn (frame_line number frame)) next
    ∙ after_ends number at (end_in later) (frame_line number frame) (frame_lines number (frames_in later) ++ ending_lines number (end_in later)) t then_shards
    ∙ ap (λ z. ends_as number at (end_in later) z t then_shards)
    (sym (append_assoc (frame_line number frame) (frame_lines number (frames_in later)) (ending_lines number (end_in later))))
step_is number at (settled.Refuse code) later s t shards then_shards more next =
    let none : outcome_turn number at (settled.Refuse code ∷ []) s shards ≡ writes (frame_line number (Error code)) s shards =
    ap (λ z. writes z s shards) (append-nil (frame_line number (Error code) ++ []) ∙ append-nil (frame_line number (Error code))) in
    sym none ∙ ap (λ l. outcome_turn number at (settled.Refuse code ∷ l) s shards) (sym next.0)
    ∙ ap (λ u. outcome_turn number at (settled.Refuse code ∷ later) u shards) (sym next.1)
    ∙ ap (λ u. outcome_turn number at (settled.Refuse code ∷ later) t u) (sym next.2)
step_is number at (settled.End code) later s t shards then_shards more next =
    ap (λ l. outcome_turn number at (settled.End code ∷ l) s shards) (sym next.0)
    ∙ ap (λ u. outcome_turn number at (settled.End code ∷ later) u shards) (sym next.1)
    ∙ ap (λ u. outcome_turn number at (settled.End code ∷ later) t u) (sym next.2)

-- ---- all asks

stopped : (number at : ℕ) (user_data : List ℕ) (place : ℕ) (ask : Ask) (asks : List Ask) (xs : List Asked) (s : Socket) (shards : Shards) (o : Settled) (b : Bool) → stops o ≡ b
    → MatchBool b (xs ≡ []) (AreMadeFrom user_data (place + 1) asks xs)
    → (AreMadeFrom user_data (place + 1) asks xs
    → asks_all number at user_data (place + 1) asks s shards ≡ outcome_turn number at (outcomes_from user_data (place + 1) xs) (with_asks s (settled_all at s.asks xs)) (after_asks shards (asks_of xs)))
    → MatchBool (stops o) ((outcomes_from user_data (place + 1) xs ≡ []) × (with_asks s (settled_all at s.asks xs) ≡ s) × (after_asks shards (asks_of xs) ≡ shards))
    (asks_all number at user_data (place + 1) asks s shards ≡ outcome_turn number at (outcomes_from user_data (place + 1) xs) (with_asks s (settled_all at s.asks xs)) (after_asks shards (asks_of xs)))
stopped number at user_data place ask asks xs s shards o true is rest later =
    let A : Type 0 = (outcomes_from user_data (place + 1) xs ≡ []) × (with_asks s (settled_all at s.asks xs) ≡ s) × (after_asks shards (asks_of xs) ≡ shards) in
    let B : Type 0 = asks_all number at user_data (place + 1) asks s shards ≡ outcome_turn number at (outcomes_from user_data (place + 1) xs) (with_asks s (settled_all at s.asks xs)) (after_asks shards (asks_of xs)) in
    let holds : A = (ap (outcomes_from user_data (place + 1)) rest, ap (λ l. with_asks s (settled_all at s.asks l)) rest, ap (λ l. after_asks shards (asks_of l)) rest) in
    subst (λ b. MatchBool b A B) (sym is) holds
stopped number at user_data place ask asks xs s shards o false is rest later =
    let A : Type 0 = (outcomes_from user_data (place + 1) xs ≡ []) × (with_asks s (settled_all at s.asks xs) ≡ s) × (after_asks shards (asks_of xs) ≡ shards) in
    let B : Type 0 = asks_all number at user_data (place + 1) asks s shards ≡ outcome_turn number at (outcomes_from user_data (place + 1) xs) (with_asks s (settled_all at s.asks xs)) (after_asks shards (asks_of xs)) in
    subst (λ b. MatchBool b A B) (sym is) (later rest)

pub asks_come : (number at : ℕ) (user_data : List ℕ) (place : ℕ) (asks : List Ask) (asked : List Asked) (s : Socket) (shards : Shards)
    → AreMadeFrom user_data place asks asked → came_of asked ≡ made_of_all shards (asks_of asked)
    → asks_all number at user_data place asks s shards
    ≡ outcome_turn number at (outcomes_from user_data place asked) (with_asks s (settled_all at s.asks asked)) (after_asks shards (asks_of asked))
asks_come number at user_data place [] asked s shards made came =
    ap (λ l. outcome_turn number at (outcomes_from user_data place l) (with_asks s (settled_all at s.asks l)) (after_asks shards (asks_of l))) (sym made)
asks_come number at user_data place (ask ∷ asks) [] s shards made came = absurd made
asks_come number at user_data place (ask ∷ asks) (x ∷ xs) s shards made came =
    let is : x.came ≡ made_of shards x.ask = cons_head x.came (made_of shards x.ask) (came_of xs) (made_of_all (after_ask shards x.ask) (asks_of xs)) came in
    let more : came_of xs ≡ made_of_all (after_ask shards x.ask) (asks_of xs) = cons_tail x.came (made_of shards x.ask) (came_of xs) (made_of_all (after_ask shards x.ask) (asks_of xs)) came in
    let t = settled_socket at x.ask x.came s in
    let all = asks_all number at user_data (place + 1) asks in
    let Ends : Turn → Type 0 = λ u. u ≡ outcome_turn number at (outcomes_from user_data place (x ∷ xs)) (with_asks s (settled_all at s.asks (x ∷ xs))) (after_asks shards (asks_of (x ∷ xs))) in
    let next = stopped number at user_data place x.ask asks xs t (after_ask shards x.ask) (outcome user_data place x.came) (stops (outcome user_data place x.came)) refl made.2
    (λ rest. asks_come number at user_data (place + 1) asks xs t (after_ask shards x.ask) rest more) in
    let whole : Ends (goes_on number at (outcome user_data place x.came) t (after_ask shards x.ask) all) =
    step_is number at (outcome user_data place x.came) (outcomes_from user_data (place + 1) xs) t (with_asks t (settled_all at t.asks xs)) (after_ask shards x.ask) (after_asks (after_ask shards x.ask) (asks_of xs)) all next in
    let by : Ends (asks_one number at user_data place x.ask s shards all) =
    subst (λ c. Ends (goes_on number at (outcome user_data place c) (settled_socket at x.ask c s) (after_ask shards x.ask) all)) is whole in
    subst (λ a. Ends (asks_one number at user_data place a s shards all)) made.0 by

-- ---- memory

memory_tells : (user_data : List ℕ) (place : ℕ) (later : List Settled) (reply : Option Frame) (end : Option ℕ) → reply ≢ Some (Error OUT_OF_MEMORY) → end ≢ Some RECONNECT
    → option_to_list reply ≡ frames_in (outcome user_data place made.Memory ∷ later) → end ≡ end_in (outcome user_data place made.Memory ∷ later) → ⊥
memory_tells user_data zero later None end heard served frames ends = cc frames
memory_tells user_data zero later (Some frame) end heard served frames ends = heard (ap Some (cons_head frame (Error OUT_OF_MEMORY) [] (frames_in later) frames))
memory_tells user_data (suc n) later reply end heard served frames ends = served ends

-- the frames and the end that are left after an outcome that doesn't stop
left_tells : (o : Settled) (later : List Settled) (reply : Option Frame) (end : Option ℕ) → stops o ≡ false → option_to_list reply ≡ frames_in (o ∷ later) → end ≡ end_in (o ∷ later)
    → reply ≢ Some (Error OUT_OF_MEMORY) → (left : Option Frame) × (option_to_list left ≡ frames_in later) × (end ≡ end_in later) × (left ≢ Some (Error OUT_OF_MEMORY))
left_tells settled.Nothing later reply end on frames ends heard = (reply, frames, ends, heard)
left_tells (settled.Reply frame) later None end on frames ends heard = absurd (cc frames)
left_tells (settled.Reply frame) later (Some f) end on frames ends heard = (None, cons_tail f frame [] (frames_in later) frames, ends, λ e. cc e)
left_tells (settled.Refuse code) later reply end on frames ends heard = absurd (cc on)
left_tells (settled.End code) later reply end on frames ends heard = absurd (cc on)

answered_by : (user_data : List ℕ) (place : ℕ) (later : List Settled) (reply : Option Frame) (end : Option ℕ) (ask : Ask) (came : Made) → reply ≢ Some (Error OUT_OF_MEMORY) → end ≢ Some RECONNECT
    → option_to_list reply ≡ frames_in (outcome user_data place came ∷ later) → end ≡ end_in (outcome user_data place came ∷ later) → ComesOf ask came
    → ComesOf ask came × (was_made came ≡ true)
answered_by user_data place later reply end ask made.Memory heard served frames ends comes = absurd (memory_tells user_data place later reply end heard served frames ends)
answered_by user_data place later reply end ask (made.Chan a) heard served frames ends comes = (comes, refl)
answered_by user_data place later reply end ask (made.User a) heard served frames ends comes = (comes, refl)

-- so were the asks after it, unless it stops them
rest_answered : (user_data : List ℕ) (place : ℕ) (asks : List Ask) (xs : List Asked) (o : Settled) (reply : Option Frame) (end : Option ℕ) (b : Bool) → stops o ≡ b
    → MatchBool b (xs ≡ []) (AreMadeFrom user_data (place + 1) asks xs)
    → option_to_list reply ≡ frames_in (o ∷ outcomes_from user_data (place + 1) xs) → end ≡ end_in (o ∷ outcomes_from user_data (place + 1) xs) → reply ≢ Some (Error OUT_OF_MEMORY)
    → ((left : Option Frame) → AreMadeFrom user_data (place + 1) asks xs → option_to_list left ≡ frames_in (outcomes_from user_data (place + 1) xs)
    → end ≡ end_in (outcomes_from user_data (place + 1) xs) → left ≢ Some (Error OUT_OF_MEMORY) → All IsAnswered xs)
    → All IsAnswered xs
rest_answered user_data place asks xs o reply end true is rest frames ends heard again = subst (All IsAnswered) (sym rest) (All-nil IsAnswered)
rest_answered user_data place asks xs o reply end false is rest frames ends heard again =
    let left = left_tells o (outcomes_from user_data (place + 1) xs) reply end is frames ends heard in again left.0 rest left.1 left.2 left.3

-- where neither a frame nor an end says that there was no memory, each ask was answered
pub all_answered : (user_data : List ℕ) (place : ℕ) (asks : List Ask) (asked : List Asked) (reply : Option Frame) (end : Option ℕ) → AreMadeFrom user_data place asks asked
    → option_to_list reply ≡ frames_in (outcomes_from user_data place asked) → end ≡ end_in (outcomes_from user_data place asked)
    → reply ≢ Some (Error OUT_OF_MEMORY) → end ≢ Some RECONNECT → All IsAnswered asked
all_answered user_data place [] asked reply end made frames ends heard served = subst (All IsAnswered) (sym made) (All-nil IsAnswered)
all_answered user_data place (ask ∷ asks) [] reply end made frames ends heard served = absurd made
all_answered user_data place (ask ∷ asks) (x ∷ xs) reply end made frames ends heard served =
    let later = outcomes_from user_data (place + 1) xs in
    let comes : ComesOf x.ask x.came = subst (λ a. ComesOf a x.came) (sym made.0) made.1 in
    All-cons IsAnswered x xs (answered_by user_data place later reply end x.ask x.came heard served frames ends comes)
    (rest_answered user_data place asks xs (outcome user_data place x.came) reply end (stops (outcome user_data place x.came)) refl made.2 frames ends heard
    (λ left rest more over others. all_answered user_data (place + 1) asks xs left end rest more over others served))

-- ---- a message

-- what the session made of a message is the turn of its outcomes
pub does_as : (number at : ℕ) (user_data : List ℕ) (h : Heard) (asked : List Asked) (s : Socket) (shards : Shards) → AreMadeFrom user_data 0 (judging.asks_of h) asked
    → came_of asked ≡ made_of_all shards (asks_of asked)
    → does number at user_data h s shards ≡ outcome_turn number at (comes_to user_data h asked) (with_asks s (settled_all at s.asks asked)) (after_asks shards (asks_of asked))
does_as number at user_data heard.Nothing asked s shards made came = ap (λ l. writes [] (with_asks s (settled_all at s.asks l)) (after_asks shards (asks_of l))) (sym made)
does_as number at user_data (heard.Reply frame) asked s shards made came =
    ap (λ z. writes z s shards) (sym (append-nil (frame_line number frame ++ []) ∙ append-nil (frame_line number frame)))
    ∙ ap (λ l. writes ((frame_line number frame ++ []) ++ []) (with_asks s (settled_all at s.asks l)) (after_asks shards (asks_of l))) (sym made)
does_as number at user_data (heard.Refuse code) asked s shards made came =
    ap (λ z. writes z s shards) (sym (append-nil (frame_line number (Error code) ++ []) ∙ append-nil (frame_line number (Error code))))
    ∙ ap (λ l. writes ((frame_line number (Error code) ++ []) ++ []) (with_asks s (settled_all at s.asks l)) (after_asks shards (asks_of l))) (sym made)
does_as number at user_data (heard.End code) asked s shards made came =
    ap (λ l. ends_turn (end_lines number code) number at (with_asks s (settled_all at s.asks l)) (after_asks shards (asks_of l))) (sym made)
does_as number at user_data (heard.Ask asks) asked s shards made came = asks_come number at user_data 0 asks asked s shards made came

-- its asks were answered, and it was heard
pub message_answered : (user_data : List ℕ) (h : Heard) (asked : List Asked) (reply : Option Frame) (end : Option ℕ) → AreMadeFrom user_data 0 (judging.asks_of h) asked
    → option_to_list reply ≡ frames_in (comes_to user_data h asked) → end ≡ end_in (comes_to user_data h asked)
    → reply ≢ Some (Error OUT_OF_MEMORY) → end ≢ Some RECONNECT → All IsAnswered asked
message_answered user_data heard.Nothing asked reply end made frames ends heard served = subst (All IsAnswered) (sym made) (All-nil IsAnswered)
message_answered user_data (heard.Reply frame) asked reply end made frames ends heard served = subst (All IsAnswered) (sym made) (All-nil IsAnswered)
message_answered user_data (heard.Refuse code) asked reply end made frames ends heard served = subst (All IsAnswered) (sym made) (All-nil IsAnswered)
message_answered user_data (heard.End code) asked reply end made frames ends heard served = subst (All IsAnswered) (sym made) (All-nil IsAnswered)
message_answered user_data (heard.Ask asks) asked reply end made frames ends heard served = all_answered user_data 0 asks asked reply end made frames ends heard served

pub was_heard : (user_data : List ℕ) (h : Heard) (asked : List Asked) (reply : Option Frame) → option_to_list reply ≡ frames_in (comes_to user_data h asked)
    → reply ≢ Some (Error OUT_OF_MEMORY) → h ≢ heard.Refuse OUT_OF_MEMORY
was_heard user_data h asked None frames heard same =
    let e : [] ≡ Error OUT_OF_MEMORY ∷ [] = frames ∙ ap (λ k. frames_in (comes_to user_data k asked)) same in cc e
was_heard user_data h asked (Some frame) frames heard same =
    let e : frame ∷ [] ≡ Error OUT_OF_MEMORY ∷ [] = frames ∙ ap (λ k. frames_in (comes_to user_data k asked)) same in
    heard (ap Some (cons_head frame (Error OUT_OF_MEMORY) [] [] e))
