-- The course of a turn, from its parts.
use Rattle.std.proofs.Common.{◌≡◌, ◌≢◌, ℕ, ◌≤◌, Bool, true, false, List, [], ◌++◌, length, take, ap, sym, subst, refl, ◌∙◌, append-nil, arith, inl, inr, length-take}
use Rattle.std.proofs.lemmas.Bool.Decides.{nat_tests}
use Rattle.std.specs.Prelude.{Some, None, Ok, Err, nat_lt, if◌then◌else◌}
use Rattle.ch_answer.specs.Answers.{Serving}
use Rattle.ch_desk.specs.Views.{DeskView}
use Rattle.ch_desk.proofs.OwnEntries.{Makes-none}
use Rattle.ch_http.specs.Fed.{Fed}
use Rattle.ch_io.specs.Counts.{Rose}
use Rattle.ch_io.proofs.Counting.{Rose-after}
use Rattle.ch_net.proofs.Moving.{LinkMoves-none}
use Rattle.ch_net.specs.Links.{LinkTold}
use Rattle.ch_exchange.specs.declared.limits.TheConstants.{MOST_READ}
use Rattle.ch_exchange.specs.Causes.{TurnHasCause}
use Rattle.ch_exchange.specs.Hearing.{HasCourse, Answers, ReadsOnce, with_bytes}
use Rattle.ch_exchange.specs.Pending.{Pending}
use Rattle.ch_exchange.specs.Turns.{Course, Scene, IsAnswer}
use Rattle.ch_exchange.specs.Writing.{WritesOn, WriteAnswer}
use Rattle.ch_exchange.specs.declared.stage.Stage.{Stage}
use Rattle.ch_exchange.specs.declared.stage.Stage.TheVariants.{Reading, Replying}
use Rattle.ch_exchange.specs.declared.turn.ExTurn.{ExTurn}
use Rattle.ch_exchange.specs.declared.turn.ExTurn.TheVariants.{Moved, Idle, Upgrade, Done, Peer, Fault}

abbrev scene : Stage → LinkTold → DeskView → Scene
scene stage link desk = record { stage = stage; link = link; desk = desk }

-- ---- a turn that can't read

unread_course : LinkTold → Course
unread_course link = record { read = []; link = link; asked = []; reply = None; written = []; left = [] }

none_more : (f : Fed) → Reading f ≡ Reading (record { bytes = f.bytes ++ []; since = f.since })
none_more f = ap (λ bytes. Reading (record { bytes = bytes; since = f.since })) (sym (append-nil f.bytes))

pub unread : (s : Serving) (f : Fed) (buffer : List ℕ) (w v : LinkTold) (desk : DeskView) (turn : ExTurn) → ReadsOnce buffer w v (Err turn)
    → HasCourse s (Reading f) (Reading f) w v desk desk turn
unfolding unread_course
unread s f buffer w v desk Peer (moves, rose) = (
  unread_course v,
  record {
    gives = moves;
    takes = LinkMoves-none v;
    reads = (omega arith, inr (tt, (refl, refl, refl)));
    calls = Makes-none desk;
    writes = (refl, refl, none_more f);
    unwritten = λ some. absurd (some refl);
    answer = refl;
    cause = rose;
  },
)
unread s f buffer w v desk Fault (moves, rose) = (
  unread_course v,
  record {
    gives = moves;
    takes = LinkMoves-none v;
    reads = (omega arith, inr (tt, (refl, refl, refl)));
    calls = Makes-none desk;
    writes = (refl, refl, none_more f);
    unwritten = λ some. absurd (some refl);
    answer = tt;
    cause = rose;
  },
)
unread s f buffer w v desk Moved (moves, never) = absurd never
unread s f buffer w v desk Idle (moves, never) = absurd never
unread s f buffer w v desk (Upgrade target) (moves, never) = absurd never
unread s f buffer w v desk Done (moves, never) = absurd never

-- ---- a turn that writes

-- the reply stood before the turn
stood_answer : (c : Course) (p : Pending) (w v : LinkTold) (desk desk_new : DeskView) (new : Stage) (result : ExTurn) → c.read ≡ [] → c.reply ≡ Some p
    → WriteAnswer false c.written p w v new result → IsAnswer c (scene (Replying p) w desk) (scene new v desk_new) result
stood_answer c p w v desk desk_new new Moved none is (un, inl made, rose) = cc
stood_answer c p w v desk desk_new new Moved none is (un, inr some, rose) = (un, inr (inl some), λ _. rose)
stood_answer c p w v desk desk_new new Idle none is (un, made, nothing, rose) = (un, (none, nothing, is))
stood_answer c p w v desk desk_new new (Upgrade target) none is (rest, (after, all, over)) = (rest, (p, is, after, all, over))
stood_answer c p w v desk desk_new new Done none is (after, all, over) = (p, is, after, all, over)
stood_answer c p w v desk desk_new new Peer none is never = absurd never
stood_answer c p w v desk desk_new new Fault none is (un, rose) = un

-- the count that rose as the reply was written
write_cause : (made : Bool) (written : List ℕ) (p : Pending) (w v : LinkTold) (new : Stage) (result : ExTurn) → WriteAnswer made written p w v new result
    → TurnHasCause result w.counts v.counts
write_cause made written p w v new Moved a = tt
write_cause made written p w v new Idle (un, is, nothing, rose) = rose
write_cause made written p w v new (Upgrade target) a = tt
write_cause made written p w v new Done a = tt
write_cause made written p w v new Peer never = absurd never
write_cause made written p w v new Fault (un, rose) = rose

pub writes_on : (s : Serving) (p : Pending) (w v : LinkTold) (desk : DeskView) (new : Stage) (result : ExTurn) → WritesOn false p w v new result
    → HasCourse s (Replying p) new w v desk desk result
writes_on s p w v desk new result o = (
  course,
  record {
    gives = LinkMoves-none w;
    takes = o.moves;
    reads = (refl, refl, refl);
    calls = Makes-none desk;
    writes = (o.front, o.stage);
    unwritten = o.unwritten;
    answer = stood_answer course p w v desk desk new result refl refl o.answer;
    cause = write_cause false o.written p w v new result o.answer;
  },
)
  where
    course : Course
    course = record { read = []; link = w; asked = []; reply = Some p; written = o.written; left = o.left }

-- ---- a turn that reads, after which no reply stands

-- so many bytes were read
some_read : (n : ℕ) (buffer : List ℕ) → n ≤ length buffer → n ≢ 0 → take n buffer ≢ []
some_read n buffer within some none =
    let cut = length-take n buffer in
    let zero : length (take n buffer) ≡ 0 = ap length none in
    some (omega (arith, within, cut, zero))

few : (n : ℕ) (buffer : List ℕ) → length buffer ≡ MOST_READ → length (take n buffer) ≤ MOST_READ
few n buffer full = let cut = length-take n buffer in omega (arith, full, cut)

abbrev pub read_answer : ℕ → ExTurn
read_answer n = if nat_lt 0 n then Moved else Idle

gone_answer : (c : Course) (f g : Fed) (n : ℕ) (buffer : List ℕ) (w u : LinkTold) (desk desk_new : DeskView) (some : Bool) → nat_lt 0 n ≡ some → n ≤ length buffer
    → c.read ≡ take n buffer → c.reply ≡ None → c.written ≡ [] → IsAnswer c (scene (Reading f) w desk) (scene (Reading g) u desk_new) (if some then Moved else Idle)
gone_answer c f g n buffer w u desk desk_new false is within read reply written =
    let none : n ≡ 0 = grind (arith, nat_tests) in
    (tt, (read ∙ ap (λ k. take k buffer) none, written, reply))
gone_answer c f g n buffer w u desk desk_new true is within read reply written =
    (tt, inl (λ none. some_read n buffer within (λ zero. let never : ⊥ = grind (arith, nat_tests) in never) (sym read ∙ none)), λ some. absurd (some reply))

gone_cause : (n : ℕ) (w u : LinkTold) (some : Bool) → nat_lt 0 n ≡ some → (n ≡ 0 → Rose w.counts.stalls u.counts.stalls)
    → TurnHasCause (if some then Moved else Idle) w.counts u.counts
gone_cause n w u false is rose = rose (grind (arith, nat_tests))
gone_cause n w u true is rose = tt

pub hears_none : (s : Serving) (f : Fed) (n : ℕ) (buffer : List ℕ) (w u : LinkTold) (desk desk_new : DeskView) (g : Fed) (result : ExTurn) → length buffer ≡ MOST_READ
    → ReadsOnce buffer w u (Ok n) → Answers s (with_bytes f (take n buffer)) desk desk_new None → g ≡ with_bytes f (take n buffer) → result ≡ read_answer n
    → HasCourse s (Reading f) (Reading g) w u desk desk_new result
hears_none s f n buffer w u desk desk_new g result full (within, moves, rose) (asked, comes, calls) is answer =
    subst (λ r. HasCourse s (Reading f) (Reading g) w u desk desk_new r) (sym answer)
    (subst (λ x. HasCourse s (Reading f) (Reading x) w u desk desk_new (read_answer n)) (sym is) (
      course,
      record {
        gives = moves;
        takes = LinkMoves-none u;
        reads = (few n buffer full, inl comes);
        calls = calls;
        writes = (refl, refl, refl);
        unwritten = λ some. absurd (some refl);
        answer = gone_answer course f (with_bytes f (take n buffer)) n buffer w u desk desk_new (nat_lt 0 n) refl within refl refl refl;
        cause = gone_cause n w u (nat_lt 0 n) refl rose;
      },
    ))
  where
    course : Course
    course = record { read = take n buffer; link = u; asked = asked; reply = None; written = []; left = [] }

-- ---- a turn that reads, after which a reply stands

-- the reply was made in the turn
made_answer : (c : Course) (f : Fed) (p : Pending) (w u v : LinkTold) (desk desk_new : DeskView) (new : Stage) (result : ExTurn) → w.counts.stalls ≤ u.counts.stalls
    → c.reply ≡ Some p → WriteAnswer true c.written p u v new result → IsAnswer c (scene (Reading f) w desk) (scene new v desk_new) result
made_answer c f p w u v desk desk_new new Moved falls is (un, moved, rose) = (
  un,
  inr (inr (λ none. let both : Some p ≡ None = sym is ∙ none in cc)),
  λ _. Rose-after w.counts.stalls u.counts.stalls v.counts.stalls falls rose,
)
made_answer c f p w u v desk desk_new new Idle falls is (un, made, nothing, rose) = cc
made_answer c f p w u v desk desk_new new (Upgrade target) falls is (rest, (after, all, over)) = (rest, (p, is, after, all, over))
made_answer c f p w u v desk desk_new new Done falls is (after, all, over) = (p, is, after, all, over)
made_answer c f p w u v desk desk_new new Peer falls is never = absurd never
made_answer c f p w u v desk desk_new new Fault falls is (un, rose) = un

made_cause : (written : List ℕ) (p : Pending) (w u v : LinkTold) (new : Stage) (result : ExTurn) → w.counts.faults ≤ u.counts.faults
    → WriteAnswer true written p u v new result → TurnHasCause result w.counts v.counts
made_cause written p w u v new Moved falls a = tt
made_cause written p w u v new Idle falls (un, made, nothing, rose) = cc
made_cause written p w u v new (Upgrade target) falls a = tt
made_cause written p w u v new Done falls a = tt
made_cause written p w u v new Peer falls never = absurd never
made_cause written p w u v new Fault falls (un, rose) = Rose-after w.counts.faults u.counts.faults v.counts.faults falls rose

pub hears_some : (s : Serving) (f : Fed) (n : ℕ) (buffer : List ℕ) (w u v : LinkTold) (desk desk_new : DeskView) (p : Pending) (new : Stage) (result : ExTurn)
    → length buffer ≡ MOST_READ → ReadsOnce buffer w u (Ok n) → Answers s (with_bytes f (take n buffer)) desk desk_new (Some p) → WritesOn true p u v new result
    → HasCourse s (Reading f) new w v desk desk_new result
hears_some s f n buffer w u v desk desk_new p new result full (within, moves, rose) (asked, comes, calls) o = (
  course,
  record {
    gives = moves;
    takes = o.moves;
    reads = (few n buffer full, inl comes);
    calls = calls;
    writes = (o.front, o.stage);
    unwritten = o.unwritten;
    answer = made_answer course f p w u v desk desk_new new result moves.counts.stalls refl o.answer;
    cause = made_cause o.written p w u v new result moves.counts.faults o.answer;
  },
)
  where
    course : Course
    course = record { read = take n buffer; link = u; asked = asked; reply = Some p; written = o.written; left = o.left }
