-- How the loop over lines goes on, and how it ends.
use Rattle.std.proofs.Common.{◌≡◌, ℕ, false, ◌+◌, ◌^◌, ◌<◌, ◌≤◌, ◌∙◌, ap, sym, refl, subst, inl, inr, List, [], ◌∷◌, ◌++◌, length, take, drop, append_assoc, append-nil, length-append, arith}
use Rattle.std.specs.Prelude.{Option, Some, None, Result, Ok, Err, OnOk, OnErr, ◌⊎◌}
use Rattle.std.proofs.Math.Seq.{take-length}
use Rattle.std.proofs.lemmas.List.{take-append-drop}
use Rattle.std.specs.Io.KnownBytes.{Consumes, Appends, IsAtEnd}
use Rattle.ch_io.specs.Writes.{WritesLast}
use Rattle.ch_io.proofs.Known.{Consumes-then, Consumes-none, Appends-then, Appends-none}
use Rattle.ch_transcript.specs.Lines.{has_line_end}
use Rattle.ch_transcript.specs.declared.limits.TheConstants.{LONGEST_LINE}
use Rattle.ch_transcript.specs.Printing.{error_line, long_line}
use Rattle.ch_transcript.specs.Replayed.{Ran, IsPart, IsPrefix, Refuses}
use Rattle.ch_config.specs.declared.config.Config.{Config}
use Rattle.ch_transcript.specs.Outcomes.{Plays, HasOutcome, ends}
use Rattle.ch_transcript.specs.Progress.{Progress, beginning, Played}
use Rattle.ch_transcript.specs.declared.ending.Ending.{Ending}
use Rattle.ch_transcript.specs.declared.ending.Ending.TheVariants as ending
use Rattle.ch_transcript.proofs.Carrying.{Carries, Carries-begin, Carries-line, Carries-ended, Carries-failed, Carries-last, Carries-refused, Carries-last_refused, Carries-long, moved, on_nothing, done_whole}
use Rattle.ch_outcomes.specs.Answered.{line_ends}
use Rattle.ch_replay.proofs.LineEnds.{line_ends_more}
use Rattle.ch_replay.specs.Reading.{ReadsLine}
use Rattle.ch_player.specs.Playing.{IsAt}
use Rattle.ch_replay.specs.Serving.{Serves, Stops, EndsAt}
use Rattle.ch_player.specs.declared.player.Player.{Player}
use Rattle.ch_replay.specs.declared.line_reader.Next.TheVariants as next

-- what was read is the lines so far and what the reader holds; what was written is theirs
pub record Runs (config : Config) (left_old left_now told_old told_now : Option (List ℕ)) (limit number : ℕ) (player : Player) (pending : List ℕ) : Type 0 where
  pub done : List ℕ
  pub wrote : List ℕ
  pub p : Progress
  pub consumed : Consumes left_old left_now (done ++ pending)
  pub gained : Appends told_old told_now wrote
  pub carries : Carries config done wrote number p
  pub is : IsAt player p
  pub counted : number + limit + length pending ≤ 2 ^ 62 + 1
  pub numbered : number ≡ line_ends done + 1

pub Runs-begin : (config : Config) (left told : Option (List ℕ)) (limit : ℕ) (player : Player) → IsAt player beginning → limit ≤ 2 ^ 62 → Runs config left left told told limit 1 player []
Runs-begin config left told limit player is small = record {
  done = [];
  wrote = [];
  p = beginning;
  consumed = Consumes-none left;
  gained = Appends-none told;
  carries = Carries-begin config;
  is = is;
  counted = omega arith;
  numbered = refl;
}

-- after a call of the reader
pub further : (lo ln lk : Option (List ℕ)) (done pending bytes seen : List ℕ) → Consumes lo ln (done ++ pending) → Consumes ln lk bytes → pending ++ bytes ≡ seen → Consumes lo lk (done ++ seen)
further lo ln lk done pending bytes seen c d e =
    let P : List ℕ → Type 0 = λ z. Consumes lo lk z in
    subst P (append_assoc done pending bytes ∙ ap (λ z. done ++ z) e) (Consumes-then lo ln lk (done ++ pending) bytes c d)

pub nothing_more : (a b c : Option (List ℕ)) (x : List ℕ) → Appends a b x → Appends b c [] → Appends a c x
nothing_more a b c x p q = let P : List ℕ → Type 0 = λ z. Appends a c z in subst P (append-nil x) (Appends-then a b c x [] p q)

pub Runs-line : {config : Config} {lo ln lk to tn tk : Option (List ℕ)} {m mk n : ℕ} {player player' : Player} {pending line new : List ℕ} (r : Runs config lo ln to tn m n player pending)
    → ReadsLine ln lk m mk pending next.Whole line new → Serves player' tn tk (Plays config r.p line) → Runs config lo lk to tk mk (n + 1) player' new
Runs-line {config} {lo} {ln} {lk} {to} {tn} {tk} {m} {mk} {n} {pending} {line} {new} r reads s =
    let P : List ℕ → Type 0 = λ z. Consumes lo lk z in
    let e : r.done ++ (line ++ 10 ∷ new) ≡ (r.done ++ (line ++ 10 ∷ [])) ++ new =
    sym (append_assoc r.done (line ++ 10 ∷ []) new ∙ ap (λ z. r.done ++ z) (append_assoc line (10 ∷ []) new)) in
    record {
      done = r.done ++ (line ++ 10 ∷ []);
      wrote = r.wrote ++ s.played.text;
      p = s.played.next;
      consumed = subst P e (further _ _ _ r.done pending reads.bytes (line ++ 10 ∷ new) r.consumed reads.consumed reads.gives.0);
      gained = Appends-then to tn tk r.wrote s.played.text r.gained s.gained;
      carries = Carries-line line s.played r.carries reads.gives.1 reads.gives.2 s.is;
      is = s.next;
      counted = omega (arith, r.counted, reads.limit, ap length reads.gives.0, length-append pending reads.bytes, length-append line (10 ∷ new));
      numbered = omega (arith, r.numbered, line_ends_more r.done line [] reads.gives.1);
    }

pub Runs-ended : {config : Config} {lo ln lk to tn : Option (List ℕ)} {m mk n : ℕ} {player : Player} {pending line new : List ℕ} {failed : Type 0} (r : Runs config lo ln to tn m n player pending)
    → ReadsLine ln lk m mk pending next.Ended line new → Ran config lo lk to tn failed ending.Done
Runs-ended {pending} r reads = record {
  read = r.done ++ [];
  wrote = r.wrote;
  consumed = further _ _ _ r.done pending reads.bytes [] r.consumed reads.consumed reads.gives;
  gained = r.gained;
  says = (reads.ended, Carries-ended (r.done ++ []) r.carries (append-nil r.done));
}

pub Runs-failed : {config : Config} {lo ln lk to tn : Option (List ℕ)} {m mk n : ℕ} {player : Player} {pending line new : List ℕ} {failed : Type 0} (r : Runs config lo ln to tn m n player pending)
    → ReadsLine ln lk m mk pending next.Failed line new → Ran config lo lk to tn failed ending.ReadFailed
Runs-failed {pending} {line} r reads = record {
  read = r.done ++ line;
  wrote = r.wrote;
  consumed = further _ _ _ r.done pending reads.bytes line r.consumed reads.consumed reads.gives.0;
  gained = r.gained;
  says = Carries-failed (r.done ++ line) line r.carries refl reads.gives.1;
}

-- what was written is the output of the whole lines so far
lines_so_far : {config : Config} {n : ℕ} {p : Progress} {done wrote : List ℕ} {at_end : Type 0} (seen : List ℕ) → Carries config done wrote n p → IsPart config at_end (done ++ seen) wrote
lines_so_far {done} {wrote} seen c = record {
  lines = done;
  front = (seen, refl);
  whole = inl (done_whole c);
  text = wrote;
  outcome = on_nothing c;
  prefix = ([], sym (append-nil wrote));
}

-- no memory, after whatever was read and nothing more written
out_of_memory : {config : Config} (lo lk to tk : Option (List ℕ)) {n : ℕ} {p : Progress} {done wrote : List ℕ} {failed : Type 0} (seen : List ℕ) → Carries config done wrote n p → Consumes lo lk (done ++ seen) → Appends to tk wrote → Ran config lo lk to tk failed ending.Memory
out_of_memory lo lk to tk {done} {wrote} seen c consumed gained = record {
  read = done ++ seen;
  wrote = wrote;
  consumed = consumed;
  gained = gained;
  says = lines_so_far seen c;
}

pub Runs-memory : {config : Config} {lo ln lk to tn : Option (List ℕ)} {m mk n : ℕ} {player : Player} {pending line new : List ℕ} {failed : Type 0} (r : Runs config lo ln to tn m n player pending)
    → ReadsLine ln lk m mk pending next.Memory line new → Ran config lo lk to tn failed ending.Memory
Runs-memory {pending} r reads = out_of_memory _ _ _ _ (pending ++ reads.bytes) r.carries (further _ _ _ r.done pending reads.bytes (pending ++ reads.bytes) r.consumed reads.consumed refl) r.gained

pub Runs-last : {config : Config} {lo ln lk to tn tk : Option (List ℕ)} {m mk n : ℕ} {player player' : Player} {pending line new : List ℕ} {failed : Type 0} (r : Runs config lo ln to tn m n player pending)
    → ReadsLine ln lk m mk pending next.Last line new → Serves player' tn tk (Plays config r.p line) → Ran config lo lk to tk failed ending.Done
Runs-last {config} {to} {tn} {tk} {pending} {line} r reads s = record {
  read = r.done ++ line;
  wrote = r.wrote ++ s.played.text;
  consumed = further _ _ _ r.done pending reads.bytes line r.consumed reads.consumed reads.gives.0;
  gained = Appends-then to tn tk r.wrote s.played.text r.gained s.gained;
  says = (reads.ended, Carries-last (r.done ++ line) line s.played r.carries refl reads.gives.1 reads.gives.2 reads.gives.3 s.is);
}

-- a refusal that is the same however the source goes on, or at its end
refuses : {config : Config} {status : ℕ} {name : ℕ → List ℕ} {at_end failed early : Type 0} (tn tk : Option (List ℕ)) (weaken : early → failed) (read wrote : List ℕ) (n : ℕ) → HasOutcome config read (ends status (wrote ++ name n))
    → at_end ⊎ ((rest : List ℕ) → HasOutcome config (read ++ rest) (ends status (wrote ++ name n))) → (x : WritesLast (name n) tn tk early) → Refuses config status name at_end failed read (wrote ++ take x.count (name n))
refuses tn tk weaken read wrote n judged settled x = record {
  number = n;
  front = wrote;
  judged = judged;
  settled = settled;
  part = (x.count, refl);
  whole = elim x.whole [ inl e ↦ inl (ap (λ z. wrote ++ z) e) | inr f ↦ inr (weaken f) ];
}

-- a front of the last line's text
front_of : (wrote text : List ℕ) (k : ℕ) → IsPrefix (wrote ++ take k text) (wrote ++ text)
front_of wrote text k = (
  drop k text,
  ap (λ z. wrote ++ z) (sym (take-append-drop k text)) ∙ sym (append_assoc wrote (take k text) (drop k text)),
)

-- what was written is a front of the output of the lines so far and one more
line_part : {config : Config} {n : ℕ} {p : Progress} {done wrote : List ℕ} {at_end : Type 0} (line new : List ℕ) → Carries config done wrote n p → has_line_end line ≡ false → length line ≤ LONGEST_LINE
    → (x : Played) → Plays config p line (Some x) → (k : ℕ) → IsPart config at_end (done ++ (line ++ 10 ∷ new)) (wrote ++ take k x.text)
line_part {done} {wrote} line new c none short x is k =
    let more = Carries-line line x c none short is in
    record {
      lines = done ++ (line ++ 10 ∷ []);
      front = (new, sym (append_assoc done (line ++ 10 ∷ []) new ∙ ap (λ z. done ++ z) (append_assoc line (10 ∷ []) new)));
      whole = inl (done_whole more);
      text = wrote ++ x.text;
      outcome = on_nothing more;
      prefix = front_of wrote x.text k;
    }

-- a line ends the replay: it is refused, its output is broken off, or there is no memory
stop : (config : Config) (lo lk to tn t1 tk : Option (List ℕ)) {n : ℕ} {p : Progress} {done wrote : List ℕ} (seen line : List ℕ) {failed early : Type 0} → (early → failed) → Carries config done wrote n p → Consumes lo lk (done ++ seen) → Appends to tn wrote
    → (Plays config p line None → HasOutcome config (done ++ seen) (ends 4 (wrote ++ error_line n)) × (IsAtEnd lk ⊎ ((rest : List ℕ) → HasOutcome config ((done ++ seen) ++ rest) (ends 4 (wrote ++ error_line n)))))
    → ((x : Played) → Plays config p line (Some x) → (k : ℕ) → IsPart config (IsAtEnd lk) (done ++ seen) (wrote ++ take k x.text))
    → (e result : Ending) → Stops e tn t1 (Plays config p line) → EndsAt e n result t1 tk early → Ran config lo lk to tk failed result
stop config lo lk to tn t1 tk {n} {p} {done} {wrote} seen line {failed} weaken c consumed gained refused part ending.NotALine result s ends =
    let P : Ending → Type 0 = λ x. Ran config lo lk to tk failed x in
    let same : Appends to t1 wrote = nothing_more to tn t1 wrote gained s.1 in
    elim ends [
      | inl h ↦ subst P (sym h.0) record {
        read = done ++ seen;
        wrote = wrote ++ take h.1.count (error_line n);
        consumed = consumed;
        gained = Appends-then to t1 tk wrote (take h.1.count (error_line n)) same h.1.gained;
        says = let r = refused s.0 in refuses t1 tk weaken (done ++ seen) wrote n r.0 r.1 h.1;
      }
      | inr h ↦ subst P (sym h.0) (out_of_memory lo lk to tk seen c consumed (nothing_more to t1 tk wrote same h.1))
    ]
stop config lo lk to tn t1 tk {done} {wrote} seen line {failed} weaken c consumed gained refused part ending.WriteFailed result s ends =
    let P : Ending → Type 0 = λ x. Ran config lo lk to tk failed x in
    subst P (sym ends.0) record {
      read = done ++ seen;
      wrote = wrote ++ take s.count s.played.text;
      consumed = consumed;
      gained = nothing_more to t1 tk (wrote ++ take s.count s.played.text) (Appends-then to tn t1 wrote (take s.count s.played.text) gained s.gained) ends.1;
      says = part s.played s.is s.count;
    }
stop config lo lk to tn t1 tk {wrote} seen line {failed} weaken c consumed gained refused part ending.Memory result s ends =
    let P : Ending → Type 0 = λ x. Ran config lo lk to tk failed x in
    subst P (sym ends.0) (out_of_memory lo lk to tk seen c consumed (nothing_more to t1 tk wrote (nothing_more to tn t1 wrote gained s) ends.1))
stop config lo lk to tn t1 tk seen line weaken c consumed gained refused part ending.Done result s ends = absurd s
stop config lo lk to tn t1 tk seen line weaken c consumed gained refused part ending.LongLine result s ends = absurd s
stop config lo lk to tn t1 tk seen line weaken c consumed gained refused part ending.ReadFailed result s ends = absurd s

pub Runs-stop : {config : Config} {lo ln lk to tn : Option (List ℕ)} {m mk n : ℕ} {player : Player} {pending line new : List ℕ} (t1 tk : Option (List ℕ)) {failed early : Type 0} → (early → failed) → (r : Runs config lo ln to tn m n player pending)
    → ReadsLine ln lk m mk pending next.Whole line new → (e result : Ending) → Stops e tn t1 (Plays config r.p line) → EndsAt e n result t1 tk early → Ran config lo lk to tk failed result
Runs-stop {config} {lo} {ln} {lk} {to} {tn} {n} {pending} {line} {new} t1 tk weaken r reads e result s ends =
    let seen = line ++ 10 ∷ new in
    let consumed = further lo ln lk r.done pending reads.bytes seen r.consumed reads.consumed reads.gives.0 in
    stop config lo lk to tn t1 tk seen line weaken r.carries consumed r.gained
    (λ bad. (
      moved config (append-nil (r.done ++ seen)) refl (Carries-refused (r.done ++ seen) line new [] r.carries refl reads.gives.1 reads.gives.2 bad),
      inr (λ rest. Carries-refused (r.done ++ seen) line new rest r.carries refl reads.gives.1 reads.gives.2 bad),
    ))
    (λ x is k. line_part line new r.carries reads.gives.1 reads.gives.2 x is k)
    e result s ends

pub Runs-stop_last : {config : Config} {lo ln lk to tn : Option (List ℕ)} {m mk n : ℕ} {player : Player} {pending line new : List ℕ} (t1 tk : Option (List ℕ)) {failed early : Type 0} → (early → failed) → (r : Runs config lo ln to tn m n player pending)
    → ReadsLine ln lk m mk pending next.Last line new → (e result : Ending) → Stops e tn t1 (Plays config r.p line) → EndsAt e n result t1 tk early → Ran config lo lk to tk failed result
Runs-stop_last {config} {lo} {ln} {lk} {to} {tn} {n} {pending} {line} {new} t1 tk weaken r reads e result s ends =
    let consumed = further lo ln lk r.done pending reads.bytes line r.consumed reads.consumed reads.gives.0 in
    stop config lo lk to tn t1 tk line line weaken r.carries consumed r.gained
    (λ bad. (Carries-last_refused (r.done ++ line) line r.carries refl reads.gives.1 reads.gives.2 reads.gives.3 bad, inl reads.ended))
    (λ x is k. record {
      lines = r.done ++ line;
      front = ([], sym (append-nil (r.done ++ line)));
      whole = inr (reads.ended, refl);
      text = r.wrote ++ x.text;
      outcome = Carries-last (r.done ++ line) line x r.carries refl reads.gives.1 reads.gives.2 reads.gives.3 is;
      prefix = front_of r.wrote x.text k;
    })
    e result s ends

pub Runs-long : {config : Config} {lo ln lk to tn : Option (List ℕ)} {m mk n : ℕ} {player : Player} {pending line new : List ℕ} (tk : Option (List ℕ)) {failed early : Type 0} → (early → failed) → (r : Runs config lo ln to tn m n player pending)
    → ReadsLine ln lk m mk pending next.Long line new → (result : Ending) → EndsAt ending.LongLine n result tn tk early → Ran config lo lk to tk failed result
Runs-long {config} {lo} {ln} {lk} {to} {tn} {n} {pending} {line} tk {failed} weaken r reads result ends =
    let P : Ending → Type 0 = λ x. Ran config lo lk to tk failed x in
    let more = reads.gives.0.0 in
    let seen = line ++ more in
    let consumed = further lo ln lk r.done pending reads.bytes seen r.consumed reads.consumed reads.gives.0.1 in
    elim ends [
      | inl h ↦ subst P (sym h.0) record {
        read = r.done ++ seen;
        wrote = r.wrote ++ take h.1.count (long_line n);
        consumed = consumed;
        gained = Appends-then to tn tk r.wrote (take h.1.count (long_line n)) r.gained h.1.gained;
        says = refuses tn tk weaken (r.done ++ seen) r.wrote n
            (moved config (append-nil (r.done ++ seen)) refl (Carries-long (r.done ++ seen) line more [] r.carries refl reads.gives.1 reads.gives.2))
            (inr (λ rest. Carries-long (r.done ++ seen) line more rest r.carries refl reads.gives.1 reads.gives.2)) h.1;
      }
      | inr h ↦ subst P (sym h.0) (out_of_memory lo lk to tk seen r.carries consumed (nothing_more to tn tk r.wrote r.gained h.1))
    ]

pub Runs-smaller : {ln lk : Option (List ℕ)} {m mk : ℕ} {pending line new : List ℕ} → ReadsLine ln lk m mk pending next.Whole line new → mk + length new < m + length pending
Runs-smaller {pending} {line} {new} reads = omega (arith, reads.limit, ap length reads.gives.0, length-append pending reads.bytes, length-append line (10 ∷ new))

pub nothing_ran : (config : Config) (left told : Option (List ℕ)) (failed : Type 0) → Ran config left left told told failed ending.Memory
nothing_ran config left told failed = out_of_memory left left told told [] (Carries-begin config) (Consumes-none left) (Appends-none told)

-- nothing was read or written
pub nothing_ran_on : (config : Config) (left told_old told_new : Option (List ℕ)) (failed : Type 0) → told_new ≡ told_old → Ran config left left told_old told_new failed ending.Memory
nothing_ran_on config left told_old told_new failed same =
    let P : Option (List ℕ) → Type 0 = λ told. Ran config left left told_old told failed ending.Memory in subst P (sym same) (nothing_ran config left told_old failed)

-- a line that isn't served is no failed read
pub no_read_failed : (told_old told_new : Option (List ℕ)) (Is : Option Played → Type 0) (e result : Ending) → (result ≡ e) ⊎ (result ≡ ending.Memory) → Stops e told_old told_new Is
    → result ≡ ending.ReadFailed → ⊥
no_read_failed told_old told_new Is e result only stops is =
    let P : Ending → Type 0 = λ x. Stops x told_old told_new Is in
    elim only [ inl h ↦ subst P (sym h ∙ is) stops | inr h ↦ absurd (cc) ]
