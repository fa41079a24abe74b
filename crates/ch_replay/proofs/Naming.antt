-- The line that is named at the end.
use Rattle.std.proofs.Common.{◌≡◌, ℕ, ◌+◌, ◌≤◌, sym, refl, subst, inl, inr, List, [], ◌∷◌, ◌++◌, append-nil, arith}
use Rattle.std.specs.Prelude.{Option, None}
use Rattle.std.specs.Io.KnownBytes.{Consumes, Appends}
use Rattle.ch_config.specs.declared.config.Config.{Config}
use Rattle.ch_io.specs.Counts.{Rose}
use Rattle.ch_outcomes.specs.Answered.{Refusal, IsReadTo}
use Rattle.ch_transcript.specs.Printing.{error_line, long_line}
use Rattle.ch_transcript.specs.Replayed.{status_of}
use Rattle.ch_transcript.specs.Outcomes.{Plays, HasOutcome, ends}
use Rattle.ch_transcript.specs.Progress.{Progress}
use Rattle.ch_transcript.specs.declared.ending.Ending.{Ending}
use Rattle.ch_transcript.specs.declared.ending.Ending.TheVariants as ending
use Rattle.ch_transcript.proofs.Carrying.{moved, Carries-refused, Carries-last_refused, Carries-long}
use Rattle.ch_player.specs.declared.player.Player.{Player}
use Rattle.ch_replay.proofs.LineEnds.{line_ends_more}
use Rattle.ch_replay.proofs.Running.{Runs, further, nothing_more}
use Rattle.ch_replay.specs.Reading.{ReadsLine}
use Rattle.ch_replay.specs.Serving.{Stops, EndsAt, Names}
use Rattle.ch_replay.specs.declared.line_reader.Next.TheVariants as next

-- a line ends the replay, and is named where it was refused
names_stop : (config : Config) (lo lk : Option (List ℕ)) {Sink : Type 0} (told : Sink → Option (List ℕ)) (faults : Sink → ℕ) (old now mid last : Sink) (n : ℕ) (p : Progress) (wrote line read : List ℕ)
    → faults old ≤ faults mid → Consumes lo lk read → Appends (told old) (told now) wrote → (Plays config p line None → HasOutcome config read (ends 4 (wrote ++ error_line n))) → IsReadTo n read lk
    → (e result : Ending) → Stops e (told now) (told mid) (Plays config p line) → EndsAt e n result (told mid) (told last) (Rose (faults mid) (faults last)) → Names config lo lk Sink told faults old last result
names_stop config lo lk {Sink} told faults old now mid last n p wrote line read later consumed gained refused to ending.NotALine result s ends =
    let P : Ending → Type 0 = λ x. Names config lo lk Sink told faults old last x in
    elim ends [
      | inl h ↦ subst P (sym h.0) (
        record {
          number = n;
          read = read;
          front = wrote;
          consumed = consumed;
          judged = refused s.0;
          before = mid;
          later = later;
          gained = nothing_more (told old) (told now) (told mid) wrote gained s.1;
          named = h.1;
        },
        to,
      )
      | inr h ↦ subst P (sym h.0) tt
    ]
names_stop config lo lk {Sink} told faults old now mid last n p wrote line read later consumed gained refused to ending.WriteFailed result s ends =
    let P : Ending → Type 0 = λ x. Names config lo lk Sink told faults old last x in subst P (sym ends.0) tt
names_stop config lo lk {Sink} told faults old now mid last n p wrote line read later consumed gained refused to ending.Memory result s ends =
    let P : Ending → Type 0 = λ x. Names config lo lk Sink told faults old last x in subst P (sym ends.0) tt
names_stop config lo lk told faults old now mid last n p wrote line read later consumed gained refused to ending.Done result s ends = absurd s
names_stop config lo lk told faults old now mid last n p wrote line read later consumed gained refused to ending.LongLine result s ends = absurd s
names_stop config lo lk told faults old now mid last n p wrote line read later consumed gained refused to ending.ReadFailed result s ends = absurd s

pub Runs-names : {config : Config} {lo ln lk : Option (List ℕ)} {m mk n : ℕ} {player : Player} {pending line new : List ℕ} {Sink : Type 0} (told : Sink → Option (List ℕ)) (faults : Sink → ℕ) (old now mid last : Sink)
    → faults old ≤ faults mid → (r : Runs config lo ln (told old) (told now) m n player pending) → ReadsLine ln lk m mk pending next.Whole line new
    → (e result : Ending) → Stops e (told now) (told mid) (Plays config r.p line) → EndsAt e n result (told mid) (told last) (Rose (faults mid) (faults last)) → Names config lo lk Sink told faults old last result
Runs-names {config} {lo} {ln} {lk} {n = n} {pending = pending} {line} {new} told faults old now mid last later r reads e result s ends =
    let seen = line ++ 10 ∷ new in
    let consumed = further lo ln lk r.done pending reads.bytes seen r.consumed reads.consumed reads.gives.0 in
    names_stop config lo lk told faults old now mid last n r.p r.wrote line (r.done ++ seen) later consumed r.gained
    (λ bad. moved config (append-nil (r.done ++ seen)) refl (Carries-refused (r.done ++ seen) line new [] r.carries refl reads.gives.1 reads.gives.2 bad))
    (inr (omega (arith, r.numbered, line_ends_more r.done line new reads.gives.1)))
    e result s ends

pub Runs-names_last : {config : Config} {lo ln lk : Option (List ℕ)} {m mk n : ℕ} {player : Player} {pending line new : List ℕ} {Sink : Type 0} (told : Sink → Option (List ℕ)) (faults : Sink → ℕ) (old now mid last : Sink)
    → faults old ≤ faults mid → (r : Runs config lo ln (told old) (told now) m n player pending) → ReadsLine ln lk m mk pending next.Last line new
    → (e result : Ending) → Stops e (told now) (told mid) (Plays config r.p line) → EndsAt e n result (told mid) (told last) (Rose (faults mid) (faults last)) → Names config lo lk Sink told faults old last result
Runs-names_last {config} {lo} {ln} {lk} {n = n} {pending = pending} {line} told faults old now mid last later r reads e result s ends =
    let consumed = further lo ln lk r.done pending reads.bytes line r.consumed reads.consumed reads.gives.0 in
    names_stop config lo lk told faults old now mid last n r.p r.wrote line (r.done ++ line) later consumed r.gained
    (λ bad. Carries-last_refused (r.done ++ line) line r.carries refl reads.gives.1 reads.gives.2 reads.gives.3 bad)
    (inl reads.ended)
    e result s ends

pub Runs-names_long : {config : Config} {lo ln lk : Option (List ℕ)} {m mk n : ℕ} {player : Player} {pending line new : List ℕ} {Sink : Type 0} (told : Sink → Option (List ℕ)) (faults : Sink → ℕ) (old now last : Sink)
    → faults old ≤ faults now → (r : Runs config lo ln (told old) (told now) m n player pending) → ReadsLine ln lk m mk pending next.Long line new
    → (result : Ending) → EndsAt ending.LongLine n result (told now) (told last) (Rose (faults now) (faults last)) → Names config lo lk Sink told faults old last result
Runs-names_long {config} {lo} {ln} {lk} {n = n} {pending = pending} {line} {Sink = Sink} told faults old now last later r reads result ends =
    let P : Ending → Type 0 = λ x. Names config lo lk Sink told faults old last x in
    let more = reads.gives.0.0 in
    let seen = line ++ more in
    elim ends [
      | inl h ↦ subst P (sym h.0) record {
        number = n;
        read = r.done ++ seen;
        front = r.wrote;
        consumed = further lo ln lk r.done pending reads.bytes seen r.consumed reads.consumed reads.gives.0.1;
        judged = moved config (append-nil (r.done ++ seen)) refl (Carries-long (r.done ++ seen) line more [] r.carries refl reads.gives.1 reads.gives.2);
        before = now;
        later = later;
        gained = r.gained;
        named = h.1;
      }
      | inr h ↦ subst P (sym h.0) tt
    ]

-- ---- by the status

pub named_four : (config : Config) (lo lk : Option (List ℕ)) {Sink : Type 0} (told : Sink → Option (List ℕ)) (faults : Sink → ℕ) (old last : Sink) (e : Ending) → Names config lo lk Sink told faults old last e → status_of e ≡ 4
    → (r : Refusal config 4 error_line lo lk Sink told faults old last) × IsReadTo r.number r.read lk
named_four config lo lk told faults old last ending.NotALine h is = h
named_four config lo lk told faults old last ending.Done h is = absurd (cc)
named_four config lo lk told faults old last ending.LongLine h is = absurd (cc)
named_four config lo lk told faults old last ending.ReadFailed h is = absurd (cc)
named_four config lo lk told faults old last ending.WriteFailed h is = absurd (cc)
named_four config lo lk told faults old last ending.Memory h is = absurd (cc)

pub named_eight : (config : Config) (lo lk : Option (List ℕ)) {Sink : Type 0} (told : Sink → Option (List ℕ)) (faults : Sink → ℕ) (old last : Sink) (e : Ending) → Names config lo lk Sink told faults old last e → status_of e ≡ 8
    → Refusal config 8 long_line lo lk Sink told faults old last
named_eight config lo lk told faults old last ending.LongLine h is = h
named_eight config lo lk told faults old last ending.Done h is = absurd (cc)
named_eight config lo lk told faults old last ending.NotALine h is = absurd (cc)
named_eight config lo lk told faults old last ending.ReadFailed h is = absurd (cc)
named_eight config lo lk told faults old last ending.WriteFailed h is = absurd (cc)
named_eight config lo lk told faults old last ending.Memory h is = absurd (cc)
