-- The asks of a message, made one after another.
use Rattle.std.proofs.Common.{◌≡◌, ◌⊎◌, inl, inr, ℕ, ◌+◌, ◌≤◌, ◌<◌, arith, true, false, List, [], ◌∷◌, ◌++◌, get_or, length, drop, ap, sym, subst, refl, ◌∙◌, append_assoc, length-append, append-nil}
use Rattle.std.specs.Prelude.{None, MatchBool, All}
use Rattle.std.proofs.lemmas.List.{drop_more, drop_all}
use Rattle.std.proofs.lemmas.List.Sums.{fold-append}
use Rattle.ch_desk.specs.OwnEntries.{Makes}
use Rattle.ch_desk.specs.Views.{DeskView, MayAsk}
use Rattle.ch_desk.proofs.OwnEntries.{Makes-none, Makes-then, MayAsk-after}
use Rattle.ch_protocol.specs.Asks.{Asked}
use Rattle.ch_protocol.specs.Sessions.{outcome}
use Rattle.ch_protocol.specs.Settling.{SettledAsk, settled_with}
use Rattle.ch_protocol.specs.declared.ask.Ask.{Ask}
use Rattle.ch_protocol.specs.declared.heard.Heard.TheVariants as heard
use Rattle.ch_protocol.specs.declared.heard.Settled.{Settled}
use Rattle.ch_session.specs.Kept.{Kept, IsSession, left_after}
use Rattle.ch_session.specs.Waits.{Awaits, HoldsData}
use Rattle.ch_dispatch.specs.Asking.{AsksOne, Responds}
use Rattle.ch_dispatch.specs.Hearing.{AtDesk}
use Rattle.ch_dispatch.specs.MadeAsks.{outcomes_from, AreMadeFrom, settled_all}
use Rattle.ch_dispatch.specs.Outcomes.{stops, frames_of, end_in, with_outcome, IsResponseTo}
use Rattle.ch_dispatch.specs.declared.response.Response.{Response}
use Rattle.ch_dispatch.proofs.LaterAsks.{later_silent}
use Rattle.ch_dispatch.proofs.Tellings.{end_more, response_more, goes_on, left_next, left_stop}

-- ---- the list of asks

-- the ask at a place, and those behind it
pub split_at : (asks slice : List Ask) (place index : ℕ) (ask : Ask) → place ≡ index → slice ≡ asks → index < length slice → ask ≡ get_or slice index ask
    → drop place asks ≡ ask ∷ drop (place + 1) asks
split_at asks slice place index ask here same inside is =
    subst (λ n. drop n asks ≡ ask ∷ drop (n + 1) asks) (sym here)
    (drop_more asks index ask (subst (λ l. index < length l) same inside) ∙ ap (λ x. x ∷ drop (index + 1) asks) (sym (is ∙ ap (λ l. get_or l index ask) same)))

pub may_at : (asks slice : List Ask) (place : ℕ) (ask : Ask) (xs : List Asked) (old desk : DeskView) → slice ≡ asks → place < length slice
    → ask ≡ get_or slice place ask → Makes xs old desk → All (MayAsk old) asks → MayAsk desk ask
may_at asks slice place ask xs old desk same inside is calls may =
    MayAsk-after xs old desk calls ask
    (subst (λ a. MayAsk old a) (sym (is ∙ ap (λ l. get_or l place ask) same)) (may place ask (subst (λ l. place < length l) same inside)))

outcomes_more : (user_data : List ℕ) (place : ℕ) (xs : List Asked) (x : Asked)
    → outcomes_from user_data place (xs ++ x ∷ []) ≡ outcomes_from user_data place xs ++ outcome user_data (place + length xs) x.came ∷ []
outcomes_more user_data place [] x = ap (λ p. outcome user_data p x.came ∷ []) (omega arith)
outcomes_more user_data place (y ∷ ys) x =
    ap (λ z. outcome user_data place y.came ∷ z) (outcomes_more user_data (place + 1) ys x
    ∙ ap (λ p. outcomes_from user_data (place + 1) ys ++ outcome user_data p x.came ∷ []) (omega arith))

-- ---- what the loop keeps

-- the asks before the place were made, none of which stops, and the response tells what they mean
pub record Carries (now : ℕ) (asks : List Ask) (old : AtDesk) (place : ℕ) (mid : AtDesk) (response : Response) : Type 0 where
  pub asked : List Asked
  pub outcomes : List Settled
  pub reaches : length asked ≡ place
  pub rest : (user_data : List ℕ) → HoldsData old.session.waits user_data → (more : List Asked)
      → AreMadeFrom user_data place (drop place asks) more → AreMadeFrom user_data 0 asks (asked ++ more)
  pub means : (user_data : List ℕ) → HoldsData old.session.waits user_data → outcomes ≡ outcomes_from user_data 0 asked
  pub holds : (user_data : List ℕ) → HoldsData old.session.waits user_data → HoldsData mid.session.waits user_data
  pub calls : Makes asked old.desk mid.desk
  pub tells : IsResponseTo outcomes response
  pub first : (outcomes ≡ []) ⊎ (1 ≤ place)
  pub goes_on : end_in outcomes ≡ None
  pub stands : (start number : ℕ) (l : List SettledAsk) → IsSession old.session start number l → IsSession mid.session start number (settled_all now l asked)
  pub waits : Awaits mid.session.waits place (drop place asks)
  pub same : mid.session ≡ record old.session { told = mid.session.told; waits = mid.session.waits }
  pub used : length mid.session.told.used ≡ length old.session.told.used

pub Carries-start : (now : ℕ) (asks : List Ask) (old : AtDesk) (response : Response) → response ≡ record { reply = None; end = None }
    → Awaits old.session.waits 0 asks → Carries now asks old 0 old response
Carries-start now asks old response nothing waits = record {
  asked = [];
  outcomes = [];
  reaches = refl;
  rest = λ user_data holds more made. made;
  means = λ user_data holds. refl;
  holds = λ user_data holds. holds;
  calls = Makes-none old.desk;
  tells = subst (λ r. IsResponseTo [] r) (sym nothing) (record { frames = refl; ends = refl });
  first = inl refl;
  goes_on = refl;
  stands = λ start number l is. is;
  waits = waits;
  same = refl;
  used = refl;
}

module _ (now : ℕ) (asks : List Ask) (old : AtDesk) (place : ℕ) (mid : AtDesk) (response : Response) (c : Carries now asks old place mid response)
    (ask : Ask) (new : AtDesk) (means : Settled) (one : AsksOne now place ask mid new means) (split : drop place asks ≡ ask ∷ drop (place + 1) asks) where
  abbrev next : Asked
  next = record { ask = ask; came = one.came }

  abbrev asked_then : List Asked
  asked_then = c.asked ++ next ∷ []

  abbrev outcomes_then : List Settled
  outcomes_then = c.outcomes ++ means ∷ []

  awaits_here : Awaits mid.session.waits place (ask ∷ drop (place + 1) asks)
  awaits_here = subst (λ xs. Awaits mid.session.waits place xs) split c.waits

  meaning_then : (user_data : List ℕ) → HoldsData old.session.waits user_data → means ≡ outcome user_data place one.came
  meaning_then user_data holds = one.meaning user_data (c.holds user_data holds)

  means_then : (user_data : List ℕ) → HoldsData old.session.waits user_data → outcomes_then ≡ outcomes_from user_data 0 asked_then
  means_then user_data holds =
      ap (λ z. z ++ means ∷ []) (c.means user_data holds)
      ∙ ap (λ o. outcomes_from user_data 0 c.asked ++ o ∷ []) (meaning_then user_data holds ∙ ap (λ p. outcome user_data p one.came) (omega (arith, c.reaches)))
      ∙ sym (outcomes_more user_data 0 c.asked next)

  calls_then : Makes asked_then old.desk new.desk
  calls_then = Makes-then c.asked (next ∷ []) old.desk mid.desk new.desk c.calls one.calls

  -- the first ask alone may tell a frame
  first_or_silent : (c.outcomes ≡ []) ⊎ (frames_of means ≡ [])
  first_or_silent = elim c.first [
    | inl first ↦ inl first
    | inr later ↦ inr (later_silent mid.session.waits place ask (drop (place + 1) asks) one.came means later awaits_here one.comes one.meaning)
  ]

  tells_then : (told : Response) → told ≡ with_outcome response means → IsResponseTo outcomes_then told
  tells_then told is = subst (λ r. IsResponseTo outcomes_then r) (sym is) (response_more c.outcomes means response c.tells c.goes_on first_or_silent)

  stands_then : (start number : ℕ) (l : List SettledAsk) → IsSession old.session start number l → IsSession new.session start number (settled_all now l asked_then)
  stands_then start number l is =
      subst (λ s. IsSession new.session start number s) (sym (fold-append (λ (s : List SettledAsk) (x : Asked). settled_with s x.ask x.came now) l c.asked (next ∷ [])))
      (one.stands start number (settled_all now l c.asked) (c.stands start number l is))

  -- the next ask is made, and then those that are left
  rest_then : (user_data : List ℕ) → HoldsData old.session.waits user_data → (more : List Asked)
      → MatchBool (stops (outcome user_data place one.came)) (more ≡ []) (AreMadeFrom user_data (place + 1) (drop (place + 1) asks) more)
      → AreMadeFrom user_data 0 asks (asked_then ++ more)
  rest_then user_data holds more made =
      subst (λ z. AreMadeFrom user_data 0 asks z) (sym (append_assoc c.asked (next ∷ []) more))
      (c.rest user_data holds (next ∷ more) (subst (λ xs. AreMadeFrom user_data place xs (next ∷ more)) (sym split) (refl, one.comes, made)))

  same_then : new.session ≡ record old.session { told = new.session.told; waits = new.session.waits }
  same_then = one.same ∙ ap (λ (s : Kept). record s { told = new.session.told; waits = new.session.waits }) c.same

  waits_then : (left : List Ask) → left_after means (drop (place + 1) asks) ≡ left → Awaits new.session.waits (place + 1) left
  waits_then left is = subst (λ xs. Awaits new.session.waits (place + 1) xs) is (one.waits (drop (place + 1) asks) awaits_here)

  -- the next ask is to be made
  pub Carries-next : (told : Response) → told ≡ with_outcome response means → stops means ≡ false → Carries now asks old (place + 1) new told
  Carries-next told is on = record {
    asked = asked_then;
    outcomes = outcomes_then;
    reaches = length-append c.asked (next ∷ []) ∙ ap (λ n. n + 1) c.reaches;
    rest = λ user_data holds more made. rest_then user_data holds more
        (subst (λ b. MatchBool b (more ≡ []) (AreMadeFrom user_data (place + 1) (drop (place + 1) asks) more))
        (sym (ap stops (sym (meaning_then user_data holds)) ∙ on)) made);
    means = means_then;
    holds = λ user_data holds. one.holds user_data (c.holds user_data holds);
    calls = calls_then;
    tells = tells_then told is;
    first = inr (omega arith);
    goes_on = end_more c.outcomes means c.goes_on ∙ goes_on means on;
    stands = stands_then;
    waits = waits_then (drop (place + 1) asks) (left_next means (drop (place + 1) asks) on);
    same = same_then;
    used = one.used ∙ c.used;
  }

  -- no more of them is
  pub Responds-stop : (told : Response) → told ≡ with_outcome response means → stops means ≡ true → Responds now (heard.Ask asks) old new told
  Responds-stop told is stop =
      let none : List Asked = [] in
      let nothing : none ≡ none = refl in
      record {
        asked = asked_then;
        outcomes = outcomes_then;
        made = λ user_data holds.
            subst (λ z. AreMadeFrom user_data 0 asks z) (append-nil asked_then) (rest_then user_data holds none
            (subst (λ b. MatchBool b (none ≡ none) (AreMadeFrom user_data (place + 1) (drop (place + 1) asks) none))
            (sym (ap stops (sym (meaning_then user_data holds)) ∙ stop)) nothing));
        comes = means_then;
        tells = tells_then told is;
        calls = calls_then;
        stands = stands_then;
        idle = waits_then [] (left_stop means (drop (place + 1) asks) stop);
        same = same_then;
        used = one.used ∙ c.used;
      }

none_made : (user_data : List ℕ) (place : ℕ) (left : List Ask) → left ≡ [] → AreMadeFrom user_data place left []
none_made user_data place [] none = refl
none_made user_data place (ask ∷ left) none = cc

-- all asks were made
pub Responds-all : (now : ℕ) (asks slice : List Ask) (old : AtDesk) (place : ℕ) (mid : AtDesk) (response : Response) → Carries now asks old place mid response
    → slice ≡ asks → length slice ≤ place → Responds now (heard.Ask asks) old mid response
Responds-all now asks slice old place mid response c same past =
    let none : drop place asks ≡ [] = drop_all place asks (subst (λ l. length l ≤ place) same past) in
    record {
      asked = c.asked;
      outcomes = c.outcomes;
      made = λ user_data holds.
          subst (λ z. AreMadeFrom user_data 0 asks z) (append-nil c.asked) (c.rest user_data holds [] (none_made user_data place (drop place asks) none));
      comes = c.means;
      tells = c.tells;
      calls = c.calls;
      stands = c.stands;
      idle = subst (λ xs. Awaits mid.session.waits place xs) none c.waits;
      same = c.same;
      used = c.used;
    }
