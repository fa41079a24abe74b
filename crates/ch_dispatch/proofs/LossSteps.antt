-- The losses of a session, made one after another.
use Rattle.std.proofs.Common.{◌≡◌, ℕ, zero, suc, false, true, List, [], ◌∷◌, ◌++◌, take, drop, length, length-append, ap, sym, subst, refl, ◌∙◌, append-nil, arith}
use Rattle.std.specs.Prelude.{Some, None, slice_get}
use Rattle.std.proofs.lemmas.Bool.{false≢true}
use Rattle.std.proofs.lemmas.List.{map-append}
use Rattle.std.proofs.lemmas.List.Elements.{All-nil, All-cons, All-append}
use Rattle.ch_config.specs.declared.config.Config.{Config}
use Rattle.ch_desk.specs.OwnEntries.{Makes, Gains, IsAnswered, was_made, entry_on_chan, entry_on_user}
use Rattle.ch_desk.specs.Views.{DeskView, MayAsk}
use Rattle.ch_desk.proofs.OwnEntries.{Makes-none, Makes-then}
use Rattle.ch_history.specs.Limits.{IsMoment}
use Rattle.ch_protocol.specs.Asks.{Asked, ComesOf}
use Rattle.ch_protocol.specs.Settling.{SettledAsk}
use Rattle.ch_protocol.specs.declared.ask.Ask.{Ask}
use Rattle.ch_protocol.specs.declared.ask.Ask.TheVariants.{Chan, User}
use Rattle.ch_protocol.specs.declared.ask.Made.{Made}
use Rattle.ch_protocol.specs.declared.ask.Made.TheVariants as made
use Rattle.ch_session.specs.Judging.{IsSoundAsk}
use Rattle.ch_session.specs.Kept.{Kept, HasShardsOf, IsSession, losses_left}
use Rattle.ch_session.specs.Losses.{IsNextUsed}
use Rattle.ch_dispatch.specs.Losses.{IsOverDesk, OwesLoss, MakesLosses, AreAllLosses}
use Rattle.ch_dispatch.proofs.Heeded.{may_ask, desk_after}

-- ---- lists

take_next : {A : Type 0} (n : ℕ) (xs : List A) (a : A) → slice_get (drop n xs) 0 ≡ Some a → take (suc n) xs ≡ take n xs ++ a ∷ []
take_next zero [] a is = cc
take_next zero (x ∷ xs) a is = cc
take_next (suc n) [] a is = cc
take_next (suc n) (x ∷ xs) a is = ap (λ z. x ∷ z) (take_next n xs a is)

-- none is left behind the first n, so they are all
take_whole : {A : Type 0} (n : ℕ) (xs : List A) → slice_get (drop n xs) 0 ≡ None → take n xs ≡ xs
take_whole zero [] none = refl
take_whole zero (x ∷ xs) none = cc
take_whole (suc n) [] none = refl
take_whole (suc n) (x ∷ xs) none = ap (λ z. x ∷ z) (take_whole n xs none)

drop_next : {A : Type 0} (n : ℕ) (xs : List A) → drop 1 (drop n xs) ≡ drop (suc n) xs
drop_next zero [] = refl
drop_next zero (x ∷ xs) = refl
drop_next (suc n) [] = refl
drop_next (suc n) (x ∷ xs) = drop_next n xs

one_more : (asked : List Asked) (x : Asked) → length (asked ++ x ∷ []) ≡ suc (length asked)
one_more asked x = length-append asked (x ∷ []) ∙ omega arith

-- ---- an ask without memory

no_chan_entry : (caller k : ℕ) (ask : Ask) (came : Made) → was_made came ≡ false → entry_on_chan caller k ask came ≡ []
no_chan_entry caller k ask (made.Chan answer) none = cc
no_chan_entry caller k ask (made.User answer) none = cc
no_chan_entry caller k (Chan shard call) made.Memory none = refl
no_chan_entry caller k (User shard call) made.Memory none = refl

no_user_entry : (caller k : ℕ) (ask : Ask) (came : Made) → was_made came ≡ false → entry_on_user caller k ask came ≡ []
no_user_entry caller k ask (made.Chan answer) none = cc
no_user_entry caller k ask (made.User answer) none = cc
no_user_entry caller k (Chan shard call) made.Memory none = refl
no_user_entry caller k (User shard call) made.Memory none = refl

-- it leaves no entry
Makes-unmade : (ask : Ask) (came : Made) (a b : DeskView) → was_made came ≡ false → Makes (record { ask = ask; came = came } ∷ []) a b → Makes [] a b
Makes-unmade ask came a b is calls = record {
  may = All-nil (MayAsk a);
  same = calls.same;
  chans = λ k. subst (λ own. Gains a.caller own (a.chans k) (b.chans k))
      (append-nil (entry_on_chan a.caller k ask came) ∙ no_chan_entry a.caller k ask came is) (calls.chans k);
  users = λ k. subst (λ own. Gains a.caller own (a.users k) (b.users k))
      (append-nil (entry_on_user a.caller k ask came) ∙ no_user_entry a.caller k ask came is) (calls.users k);
}

-- ---- what the loop keeps

-- these losses were made, and the session stands for what it stood for
pub record Losing (now : ℕ) (old s : Kept) (desk mid : DeskView) : Type 0 where
  pub asked : List Asked
  pub losses : MakesLosses now asked old s desk mid
  pub stays : (start number : ℕ) (asks : List SettledAsk) → IsSession old start number asks → IsSession s start number asks

pub Losing-start : (now : ℕ) (s : Kept) (desk : DeskView) → Losing now s s desk desk
Losing-start now s desk = record {
  asked = [];
  losses = record {
    order = λ start number asks is. refl;
    left = λ start number at asks is. refl;
    answered = All-nil IsAnswered;
    calls = Makes-none desk;
    same = refl;
  };
  stays = λ start number asks is. is;
}

pub Losing-next : (now : ℕ) (old s after : Kept) (desk mid new : DeskView) (ask : Ask) (came : Made) → Losing now old s desk mid
    → ((start number : ℕ) (asks : List SettledAsk) → IsSession s start number asks → Some ask ≡ slice_get (losses_left s asks now) 0)
    → Makes (record { ask = ask; came = came } ∷ []) mid new → ComesOf ask came → was_made came ≡ true
    → ((start number at : ℕ) (asks : List SettledAsk) → IsSession s start number asks → losses_left after asks at ≡ drop 1 (losses_left s asks at))
    → after ≡ record s { lost = after.lost }
    → ((start number : ℕ) (asks : List SettledAsk) → IsSession s start number asks → IsSession after start number asks)
    → Losing now old after desk new
Losing-next now old s after desk mid new ask came l next calls comes answered made same stands =
    let x : Asked = record { ask = ask; came = came } in
    let h = l.losses in
    record {
      asked = l.asked ++ x ∷ [];
      losses = record {
        order = λ start number asks is.
            let xs = losses_left old asks now in
            let at : slice_get (drop (length l.asked) xs) 0 ≡ Some ask =
            ap (λ z. slice_get z 0) (sym (h.left start number now asks is)) ∙ sym (next start number asks (l.stays start number asks is)) in
            map-append (λ (y : Asked). y.ask) l.asked (x ∷ []) ∙ ap (λ z. z ++ ask ∷ []) (h.order start number asks is)
            ∙ sym (take_next (length l.asked) xs ask at) ∙ ap (λ n. take n xs) (sym (one_more l.asked x));
        left = λ start number at asks is.
            made start number at asks (l.stays start number asks is) ∙ ap (λ z. drop 1 z) (h.left start number at asks is)
            ∙ drop_next (length l.asked) (losses_left old asks at) ∙ ap (λ n. drop n (losses_left old asks at)) (sym (one_more l.asked x));
        answered = All-append IsAnswered l.asked (x ∷ []) h.answered (All-cons IsAnswered x [] (comes, answered) (All-nil IsAnswered));
        calls = Makes-then l.asked (x ∷ []) desk mid new h.calls calls;
        same = same ∙ ap (λ (k : Kept). record k { lost = after.lost }) h.same;
      };
      stays = λ start number asks is. stands start number asks (l.stays start number asks is);
    }

-- ---- how it ends

-- one loss found no memory
pub losses_stop : {B : Type 0} (now : ℕ) (old s : Kept) (desk mid new : DeskView) (ask : Ask) (came : Made) (none : B) → Losing now old s desk mid
    → Makes (record { ask = ask; came = came } ∷ []) mid new → was_made came ≡ false
    → (asked : List Asked) × MakesLosses now asked old s desk new × B
losses_stop now old s desk mid new ask came none l calls is =
    let h = l.losses in (
      l.asked,
      record {
        order = h.order;
        left = h.left;
        answered = h.answered;
        calls = subst (λ xs. Makes xs desk new) (append-nil l.asked) (Makes-then l.asked [] desk mid new h.calls (Makes-unmade ask came mid new is calls));
        same = h.same;
      },
      none,
    )

-- none is left
pub losses_all : (now : ℕ) (old s : Kept) (desk mid : DeskView) → Losing now old s desk mid
    → ((start number : ℕ) (asks : List SettledAsk) → IsSession s start number asks → None ≡ slice_get (losses_left s asks now) 0)
    → (asked : List Asked) × MakesLosses now asked old s desk mid × AreAllLosses now asked old
losses_all now old s desk mid l none = (
  l.asked,
  l.losses,
  λ start number asks is.
      l.losses.order start number asks is
      ∙ take_whole (length l.asked) (losses_left old asks now)
      (ap (λ z. slice_get z 0) (sym (l.losses.left start number now asks is)) ∙ sym (none start number asks (l.stays start number asks is))),
)

-- ---- the next loss may be made

pub over_still : (old s : Kept) (xs : List Asked) (a b : DeskView) → s ≡ record old { lost = s.lost } → Makes xs a b → IsOverDesk old a → IsOverDesk s b
over_still old s xs a b same calls is = record {
  config = is.config;
  over = subst (λ k. HasShardsOf k is.config) (sym same) (record { chans = is.over.chans; shards = is.over.shards });
  shards = desk_after is.config xs a b calls is.shards;
}

pub next_may : (now : ℕ) (s : Kept) (mid : DeskView) (ask : Ask) → IsMoment now → IsOverDesk s mid
    → ((config : Config) → HasShardsOf s config → IsMoment now → IsSoundAsk config ask) → MayAsk mid ask
next_may now s mid ask moment is sound = may_ask is.config mid is.shards ask (sound is.config is.over moment)

-- none is left to be made
pub owes_none : (s : Kept) → IsNextUsed s.told.used s.lost None → OwesLoss s → ⊥
owes_none s none owes =
    let x = owes.1 in
    false≢true (sym (none owes.0 x.0 x.1) ∙ x.2)
