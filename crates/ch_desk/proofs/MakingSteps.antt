-- Asks that are made one after another.
use Rattle.std.proofs.Common.{◌≡◌, ℕ, ◌+◌, ◌<◌, ◌≤◌, get_or, List, [], ◌∷◌, ◌++◌, length, drop, ap, sym, subst, refl, ◌∙◌, append_assoc}
use Rattle.std.specs.Prelude.{All}
use Rattle.std.proofs.lemmas.List.{append-nil, drop_more, drop_all}
use Rattle.std.proofs.lemmas.List.Elements.{All-nil, All-push}
use Rattle.ch_protocol.specs.declared.ask.Ask.{Ask}
use Rattle.ch_protocol.specs.declared.ask.Made.{Made}
use Rattle.ch_protocol.specs.Asks.{Asked, asks_of, came_of}
use Rattle.ch_desk.specs.OwnEntries.{IsAnswered, Makes}
use Rattle.ch_desk.specs.Views.{DeskView, MayAsk}
use Rattle.ch_desk.proofs.OwnEntries.{Makes-none, Makes-then, MayAsk-after}

-- the asks before a place were made
pub record Begun (asks : List Ask) (answers : List Made) (place : ℕ) (old new : DeskView) : Type 0 where
  pub asked : List Asked
  pub calls : Makes asked old new
  pub came : came_of asked ≡ answers
  pub answered : All IsAnswered asked
  pub order : asks_of asked ++ drop place asks ≡ asks

pub Begun-none : (asks : List Ask) (answers : List Made) (desk : DeskView) → answers ≡ [] → Begun asks answers 0 desk desk
Begun-none asks answers desk none = record { asked = []; calls = Makes-none desk; came = sym none; answered = All-nil IsAnswered; order = refl }

-- the ask at a place, and those behind it
pub split_at : (asks slice : List Ask) (place : ℕ) (ask : Ask) → slice ≡ asks → place < length slice → ask ≡ get_or slice place ask → drop place asks ≡ ask ∷ drop (place + 1) asks
split_at asks slice place ask same inside is =
    drop_more asks place ask (subst (λ l. place < length l) same inside) ∙ ap (λ x. x ∷ drop (place + 1) asks) (sym (is ∙ ap (λ l. get_or l place ask) same))

pub May-at : (asks slice : List Ask) (place : ℕ) (ask : Ask) (xs : List Asked) (old desk : DeskView) → slice ≡ asks → place < length slice → ask ≡ get_or slice place ask
    → Makes xs old desk → All (MayAsk old) asks → MayAsk desk ask
May-at asks slice place ask xs old desk same inside is calls may =
    MayAsk-after xs old desk calls ask
    (subst (λ a. MayAsk old a) (sym (is ∙ ap (λ l. get_or l place ask) same)) (may place ask (subst (λ l. place < length l) same inside)))

asks-more : (asked : List Asked) (x : Asked) → asks_of (asked ++ x ∷ []) ≡ asks_of asked ++ x.ask ∷ []
asks-more [] x = refl
asks-more (y ∷ ys) x = ap (λ z. y.ask ∷ z) (asks-more ys x)

came-more : (asked : List Asked) (x : Asked) → came_of (asked ++ x ∷ []) ≡ came_of asked ++ x.came ∷ []
came-more [] x = refl
came-more (y ∷ ys) x = ap (λ z. y.came ∷ z) (came-more ys x)

pub Begun-next : (asks : List Ask) (answers more : List Made) (place : ℕ) (old mid new : DeskView) (ask : Ask) (came : Made) → Begun asks answers place old mid
    → drop place asks ≡ ask ∷ drop (place + 1) asks → Makes (record { ask = ask; came = came } ∷ []) mid new → more ≡ answers ++ came ∷ [] → IsAnswered (record { ask = ask; came = came })
    → Begun asks more (place + 1) old new
Begun-next asks answers more place old mid new ask came b here one added answered = record {
  asked = b.asked ++ record { ask = ask; came = came } ∷ [];
  calls = Makes-then b.asked (record { ask = ask; came = came } ∷ []) old mid new b.calls one;
  answered = All-push IsAnswered b.asked (record { ask = ask; came = came }) b.answered answered;
  came = came-more b.asked (record { ask = ask; came = came }) ∙ ap (λ z. z ++ came ∷ []) b.came ∙ sym added;
  order = ap (λ z. z ++ drop (place + 1) asks) (asks-more b.asked (record { ask = ask; came = came }))
      ∙ append_assoc (asks_of b.asked) (ask ∷ []) (drop (place + 1) asks)
      ∙ ap (λ z. asks_of b.asked ++ z) (sym here) ∙ b.order;
}

pub Begun-all : (asks slice : List Ask) (answers : List Made) (place : ℕ) (old new : DeskView) → Begun asks answers place old new → slice ≡ asks
    → length slice ≤ place → (asked : List Asked) × ((asks_of asked ≡ asks) × (came_of asked ≡ answers) × All IsAnswered asked) × Makes asked old new
Begun-all asks slice answers place old new b same past = (
  b.asked,
  (sym (append-nil (asks_of b.asked)) ∙ ap (λ z. asks_of b.asked ++ z) (sym (drop_all place asks (subst (λ l. length l ≤ place) same past))) ∙ b.order, b.came, b.answered),
  b.calls,
)

-- one more ask was made, after which there was no memory
pub Begun-stop : (asks : List Ask) (answers : List Made) (place : ℕ) (old mid new : DeskView) (ask : Ask) (came : Made) → Begun asks answers place old mid
    → drop place asks ≡ ask ∷ drop (place + 1) asks → Makes (record { ask = ask; came = came } ∷ []) mid new
    → (asked : List Asked) × ((rest : List Ask) × (asks ≡ asks_of asked ++ rest)) × Makes asked old new
Begun-stop asks answers place old mid new ask came b here one =
    let x : Asked = record { ask = ask; came = came } in
    let order : asks ≡ asks_of (b.asked ++ x ∷ []) ++ drop (place + 1) asks =
    sym (ap (λ z. z ++ drop (place + 1) asks) (asks-more b.asked x) ∙ append_assoc (asks_of b.asked) (ask ∷ []) (drop (place + 1) asks)
    ∙ ap (λ z. asks_of b.asked ++ z) (sym here) ∙ b.order) in
    (b.asked ++ x ∷ [], (drop (place + 1) asks, order), Makes-then b.asked (x ∷ []) old mid new b.calls one)
