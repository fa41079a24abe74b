-- Where no loss was made, the session and the desk are as they were.
use Rattle.std.proofs.Common.{ℕ, [], refl}
use Rattle.std.proofs.lemmas.List.Elements.{All-nil}
use Rattle.ch_desk.specs.OwnEntries.{IsAnswered, Makes}
use Rattle.ch_desk.specs.Views.{DeskView}
use Rattle.ch_session.specs.Kept.{Kept}
use Rattle.ch_socket.specs.Turns.{LosesAt}

pub no_losses : (at : ℕ) (session : Kept) (desk : DeskView) → Makes [] desk desk → LosesAt at session desk desk
no_losses at session desk none = (
  [],
  session,
  record {
    order = λ start number asks is. refl;
    left = λ start number later asks is. refl;
    answered = All-nil IsAnswered;
    calls = none;
    same = refl;
  },
)
