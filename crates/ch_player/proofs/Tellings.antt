-- Frames that are told one after another.
use Rattle.std.proofs.Common.{◌≡◌, ℕ, ◌∙◌, ap, sym, refl, subst, List, [], ◌∷◌, ◌++◌, append_assoc, append-nil}
use Rattle.ch_base.specs.declared.frame.FrameFor.{FrameFor}
use Rattle.ch_transcript.specs.Progress.{Socket}
use Rattle.ch_transcript.specs.Rounds.{Telling, tells, tells_all}
use Rattle.ch_player.specs.Seats.{AreSeats, SameSessions, AddsTelling}
use Rattle.ch_player.specs.declared.seat.Seat.{Seat}
use Rattle.std.specs.Prelude.{Option}

-- one telling, and another after it
abbrev pub then_tells : Telling → Telling → Telling
then_tells a b = record { text = a.text ++ b.text; sockets = b.sockets }

-- the frames of two lists
pub tells_all-append : (sockets : List Socket) (xs ys : List FrameFor)
    → tells_all sockets (xs ++ ys) ≡ then_tells (tells_all sockets xs) (tells_all (tells_all sockets xs).sockets ys)
tells_all-append sockets [] ys = refl
tells_all-append sockets (x ∷ xs) ys =
    let first = tells sockets x in
    let rest = tells_all-append first.sockets xs ys in
    ap (then_tells first) rest ∙ ap (λ z. record { text = z; sockets = (tells_all (tells_all first.sockets xs).sockets ys).sockets }) (sym (append_assoc first.text (tells_all first.sockets xs).text (tells_all (tells_all first.sockets xs).sockets ys).text))

-- what was told, and then more
pub Tells-then : (now : List (Option Seat)) (a b c : List ℕ) (t u : Telling) → b ≡ a ++ t.text → AddsTelling now b c u → AddsTelling now a c (then_tells t u)
Tells-then now a b c t u first more = record {
  text = more.text ∙ ap (λ z. z ++ u.text) first ∙ append_assoc a t.text u.text;
  seats = more.seats;
}

pub SameSessions-refl : (seats : List (Option Seat)) → SameSessions seats seats
SameSessions-refl seats = record { count = refl; each = λ i. refl }

pub SameSessions-then : (a b c : List (Option Seat)) → SameSessions a b → SameSessions b c → SameSessions a c
SameSessions-then a b c first more = record { count = more.count ∙ first.count; each = λ i. more.each i ∙ first.each i }

-- some of all the frames were told, and these are left
pub record TellsOn (now : List (Option Seat)) (old new : List ℕ) (all : Telling) (left : List FrameFor) : Type 0 where
  pub so_far : Telling
  pub tells : AddsTelling now old new so_far
  pub is : then_tells so_far (tells_all so_far.sockets left) ≡ all

pub TellsOn-first : (now : List (Option Seat)) (out : List ℕ) (sockets : List Socket) (frames : List FrameFor) → AreSeats now sockets
    → TellsOn now out out (tells_all sockets frames) frames
TellsOn-first now out sockets frames are = record {
  so_far = record { text = []; sockets = sockets };
  tells = record { text = sym (append-nil out); seats = are };
  is = refl;
}

-- the next frame was told
pub TellsOn-next : (before now : List (Option Seat)) (a b c : List ℕ) (all : Telling) (x : FrameFor) (xs : List FrameFor) (on : TellsOn before a b all (x ∷ xs))
    → AddsTelling now b c (tells on.so_far.sockets x) → TellsOn now a c all xs
TellsOn-next before now a b c all x xs on more =
    let one = tells on.so_far.sockets x in
    let rest = tells_all one.sockets xs in
    record {
      so_far = then_tells on.so_far one;
      tells = Tells-then now a b c on.so_far one on.tells.text more;
      is = ap (λ z. record { text = z; sockets = rest.sockets }) (append_assoc on.so_far.text one.text rest.text) ∙ on.is;
    }

-- none is left
pub TellsOn-last : (now : List (Option Seat)) (old new : List ℕ) (all : Telling) → TellsOn now old new all [] → AddsTelling now old new all
TellsOn-last now old new all on =
    let P : Telling → Type 0 = λ t. AddsTelling now old new t in
    subst P (ap (λ z. record { text = z; sockets = on.so_far.sockets }) (sym (append-nil on.so_far.text)) ∙ on.is) on.tells
