-- What was looked for, and is there or isn't.
use Rattle.std.proofs.Common.{◌≡◌, Some, refl, subst}
use Rattle.std.specs.Prelude.{Option, None, Result, Ok, Err, IfOk}
use Rattle.ch_members.specs.Readings.{Gives}

pub gives_some : {A : Type 0} (P : A → Type 0) (o : Option A) (x : A) → Gives P o → o ≡ Some x → P x
gives_some P o x h e = subst (Gives P) e h

pub gives_none : {A : Type 0} (P : A → Type 0) (o : Option A) → Gives P o → ((x : A) → o ≡ Some x → ⊥) → (x : A) → P x → ⊥
gives_none P (Some y) h other x k = other y refl
gives_none P None h other x k = h x k

-- what holds of each Ok holds after it
pub on_ok : {A E : Type 0} (P Q : A → Type 0) (r : Result A E) → ((x : A) → P x → Q x) → IfOk r P → IfOk r Q
on_ok P Q (Ok x) f h = f x h
on_ok P Q (Err e) f h = tt
