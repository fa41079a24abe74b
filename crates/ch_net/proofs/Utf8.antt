-- What a line of bytes is as a message.
use Rattle.std.proofs.Common.{◌≡◌, ◌∙◌, ap, sym, refl, ℕ, List, Bool, true, false}
use Rattle.std.specs.Prelude.{cond}
use Rattle.std.specs.Str.{is_utf8, IsUtf8}
use Rattle.std.proofs.lemmas.Str.{IsUtf8-from_is_utf8, is_utf8-from_IsUtf8}
use Rattle.ch_net.specs.Lines.{message_of}
use Rattle.ch_net.specs.declared.wire.Message.TheVariants as message

pub text_of : (line text copied : List ℕ) → copied ≡ text → text ≡ line → IsUtf8 line → message.Text copied ≡ message_of line
text_of line text copied same read good =
    ap message.Text (same ∙ read) ∙ ap (λ (b : Bool). cond b (message.Text line) message.Binary) (sym (is_utf8-from_IsUtf8 line good))

binary_by : (line : List ℕ) (b : Bool) → is_utf8 line ≡ b → (IsUtf8 line → ⊥) → message.Binary ≡ cond b (message.Text line) message.Binary
binary_by line true e bad = absurd (bad (IsUtf8-from_is_utf8 line e))
binary_by line false e bad = refl

pub binary_of : (line : List ℕ) → (IsUtf8 line → ⊥) → message.Binary ≡ message_of line
binary_of line bad = binary_by line (is_utf8 line) refl bad
