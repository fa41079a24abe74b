-- The messages of lines, and of the bytes that they stand in.
use Rattle.std.proofs.Common.{◌≡◌, ◌∙◌, ap, refl, ℕ, List, [], ◌∷◌, map, Bor}
use Rattle.ch_net.specs.Lines.{lines_in, message_of, messages_in}
use Rattle.ch_net.specs.declared.wire.Message.{Message}

now_then : (lines : List (Bor (List ℕ))) → map (λ line. message_of line.now) lines ≡ map message_of (map (λ line. line.now) lines)
now_then [] = refl
now_then (x ∷ xs) = ap (λ (ys : List Message). message_of x.now ∷ ys) (now_then xs)

pub messages_are : (lines : List (Bor (List ℕ))) (bytes all : List ℕ) (messages : List Message) → bytes ≡ all
    → map (λ line. line.now) lines ≡ lines_in bytes → messages ≡ map (λ line. message_of line.now) lines → messages ≡ messages_in all
messages_are lines bytes all messages joined parted made =
    made ∙ now_then lines ∙ ap (map message_of) (parted ∙ ap lines_in joined)
