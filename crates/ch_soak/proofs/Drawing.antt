-- What the drawn lines say.
use Rattle.std.proofs.Common.{◌≡◌, ℕ, ◌+◌, ◌^◌, ◌<◌, ◌≤◌, Bool, true, false, ◌&&◌, not, cond, nat_le, refl, ap, ◌∙◌, List, [], ◌∷◌, ◌++◌, length, append_assoc, append-nil, arith, codes, map}
use Rattle.std.specs.Prelude.{Option, Some, None, ◌==◌}
use Rattle.std.specs.Fmt.{decimal}
use Rattle.std.specs.List.{list_all}
use Rattle.std.proofs.lemmas.Bool.{leb-true}
use Rattle.std.proofs.lemmas.Fmt.{length-decimal-le}
use Rattle.ch_base.specs.JsonText.{byte, Chars, is_unescaped, IsJsonString}
use Rattle.ch_history.specs.ChannelName.{is_good_name}
use Rattle.ch_history.specs.Limits.{is_event_name}
use Rattle.ch_transcript.specs.declared.commands.Command.{Command}
use Rattle.ch_transcript.specs.declared.commands.Command.TheVariants.{Say, Join, SignIn, Publish, Hooks}
use Rattle.ch_transcript.specs.Commands.{first_part, more_parts, number_in, command_of, command_in, command_by, join_in, join_of, say_in, sign_in_in, publish_on, publish_of}
use Rattle.ch_base.specs.declared.limits.TheConstants.{LATEST_MOMENT}
use Rattle.ch_soak.specs.declared.limits.TheConstants.{MOST_LINES}
use Rattle.ch_soak.specs.declared.draws.Action.{Action}
use Rattle.ch_soak.specs.declared.draws.Action.TheVariants as action
use Rattle.ch_soak.specs.declared.draws.Draws.{Draws}
use Rattle.ch_soak.specs.Generator.{channel_of, has_members, member_of, join_command, unsubscribe_command, publish_command, say_command, sign_in_command, command_of as drawn_command}
use Rattle.ch_soak.proofs.Bytes.{is_digit, is_plain, Plain, Plain-append, and_both, both_true, at_least, differs, differs_below, digits_no_blank, digit_least, digit_most, digit_is_plain, digits_are, all_also}
use Rattle.ch_soak.proofs.WordsOfLines.{Word, first_of, more_of, first_whole, more_whole, number_of}
use Rattle.ch_soak.proofs.Keeping.{Sure}

-- ---- pieces

pub plain_of : (k : ℕ) (xs : List ℕ) → list_all is_plain xs ≡ true → nat_le (length xs) k ≡ true → Plain k xs
plain_of k xs a b = (a, leb-true (length xs) k b)

pub number_plain : (n : ℕ) → n < 10 ^ 19 → Plain 20 (decimal n)
number_plain n small = (
  all_also is_digit is_plain digit_is_plain (decimal n) (digits_are n (omega (arith, small))),
  length-decimal-le 20 n (omega arith) (omega (arith, small)) (omega (arith, small)),
)

-- of the six names
pub pick : (P : List ℕ → Type 0) (b : Bool) (x y : List ℕ) → P x → P y → P (cond b x y)
pick P true x y a b = a
pick P false x y a b = b

abbrev IsChannel : List ℕ → Type 0
IsChannel c = (is_good_name c ≡ true) × Word c × Plain 16 c

channel_is : (c : List ℕ) → is_good_name c ≡ true → Word c → list_all is_plain c ≡ true → nat_le (length c) 16 ≡ true → IsChannel c
channel_is c good word plain short = (good, word, plain_of 16 c plain short)

each_channel : (c : ℕ) → IsChannel (channel_of c)
each_channel c =
    pick IsChannel (c == 0) (codes "a") _ (channel_is (codes "a") refl refl refl refl)
    (pick IsChannel (c == 1) (codes "b") _ (channel_is (codes "b") refl refl refl refl)
    (pick IsChannel (c == 2) (codes "cache-c") _ (channel_is (codes "cache-c") refl refl refl refl)
    (pick IsChannel (c == 3) (codes "private-p") _ (channel_is (codes "private-p") refl refl refl refl)
    (pick IsChannel (c == 4) (codes "presence-q") (codes "presence-cache-z") (channel_is (codes "presence-q") refl refl refl refl)
    (channel_is (codes "presence-cache-z") refl refl refl refl)))))

member_plain : (d : Draws) → d.user < 10 ^ 19 → Plain 60 (member_of d)
member_plain d small =
    pick (Plain 60) (has_members d.channel) (codes " {\"user_id\":\"u" ++ decimal d.user ++ codes "\"}") []
    (Plain-append 40 20 (codes " {\"user_id\":\"u" ++ decimal d.user) (codes "\"}")
    (Plain-append 20 20 (codes " {\"user_id\":\"u") (decimal d.user) (plain_of 20 (codes " {\"user_id\":\"u") refl refl) (number_plain d.user small))
    (plain_of 20 (codes "\"}") refl refl))
    (plain_of 60 [] refl refl)

-- ---- words

pub by_word : (word rest : List ℕ) → Word word → command_of (word ++ 32 ∷ rest) ≡ command_by word rest
by_word word rest none = ap (λ z. command_in z (more_parts (word ++ 32 ∷ rest))) (first_of word rest none) ∙ ap (command_in word) (more_of word rest none)

-- a number, and what follows it
numbered : (F : Option ℕ → Option (List ℕ) → Option Command) (n : ℕ) (more : List ℕ) → n ≤ LATEST_MOMENT → Word (decimal n)
    → F (number_in (first_part (decimal n ++ 32 ∷ more))) (more_parts (decimal n ++ 32 ∷ more)) ≡ F (Some n) (Some more)
numbered F n more small none =
    ap (λ z. F (number_in z) (more_parts (decimal n ++ 32 ∷ more))) (first_of (decimal n) more none)
    ∙ (ap (λ z. F z (more_parts (decimal n ++ 32 ∷ more))) (number_of n small)
    ∙ ap (F (Some n)) (more_of (decimal n) more none))

-- ---- the body of a publish

digit_unescaped : (b : ℕ) → is_digit b ≡ true → is_unescaped b ≡ true
digit_unescaped b h =
    let below : (b == 92) ≡ false = differs_below b 92 (omega (arith, digit_most b h)) in
    both_true (nat_le 32 b) (not (b == 34) && not (b == 92)) (at_least 32 b (omega (arith, digit_least b h)))
    (both_true (not (b == 34)) (not (b == 92)) (ap not (differs b 34 (omega (arith, digit_least b h)))) (ap not below))

digit_chars : (ds : List ℕ) → list_all is_digit ds ≡ true → Chars (map byte ds) (ds ++ 34 ∷ []) []
digit_chars [] a = refl
digit_chars (x ∷ ds) a =
    let both = and_both (is_digit x) (list_all is_digit ds) a in (digit_unescaped x both.0, (ds ++ 34 ∷ [], refl, digit_chars ds both.1))

number_string : (n : ℕ) → n < 2 ^ 64 → IsJsonString (34 ∷ (decimal n ++ 34 ∷ []))
number_string n small = (map byte (decimal n), (decimal n ++ 34 ∷ [], refl, digit_chars (decimal n) (digits_are n small)))

-- ---- commands

-- a text says a command that is sure to be obeyed
pub record Said (text : List ℕ) : Type 0 where
  pub command : Command
  pub says : command_of text ≡ Some command
  pub sure : Sure command
  pub size : ℕ
  pub small : size ≤ 400
  pub plain : Plain size text

number_word : (n : ℕ) → n < 2 ^ 64 → Word (decimal n)
number_word n small = digits_no_blank (decimal n) (digits_are n small)

four : (a b c d : List ℕ) → a ++ b ++ c ++ d ≡ a ++ (b ++ (c ++ d))
four a b c d = append_assoc (a ++ b) c d ∙ append_assoc a b (c ++ d)

six : (a b c d e f : List ℕ) → a ++ b ++ c ++ d ++ e ++ f ≡ a ++ (b ++ (c ++ (d ++ (e ++ f))))
six a b c d e f = append_assoc (a ++ b ++ c ++ d) e f ∙ (append_assoc (a ++ b ++ c) d (e ++ f) ∙ four a b c (d ++ (e ++ f)))

joined : (s : ℕ) (channel more : List ℕ) (b : Bool) → IsChannel channel
    → (channel_data : Option (List ℕ)) × (join_of s (channel ++ cond b (32 ∷ more) []) ≡ Some (Join s channel channel_data))
joined s channel more true is =
    let text = channel ++ 32 ∷ more in (
      Some more,
      ap (λ z. cond (is_good_name z) (Some (Join s z (more_parts text))) None) (first_of channel more is.1)
          ∙ (ap (λ t. cond t (Some (Join s channel (more_parts text))) None) is.0 ∙ ap (λ z. Some (Join s channel z)) (more_of channel more is.1)),
    )
joined s channel more false is = (
  None,
  ap (join_of s) (append-nil channel)
      ∙ (ap (λ z. cond (is_good_name z) (Some (Join s z (more_parts channel))) None) (first_whole channel is.1)
      ∙ (ap (λ t. cond t (Some (Join s channel (more_parts channel))) None) is.0 ∙ ap (λ z. Some (Join s channel z)) (more_whole channel is.1))),
)

join_said : (d : Draws) → d.user < 4 → 1 ≤ d.socket → d.socket ≤ 8 → Said (join_command d)
join_said d user least most =
    let s = decimal d.socket in
    let c = channel_of d.channel in
    let member = member_of d in
    let is = each_channel d.channel in
    let more = codes "{\"user_id\":\"u" ++ decimal d.user ++ codes "\"}" in
    let j = joined d.socket c more (has_members d.channel) is in
    let word = number_word d.socket (omega (arith, most)) in
    record {
      command = Join d.socket c j.0;
      says = by_word (codes "join") (s ++ codes " " ++ c ++ member) refl
          ∙ (ap (command_by (codes "join")) (four s (codes " ") c member) ∙ (numbered join_in d.socket (c ++ member) (omega (arith, most)) word ∙ j.1));
      sure = (least, most);
      size = 5 + 20 + 1 + 16 + 60;
      small = omega arith;
      plain = Plain-append 42 60 (codes "join " ++ s ++ codes " " ++ c) member
          (Plain-append 26 16 (codes "join " ++ s ++ codes " ") c
          (Plain-append 25 1 (codes "join " ++ s) (codes " ")
          (Plain-append 5 20 (codes "join ") s (plain_of 5 (codes "join ") refl refl) (number_plain d.socket (omega (arith, most)))) (plain_of 1 (codes " ") refl refl)) is.2)
          (member_plain d (omega (arith, user)));
    }

-- a word, a number, and a text in three parts
with_number : (F : Option ℕ → Option (List ℕ) → Option Command) (word : List ℕ) (n : ℕ) (b c e : List ℕ) (command : Command) → Word word
    → ((rest : List ℕ) → command_by word rest ≡ F (number_in (first_part rest)) (more_parts rest)) → n ≤ 8
    → F (Some n) (Some (b ++ (c ++ e))) ≡ Some command → command_of (word ++ 32 ∷ (decimal n ++ (32 ∷ b) ++ c ++ e)) ≡ Some command
with_number F word n b c e command is by small says =
    by_word word (decimal n ++ (32 ∷ b) ++ c ++ e) is
    ∙ (ap (command_by word) (four (decimal n) (32 ∷ b) c e)
    ∙ (by (decimal n ++ 32 ∷ (b ++ (c ++ e))) ∙ (numbered F n (b ++ (c ++ e)) (omega (arith, small)) (number_word n (omega (arith, small))) ∙ says)))

four_plain : (j k l m : ℕ) (a b c d e : List ℕ) → Plain j a → Plain 20 b → Plain k c → Plain l d → Plain m e → Plain (j + 20 + k + l + m) (a ++ b ++ c ++ d ++ e)
four_plain j k l m a b c d e pa pb pc pd pe =
    Plain-append (j + 20 + k + l) m (a ++ b ++ c ++ d) e (Plain-append (j + 20 + k) l (a ++ b ++ c) d (Plain-append (j + 20) k (a ++ b) c (Plain-append j 20 a b pa pb) pc) pd) pe

unsubscribe_said : (d : Draws) → 1 ≤ d.socket → d.socket ≤ 8 → Said (unsubscribe_command d)
unsubscribe_said d least most =
    let b : List ℕ = codes "{\"event\":\"pusher:unsubscribe\",\"data\":{\"channel\":\"" in
    let c = channel_of d.channel in
    let e : List ℕ = codes "\"}}" in
    let is = each_channel d.channel in
    record {
      command = Say d.socket (b ++ (c ++ e));
      says = with_number say_in (codes "say") d.socket b c e (Say d.socket (b ++ (c ++ e))) refl (λ rest. refl) most refl;
      sure = (least, most);
      size = 4 + 20 + 60 + 16 + 3;
      small = omega arith;
      plain = four_plain 4 60 16 3 (codes "say ") (decimal d.socket) (32 ∷ b) c e (plain_of 4 (codes "say ") refl refl) (number_plain d.socket (omega (arith, most)))
          (plain_of 60 (32 ∷ b) refl refl) is.2 (plain_of 3 e refl refl);
    }

sign_in_said : (d : Draws) → d.user < 4 → 1 ≤ d.socket → d.socket ≤ 8 → Said (sign_in_command d)
sign_in_said d user least most =
    let b : List ℕ = codes "{\"id\":\"u" in
    let u = decimal d.user in
    let e : List ℕ = codes "\",\"watchlist\":[\"u0\",\"u1\"]}" in
    record {
      command = SignIn d.socket (b ++ (u ++ e));
      says = with_number sign_in_in (codes "signin") d.socket b u e (SignIn d.socket (b ++ (u ++ e))) refl (λ rest. refl) most refl;
      sure = (least, most);
      size = 7 + 20 + 20 + 20 + 40;
      small = omega arith;
      plain = four_plain 7 20 20 40 (codes "signin ") (decimal d.socket) (32 ∷ b) u e (plain_of 7 (codes "signin ") refl refl) (number_plain d.socket (omega (arith, most)))
          (plain_of 20 (32 ∷ b) refl refl) (number_plain d.user (omega (arith, user))) (plain_of 40 e refl refl);
    }

say_said : (i : ℕ) (d : Draws) → i < MOST_LINES → 1 ≤ d.socket → d.socket ≤ 8 → Said (say_command i d)
say_said i d few least most =
    let s = decimal d.socket in
    let b : List ℕ = codes "{\"event\":\"client-m\",\"channel\":\"" in
    let c = channel_of d.channel in
    let m : List ℕ = codes "\",\"data\":" in
    let n = decimal i in
    let e : List ℕ = codes "}" in
    let is = each_channel d.channel in
    let text = b ++ (c ++ (m ++ (n ++ e))) in
    record {
      command = Say d.socket text;
      says = by_word (codes "say") (s ++ (32 ∷ b) ++ c ++ m ++ n ++ e) refl
          ∙ (ap (command_by (codes "say")) (six s (32 ∷ b) c m n e)
          ∙ numbered say_in d.socket text (omega (arith, most)) (number_word d.socket (omega (arith, most))));
      sure = (least, most);
      size = 4 + 20 + 60 + 16 + 20 + 20 + 1;
      small = omega arith;
      plain = Plain-append 140 1 (codes "say " ++ s ++ (32 ∷ b) ++ c ++ m ++ n) e
          (Plain-append 120 20 (codes "say " ++ s ++ (32 ∷ b) ++ c ++ m) n
          (four_plain 4 60 16 20 (codes "say ") s (32 ∷ b) c m (plain_of 4 (codes "say ") refl refl) (number_plain d.socket (omega (arith, most)))
          (plain_of 60 (32 ∷ b) refl refl) is.2 (plain_of 20 m refl refl))
          (number_plain i (omega (arith, few))))
          (plain_of 1 e refl refl);
    }

publish_said : (i : ℕ) (d : Draws) → i < MOST_LINES → Said (publish_command i d)
publish_said i d few =
    let c = channel_of d.channel in
    let n = decimal i in
    let is = each_channel d.channel in
    let body : List ℕ = 34 ∷ (n ++ 34 ∷ []) in
    let more : List ℕ = codes "e" ++ 32 ∷ body in
    let rest : List ℕ = c ++ 32 ∷ more in
    record {
      command = Publish c (codes "e") body None;
      says = by_word (codes "publish") (c ++ codes " e \"" ++ n ++ codes "\"") refl
          ∙ (ap (command_by (codes "publish")) (four c (codes " e \"") n (codes "\""))
          ∙ (ap (λ z. publish_on None z (more_parts rest)) (first_of c more is.1)
          ∙ (ap (publish_on None c) (more_of c more is.1)
          ∙ (ap (λ z. publish_of None c z (more_parts more)) (first_of (codes "e") body refl)
          ∙ (ap (publish_of None c (codes "e")) (more_of (codes "e") body refl)
          ∙ ap (λ t. cond t (Some (Publish c (codes "e") body None)) None) (both_true (is_good_name c) (is_event_name (codes "e")) is.0 refl))))));
      sure = (number_string i (omega (arith, few)), refl);
      size = 8 + 16 + 4 + 20 + 1;
      small = omega arith;
      plain = Plain-append 48 1 (codes "publish " ++ c ++ codes " e \"" ++ n) (codes "\"")
          (Plain-append 28 20 (codes "publish " ++ c ++ codes " e \"") n
          (Plain-append 24 4 (codes "publish " ++ c) (codes " e \"")
          (Plain-append 8 16 (codes "publish ") c (plain_of 8 (codes "publish ") refl refl) is.2) (plain_of 4 (codes " e \"") refl refl))
          (number_plain i (omega (arith, few))))
          (plain_of 1 (codes "\"") refl refl);
    }

hooks_said : Said (codes "hooks")
hooks_said = record {
  command = Hooks;
  says = ap (λ z. command_in z (more_parts (codes "hooks"))) (first_whole (codes "hooks") refl) ∙ ap (command_in (codes "hooks")) (more_whole (codes "hooks") refl);
  sure = tt;
  size = 5;
  small = omega arith;
  plain = plain_of 5 (codes "hooks") refl refl;
}

-- what a drawn line says after its moment
pub drawn_said : (i : ℕ) (d : Draws) (a : Action) → i < MOST_LINES → d.user < 4 → 1 ≤ d.socket → d.socket ≤ 8 → Said (drawn_command i d a)
drawn_said i d action.Join few user least most = join_said d user least most
drawn_said i d action.Unsubscribe few user least most = unsubscribe_said d least most
drawn_said i d action.Publish few user least most = publish_said i d few
drawn_said i d action.Say few user least most = say_said i d few least most
drawn_said i d action.SignIn few user least most = sign_in_said d user least most
drawn_said i d action.Hooks few user least most = hooks_said
