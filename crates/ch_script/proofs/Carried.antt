-- What the lines of a transcript carry.
use Rattle.std.proofs.Common.{◌≡◌, ℕ, Bool, true, false, ◌&&◌, ◌≤◌, nat_le, List, cond, bytes_eq, refl}
use Rattle.std.specs.Prelude.{Option, Some, None, Result, Ok, Err, IfSome, codes}
use Rattle.std.specs.Str.{is_utf8}
use Rattle.std.specs.Str.Parse.{digits_value}
use Rattle.std.specs.Fmt.{decimal}
use Rattle.std.proofs.lemmas.Bool.{leb-true}
use Rattle.hex.specs.Hex.{decode_of}
use Rattle.hex.specs.declared.error.FromHexError.{FromHexError}
use Rattle.ch_history.specs.ChannelName.{is_good_name}
use Rattle.ch_history.specs.Limits.{is_event_name}
use Rattle.ch_transcript.specs.declared.commands.Command.{Command}
use Rattle.ch_transcript.specs.declared.commands.Command.TheVariants.{Join, Publish, Api, Hooks}
use Rattle.ch_transcript.specs.declared.commands.Method.{Method}
use Rattle.ch_transcript.specs.declared.commands.Line.TheVariants.{Skipped, Bad}
use Rattle.ch_transcript.specs.Commands.{first_part, more_parts, number_in, open_in, say_in, join_in, sign_in_in, lose_in, tick_in, tail_in, publish_of, publish_on, publish_in, except_in, method_in, is_plain, query_in, or_empty, api_of, api_on, api_in, http_of, command_by, command_in, command_after, timed, is_skipped, line_in, line_of, IsCommand, IsLine}
use Rattle.ch_base.specs.declared.limits.TheConstants.{LATEST_MOMENT}

and_left : (a b : Bool) → (a && b) ≡ true → a ≡ true
and_left true b h = refl
and_left false b h = h

and_right : (a b : Bool) → (a && b) ≡ true → b ≡ true
and_right true b h = h
and_right false b h = absurd (cc)

-- what holds of both sides of a choice, of the first where its test holds
chosen : {A : Type 0} (P : A → Type 0) (t : Bool) (x y : A) → (t ≡ true → P x) → P y → P (cond t x y)
chosen P true x y first second = first refl
chosen P false x y first second = second

abbrev Good : Option Command → Type 0
Good o = IfSome o IsCommand

number_in-is : (text : List ℕ) → IfSome (number_in text) (λ n. n ≤ LATEST_MOMENT)
number_in-is text =
    chosen (λ (o : Option ℕ). IfSome o (λ n. n ≤ LATEST_MOMENT)) (nat_le (digits_value 10 text) LATEST_MOMENT && bytes_eq (decimal (digits_value 10 text)) text) (Some (digits_value 10 text)) None
    (λ is. leb-true (digits_value 10 text) LATEST_MOMENT (and_left (nat_le (digits_value 10 text) LATEST_MOMENT) (bytes_eq (decimal (digits_value 10 text)) text) is)) tt

open_in-is : (target : List ℕ) (more : Option (List ℕ)) → Good (open_in target more)
open_in-is target None = tt
open_in-is target (Some more) = tt

say_in-is : (number : Option ℕ) (text : Option (List ℕ)) → Good (say_in number text)
say_in-is None text = tt
say_in-is (Some n) None = tt
say_in-is (Some n) (Some text) = tt

join_in-is : (number : Option ℕ) (more : Option (List ℕ)) → Good (join_in number more)
join_in-is None more = tt
join_in-is (Some n) None = tt
join_in-is (Some n) (Some more) = chosen Good (is_good_name (first_part more)) (Some (Join n (first_part more) (more_parts more))) None (λ is. is) tt

sign_in_in-is : (number : Option ℕ) (user_data : Option (List ℕ)) → Good (sign_in_in number user_data)
sign_in_in-is None user_data = tt
sign_in_in-is (Some n) None = tt
sign_in_in-is (Some n) (Some user_data) = tt

lose_in-is : (number : Option ℕ) → Good (lose_in number)
lose_in-is None = tt
lose_in-is (Some n) = tt

tick_in-is : (number : Option ℕ) → Good (tick_in number)
tick_in-is None = tt
tick_in-is (Some n) = tt

tail_in-is : (number : Option ℕ) → Good (tail_in number)
tail_in-is None = tt
tail_in-is (Some n) = tt

publish_of-is : (except : Option ℕ) (channel event : List ℕ) (body : Option (List ℕ)) → Good (publish_of except channel event body)
publish_of-is except c e None = tt
publish_of-is except c e (Some b) =
    chosen Good (is_good_name c && is_event_name e) (Some (Publish c e b except)) None
    (λ is. (and_left (is_good_name c) (is_event_name e) is, and_right (is_good_name c) (is_event_name e) is)) tt

publish_on-is : (except : Option ℕ) (channel : List ℕ) (more : Option (List ℕ)) → Good (publish_on except channel more)
publish_on-is except c None = tt
publish_on-is except c (Some more) = publish_of-is except c (first_part more) (more_parts more)

except_in-is : (number : Option ℕ) (rest : Option (List ℕ)) → Good (except_in number rest)
except_in-is None rest = tt
except_in-is (Some n) None = tt
except_in-is (Some n) (Some rest) = publish_on-is (Some n) (first_part rest) (more_parts rest)

api_of-is : (method : Option Method) (path query : List ℕ) (body : Option (List ℕ)) → Good (api_of method path query body)
api_of-is None path query body = tt
api_of-is (Some m) path query body =
    chosen Good (is_plain path && is_plain query) (Some (Api m path (query_in query) (or_empty body))) None (λ _. tt) tt

api_on-is : (method : Option Method) (path : List ℕ) (more : Option (List ℕ)) → Good (api_on method path more)
api_on-is method path None = tt
api_on-is method path (Some more) = api_of-is method path (first_part more) (more_parts more)

api_in-is : (method : Option Method) (more : Option (List ℕ)) → Good (api_in method more)
api_in-is method None = tt
api_in-is method (Some more) = api_on-is method (first_part more) (more_parts more)

http_of-is : (bytes : Result (List ℕ) FromHexError) → Good (http_of bytes)
http_of-is (Ok bytes) = tt
http_of-is (Err error) = tt

-- the command of each word
pub command_by-is : (word rest : List ℕ) → Good (command_by word rest)
command_by-is word rest =
    let number = number_in (first_part rest) in
    let more = more_parts rest in
    let http = cond (bytes_eq word (codes "http")) (http_of (decode_of rest)) None in
    let api = cond (bytes_eq word (codes "api")) (api_in (method_in (first_part rest)) more) http in
    let tail = cond (bytes_eq word (codes "tail")) (tail_in (number_in rest)) api in
    let except = cond (bytes_eq word (codes "except")) (except_in number more) tail in
    let publish = cond (bytes_eq word (codes "publish")) (publish_in None rest) except in
    let tick = cond (bytes_eq word (codes "tick")) (tick_in (number_in rest)) publish in
    let lose = cond (bytes_eq word (codes "lose")) (lose_in (number_in rest)) tick in
    let sign_in = cond (bytes_eq word (codes "signin")) (sign_in_in number more) lose in
    let join = cond (bytes_eq word (codes "join")) (join_in number more) sign_in in
    let say = cond (bytes_eq word (codes "say")) (say_in number more) join in
    chosen Good (bytes_eq word (codes "open")) (open_in rest more) say (λ _. open_in-is rest more)
    (chosen Good (bytes_eq word (codes "say")) (say_in number more) join (λ _. say_in-is number more)
    (chosen Good (bytes_eq word (codes "join")) (join_in number more) sign_in (λ _. join_in-is number more)
    (chosen Good (bytes_eq word (codes "signin")) (sign_in_in number more) lose (λ _. sign_in_in-is number more)
    (chosen Good (bytes_eq word (codes "lose")) (lose_in (number_in rest)) tick (λ _. lose_in-is (number_in rest))
    (chosen Good (bytes_eq word (codes "tick")) (tick_in (number_in rest)) publish (λ _. tick_in-is (number_in rest))
    (chosen Good (bytes_eq word (codes "publish")) (publish_in None rest) except (λ _. publish_on-is None (first_part rest) (more_parts rest))
    (chosen Good (bytes_eq word (codes "except")) (except_in number more) tail (λ _. except_in-is number more)
    (chosen Good (bytes_eq word (codes "tail")) (tail_in (number_in rest)) api (λ _. tail_in-is (number_in rest))
    (chosen Good (bytes_eq word (codes "api")) (api_in (method_in (first_part rest)) more) http (λ _. api_in-is (method_in (first_part rest)) more)
    (chosen Good (bytes_eq word (codes "http")) (http_of (decode_of rest)) None (λ _. http_of-is (decode_of rest)) tt))))))))))

command_in-is : (word : List ℕ) (rest : Option (List ℕ)) → Good (command_in word rest)
command_in-is word None = chosen Good (bytes_eq word (codes "hooks")) (Some Hooks) None (λ is. tt) tt
command_in-is word (Some rest) = command_by-is word rest

command_after-is : (rest : Option (List ℕ)) → Good (command_after rest)
command_after-is None = tt
command_after-is (Some text) = command_in-is (first_part text) (more_parts text)

timed-is : (at : Option ℕ) (command : Option Command) → IfSome at (λ n. n ≤ LATEST_MOMENT) → Good command → IsLine (timed at command)
timed-is None command small is = tt
timed-is (Some at) None small is = tt
timed-is (Some at) (Some command) small is = (small, is)

-- each line that says something carries parts of their forms
pub line_of-is : (line : List ℕ) → IsLine (line_of line)
line_of-is line =
    chosen IsLine (is_utf8 line) (line_in line) Bad
    (λ _. chosen IsLine (is_skipped line) Skipped (timed (number_in (first_part line)) (command_after (more_parts line))) (λ _. tt)
    (timed-is (number_in (first_part line)) (command_after (more_parts line)) (number_in-is (first_part line)) (command_after-is (more_parts line)))) tt
