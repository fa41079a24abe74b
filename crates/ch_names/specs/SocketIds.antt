-- socket ids: the second at which the server started, a point and the socket's number
use Rattle.std.specs.Prelude.{ℕ, ◌==◌, nat_le, List, length, Bool, ◌&&◌, Option, None, Some, bytes_eq, if◌then◌else◌}
use Rattle.std.specs.Char.{is_ascii_digit}
use Rattle.std.specs.List.{before_first, after_first, list_all}
use Rattle.std.specs.Str.Parse.{digits_value}
use Rattle.std.specs.Fmt.{decimal}
use Rattle.ch_names.specs.declared.socket_id.SocketId.{SocketId}
use Rattle.ch_names.specs.declared.socket_id.SocketId.TheVariants.{Bad, Stranger, Here}

-- 1 to 19 digits
abbrev pub is_part : List ℕ → Bool
is_part text = nat_le 1 (length text) && nat_le (length text) 19 && list_all is_ascii_digit text

-- the number of the digits, where they are its decimal form, which has no leading zeros
abbrev pub written_number : List ℕ → Option ℕ
written_number digits =
    if bytes_eq digits (decimal (digits_value 10 digits)) then Some (digits_value 10 digits) else None

-- the socket of the numbers in both parts
abbrev pub socket_of : ℕ → Option ℕ → Option ℕ → SocketId
socket_of start None number = Stranger
socket_of start (Some first) None = Stranger
socket_of start (Some first) (Some number) = if first == start then Here number else Stranger

-- what the text says as a socket id, where the server started at this second; its parts are before and behind its first point
abbrev pub socket_id_of : ℕ → List ℕ → SocketId
socket_id_of start id =
    let first = before_first (λ x. x == 46) id in
    let second = after_first (λ x. x == 46) id in
    if is_part first && is_part second then socket_of start (written_number first) (written_number second) else Bad
