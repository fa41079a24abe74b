-- How many sign-ins last.
use Rattle.std.specs.Prelude.{ℕ, List, length, map}
use Rattle.std.specs.List.{sum_by}
use Rattle.ch_history.specs.Entries.{UserHistory}
use Rattle.ch_history.specs.Texts.{ascending}
use Rattle.ch_history.specs.SignIns.{sign_ins, sockets}

-- the users as which a socket is signed in, each once, ascending
abbrev pub online_users : UserHistory → List (List ℕ)
online_users h = ascending (map (λ r. r.user) (sign_ins h))

-- the lengths of the lists of sockets of all users, added up
abbrev pub open_signs : UserHistory → ℕ
open_signs h = sum_by (λ u. length (sockets h u)) (online_users h)
