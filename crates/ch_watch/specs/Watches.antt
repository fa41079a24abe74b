-- The sign-ins and the watches that last, the oldest first, and what each call leaves of them.
use Rattle.std.specs.Prelude.{ℕ, not, ◌==◌, List, [], ◌∷◌, ◌++◌, filter, map, if◌then◌else◌}
use Rattle.ch_history.specs.declared.rows.UserSocket.{UserSocket}
use Rattle.ch_history.specs.SignIns.{has_one_of, of_user}
use Rattle.ch_index.specs.declared.holder.Holder.{Holder}
use Rattle.ch_index.specs.Holders.{holder_of}

-- the sign-ins, and the watches
pub record SignsAndWatches : Type 0 where
  pub signs : List UserSocket
  pub watches : List UserSocket

-- with this one at the end, unless its socket has one of its user
abbrev pub added : List UserSocket → UserSocket → List UserSocket
added xs r = if has_one_of xs r.socket r.user then xs else xs ++ r ∷ []

-- without the socket's
abbrev pub without : List UserSocket → ℕ → List UserSocket
without xs socket = filter (λ r. not (r.socket == socket)) xs

-- the sockets of the rows of the user, each with its owner
abbrev pub holders_of : List UserSocket → List ℕ → List Holder
holders_of xs user = map (holder_of (λ r. r.socket) (λ r. r.owner)) (of_user xs user)
