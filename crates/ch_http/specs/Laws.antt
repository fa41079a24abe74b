-- Laws of the verdict on the bytes of a connection.
use Rattle.std.specs.Prelude.{◌≡◌, ◌≢◌, ◌≤◌, ℕ, Bool, false, List, ◌++◌, length}
use Rattle.ch_requests.specs.Verdict.{IsVerdict}
use Rattle.ch_requests.specs.declared.head.Head.{Head}
use Rattle.ch_requests.specs.declared.request.Look.{Look}
use Rattle.ch_requests.specs.declared.request.Look.TheVariants.{Need, Upgrade}

-- While there is time, a verdict that isn't Need stays as it is, whatever bytes follow.
abbrev pub VerdictStays : Type 0
VerdictStays =
    (app bytes more : List ℕ) (look : Look) → IsVerdict app bytes false look → look ≢ Need
    → IsVerdict app (bytes ++ more) false look

-- There is at most one verdict.
abbrev pub OneVerdict : Type 0
OneVerdict =
    (app bytes : List ℕ) (late : Bool) (one other : Look) → IsVerdict app bytes late one
    → IsVerdict app bytes late other → one ≡ other

-- A head that asks for a WebSocket lies in the bytes that came.
abbrev pub HeadWithin : Type 0
HeadWithin =
    (app bytes : List ℕ) (late : Bool) (head : Head) → IsVerdict app bytes late (Upgrade head) → head.used ≤ length bytes
