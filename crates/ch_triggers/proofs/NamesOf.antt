-- Ids of sockets.
use Rattle.std.proofs.Common.{◌≡◌, ℕ, List, Bool, true, false, refl, Some}
use Rattle.std.specs.Prelude.{Option, None, ◌==◌, if◌then◌else◌}
use Rattle.std.specs.List.{before_first, after_first}
use Rattle.ch_names.specs.SocketIds.{written_number, socket_of, socket_id_of}
use Rattle.ch_names.specs.declared.socket_id.SocketId.{SocketId}
use Rattle.ch_names.specs.declared.socket_id.SocketId.TheVariants.{Bad, Stranger, Here}
use Rattle.ch_requests.specs.Triggers.{is_socket_id, is_point, IsSocketId}
use Rattle.ch_triggers.specs.Bodies.{is_socket_or_none}

never_bad : (start : ℕ) (a b : Option ℕ) → Bad ≡ socket_of start a b → ⊥
never_bad start None b e = cc
never_bad start (Some first) None e = cc
never_bad start (Some first) (Some n) e = test (first == start) e
  where
    test : (b : Bool) → Bad ≡ (if b then Here n else Stranger) → ⊥
    test true f = cc
    test false f = cc

pub bad_socket : (id : List ℕ) → Bad ≡ socket_id_of 0 id → false ≡ is_socket_id id
bad_socket id e = test (is_socket_id id) e
  where
    test : (b : Bool) → Bad ≡ (if b then socket_of 0 (written_number (before_first is_point id)) (written_number (after_first is_point id)) else Bad) → false ≡ b
    test true f = absurd (never_bad 0 (written_number (before_first is_point id)) (written_number (after_first is_point id)) f)
    test false f = refl

pub good_socket : (id : List ℕ) (s : SocketId) → s ≡ socket_id_of 0 id → (s ≡ Bad → ⊥) → true ≡ is_socket_id id
good_socket id s e other = test (is_socket_id id) e
  where
    test : (b : Bool) → s ≡ (if b then socket_of 0 (written_number (before_first is_point id)) (written_number (after_first is_point id)) else Bad) → true ≡ b
    test true f = refl
    test false f = absurd (other f)

pub is_socket : (o : Option (List ℕ)) → is_socket_or_none o ≡ true → IsSocketId o
is_socket None e = tt
is_socket (Some id) e = e

pub socket_test : (o : Option (List ℕ)) → IsSocketId o → is_socket_or_none o ≡ true
socket_test None h = refl
socket_test (Some id) h = h
