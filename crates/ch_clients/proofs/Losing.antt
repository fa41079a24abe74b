-- The losses of one who leaves.
use Rattle.std.proofs.Common.{◌≡◌, ◌+◌, ℕ, zero, suc, List, [], ◌∷◌, length, map, ap, sym, subst, refl, ◌∙◌, add-zero}
use Rattle.std.specs.Prelude.{⊤, Some, slice_get, slice_set, All, Result, Ok, Err, is_ok, OnOk, if◌then◌else◌}
use Rattle.std.specs.List.{remove}
use Rattle.std.proofs.lemmas.List.Elements.{All-set}
use Rattle.std.proofs.lemmas.Option.{get_or_from_slice_get, slice_get_within}
use Rattle.ch_base.specs.declared.memory.Memory.{Memory}
use Rattle.ch_clients.proofs.Edits.{map_set}
use Rattle.ch_clients.proofs.Placing.{removed, replaced_one, replaced_set, all_removed, remove_set, set_there}
use Rattle.ch_clients.specs.Leaving.{Left, IsLeft, still_there, part_of_left}
use Rattle.ch_clients.specs.Passes.{HasTurn, replaced}
use Rattle.ch_clients.specs.declared.answer.WorkerTurn.TheVariants.{Moved, Memory as OutOfMemory}
use Rattle.ch_config.specs.declared.config.Config.{Config}
use Rattle.ch_desk.specs.OwnEntries.{Makes}
use Rattle.ch_desk.specs.Views.{DeskView, IsDeskOf, IsSameDesk}
use Rattle.ch_live.specs.Losses.{Loses, MayLose, Owes}
use Rattle.ch_live.specs.Peers.{IsPeerOver}
use Rattle.ch_live.specs.declared.peer.Peer.{Peer}
use Rattle.ch_live.specs.declared.peer.Peer.TheVariants.{Open, Refused}
use Rattle.ch_protocol.specs.Asks.{Asked}
use Rattle.ch_session.specs.Kept.{HasShardsOf}

map_remove : {A B : Type 0} (f : A → B) (xs : List A) (at : ℕ) → map f (remove xs at) ≡ remove (map f xs) at
map_remove f [] zero = refl
map_remove f [] (suc at) = refl
map_remove f (x ∷ xs) zero = refl
map_remove f (x ∷ xs) (suc at) = ap (λ ys. f x ∷ ys) (map_remove f xs at)

pub map_there : {A B : Type 0} (f : A → B) (xs : List A) (at : ℕ) (x : A) → slice_get xs at ≡ Some x → slice_get (map f xs) at ≡ Some (f x)
map_there f [] zero x there = absurd (let h = there in cc)
map_there f [] (suc at) x there = absurd (let h = there in cc)
map_there f (y ∷ xs) zero x there = let same : y ≡ x = cc in ap (λ z. Some (f z)) same
map_there f (y ∷ xs) (suc at) x there = map_there f xs at x there

-- a fact of each is one of the one at a place
pub all_there : {A : Type 0} (P : A → Type 0) (xs : List A) (at : ℕ) (x : A) → All P xs → slice_get xs at ≡ Some x → P x
all_there P xs at x all there = subst P (get_or_from_slice_get xs at x x there) (all at x (slice_get_within xs at x there))

-- ---- what stays over losses

pub loses_makes : {T : Type 0} (now : ℕ) (asked : List Asked) (p q : Peer) (a b : DeskView) (r : Result T Memory) → Loses now asked p q a b r → Makes asked a b
loses_makes now asked (Open c) (Open d) a b r (losses, same, all) = losses.calls
loses_makes now asked (Refused code) (Refused same) a b r (e, none, makes, err) = makes
loses_makes now asked (Open c) (Refused same) a b r never = absurd never
loses_makes now asked (Refused code) (Open d) a b r never = absurd never

pub desk_stays : (config : Config) (a b : DeskView) → IsSameDesk a b → IsDeskOf config a → IsDeskOf config b
desk_stays config a b same is = record { chan_shards = same.chan_shards ∙ is.chan_shards; user_shards = same.user_shards ∙ is.user_shards }

pub loses_over : {T : Type 0} (config : Config) (now : ℕ) (asked : List Asked) (p q : Peer) (a b : DeskView) (r : Result T Memory) → Loses now asked p q a b r
    → IsPeerOver config p → IsPeerOver config q
loses_over config now asked (Open c) (Open d) a b r (losses, same, all) over =
    subst (λ s. HasShardsOf s config) (sym losses.same) (record { chans = over.chans; shards = over.shards })
loses_over config now asked (Refused code) (Refused same) a b r h over = tt
loses_over config now asked (Open c) (Refused same) a b r never over = absurd never
loses_over config now asked (Refused code) (Open d) a b r never over = absurd never

-- a peer over the shards of the configuration may lose at its desk
pub over_still : (config : Config) (peer : Peer) (desk : DeskView) → IsPeerOver config peer → IsDeskOf config desk → MayLose peer desk
over_still config peer desk over shards = record { config = config; over = over; shards = shards }

module _ {X : Type 0} (peer_of : X → Peer) where
  -- one whose losses are all made is gone
  pub lost_all : (now : ℕ) (rows : List X) (seen : List Peer) (at : ℕ) (x after : X) (asked : List Asked) (r : Result ⊤ Memory) (u : ⊤) (a b : DeskView)
      → map peer_of rows ≡ seen → slice_get rows at ≡ Some x → Loses now asked (peer_of x) (peer_of after) a b r → OnOk r (Owes (peer_of after) → ⊥) → r ≡ Ok u
      → (l : Left) × HasTurn (IsLeft now) still_there part_of_left at seen (map peer_of (remove (slice_set rows at after) at)) a b l (record { part = Moved; place = at })
  lost_all now rows seen at x after asked r u a b is there loses all ok =
      let l : Left = record { asked = asked; peer = peer_of after; result = r } in
      let small = slice_get_within rows at x there in
      let seen_there = subst (λ xs. slice_get xs at ≡ Some (peer_of x)) is (map_there peer_of rows at x there) in
      let inside = slice_get_within seen at (peer_of x) seen_there in
      let gone = ap (λ z. if is_ok z then [] else peer_of after ∷ []) ok in (
        l,
        record {
          x = peer_of x;
          there = seen_there;
          turn = record { loses = loses; all = all };
          replaced = map_remove peer_of (slice_set rows at after) at ∙ ap (λ xs. remove xs at) (map_set peer_of rows at after)
              ∙ ap (λ xs. remove (slice_set xs at (peer_of after)) at) is
              ∙ removed (slice_set seen at (peer_of after)) at (slice_get_within (slice_set seen at (peer_of after)) at (peer_of after) (set_there seen at (peer_of after) inside))
              ∙ replaced_set seen at (peer_of after) [] inside ∙ ap (λ these. replaced at these seen) (sym gone);
          part = ap (λ z. if is_ok z then Moved else OutOfMemory) (sym ok);
          follows = sym (add-zero at) ∙ ap (λ these. at + length these) (sym gone);
        },
      )

  -- else it still leaves
  pub lost_some : (now : ℕ) (rows : List X) (seen : List Peer) (at : ℕ) (x after : X) (asked : List Asked) (r : Result ⊤ Memory) (m : Memory) (a b : DeskView)
      → map peer_of rows ≡ seen → slice_get rows at ≡ Some x → Loses now asked (peer_of x) (peer_of after) a b r → OnOk r (Owes (peer_of after) → ⊥) → r ≡ Err m
      → (l : Left) × HasTurn (IsLeft now) still_there part_of_left at seen (map peer_of (slice_set rows at after)) a b l (record { part = OutOfMemory; place = at + 1 })
  lost_some now rows seen at x after asked r m a b is there loses all err =
      let l : Left = record { asked = asked; peer = peer_of after; result = r } in
      let seen_there = subst (λ xs. slice_get xs at ≡ Some (peer_of x)) is (map_there peer_of rows at x there) in
      let inside = slice_get_within seen at (peer_of x) seen_there in
      let stays = ap (λ z. if is_ok z then [] else peer_of after ∷ []) err in (
        l,
        record {
          x = peer_of x;
          there = seen_there;
          turn = record { loses = loses; all = all };
          replaced = map_set peer_of rows at after ∙ ap (λ xs. slice_set xs at (peer_of after)) is
              ∙ replaced_one seen at (peer_of after) inside ∙ ap (λ these. replaced at these seen) (sym stays);
          part = ap (λ z. if is_ok z then Moved else OutOfMemory) (sym err);
          follows = ap (λ these. at + length these) (sym stays);
        },
      )

  pub over_set : (config : Config) (rows : List X) (seen : List Peer) (at : ℕ) (x after : X) → map peer_of rows ≡ seen → slice_get rows at ≡ Some x
      → All (IsPeerOver config) seen → IsPeerOver config (peer_of after) → All (IsPeerOver config) (map peer_of (slice_set rows at after))
  over_set config rows seen at x after is there all over =
      subst (All (IsPeerOver config)) (sym (map_set peer_of rows at after ∙ ap (λ xs. slice_set xs at (peer_of after)) is))
      (All-set (IsPeerOver config) seen at (peer_of after) over all)

  pub over_removed : (config : Config) (rows : List X) (seen : List Peer) (at : ℕ) (x after : X) → map peer_of rows ≡ seen → slice_get rows at ≡ Some x
      → All (IsPeerOver config) seen → All (IsPeerOver config) (map peer_of (remove (slice_set rows at after) at))
  over_removed config rows seen at x after is there all =
      let seen_there = subst (λ xs. slice_get xs at ≡ Some (peer_of x)) is (map_there peer_of rows at x there) in
      let inside = slice_get_within seen at (peer_of x) seen_there in
      subst (All (IsPeerOver config)) (sym (map_remove peer_of (slice_set rows at after) at ∙ ap (λ xs. remove xs at) (map_set peer_of rows at after)
      ∙ ap (λ xs. remove (slice_set xs at (peer_of after)) at) is))
      (remove_set (IsPeerOver config) seen at (peer_of after) inside (all_removed (IsPeerOver config) seen at inside all))
