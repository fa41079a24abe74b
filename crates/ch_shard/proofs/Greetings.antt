-- What a newcomer makes is what the definitions say of its entry.
use Rattle.std.proofs.Common.{◌≡◌, ℕ, Bool, true, false, cond, List, [], ◌∷◌, ◌++◌, Option, Some, None, filter, map, length, nat_eq, arith, refl, ap, ap₂, sym, ◌∙◌}
use Rattle.std.proofs.lemmas.Bool.Decides.{nat_tests}
use Rattle.ch_base.specs.declared.channel.Member.{Member}
use Rattle.ch_base.specs.declared.frame.Frame.{Frame}
use Rattle.ch_base.specs.declared.frame.Frame.TheVariants.{Succeeded, Present, Added}
use Rattle.ch_base.specs.declared.webhook.Hook.TheVariants as hook
use Rattle.ch_history.specs.declared.rows.Subscription.{Subscription}
use Rattle.ch_history.specs.declared.rows.Cached.{Cached}
use Rattle.ch_history.specs.ChannelName.{is_presence}
use Rattle.ch_history.specs.Texts.{has_text}
use Rattle.ch_history.specs.Subscriptions.{on_channel, is_on}
use Rattle.ch_history.specs.Presence.{rows_in}
use Rattle.ch_history.specs.Frames.{to, welcome, member_added_frames}
use Rattle.ch_history.specs.Webhooks.{occupied, added, missed}
use Rattle.ch_history.specs.WellFormed.{IsMemberOf}
use Rattle.ch_presence.specs.declared.present.Present as row
use Rattle.ch_presence.specs.Members.{present, ids_on, rows_on, is_present}
use Rattle.ch_presence.specs.Subscribed.{rows_of}
use Rattle.ch_presence.proofs.SameUsers.{same_users}
use Rattle.ch_presence.proofs.SameChanges.{same_changes}
use Rattle.ch_shard.specs.Sound.{AreSoundRows}
use Rattle.ch_shard.specs.Greeting.{newcomer_row, IsAbsent, first_frame, latest_news, new_user, arrived, arrived_hook, occupied_hook}
use Rattle.ch_shard.specs.Parts.{newcomer}
use Rattle.ch_shard.proofs.Sounds.{users_are, presence_of}

all_pass : (xs : List Subscription) → filter (λ s. true) xs ≡ xs
all_pass [] = refl
all_pass (x ∷ xs) = ap (λ ys. x ∷ ys) (all_pass xs)

arrival_is : (xs : List Subscription) (rows : List row.Present) (c : List ℕ) (member : Option Member) → AreSoundRows xs rows → member_added_frames c (on_channel xs c) member ≡ arrived c (new_user rows c member) (on_channel xs c)
arrival_is xs rows c None sound = refl
arrival_is xs rows c (Some m) sound =
    let ys : List Subscription = on_channel xs c in
    ap (λ us. cond (has_text us m.user_id) [] (map (to (Added c m)) ys)) (sym (users_are xs rows c sound))
    ∙ elim (has_text (ids_on rows c) m.user_id) as (λ b. cond b [] (map (to (Added c m)) ys) ≡ arrived c (cond b None (Some m)) ys) [
      | true ↦ refl
      | false ↦ ap (map (to (Added c m))) (sym (all_pass ys))
    ]

added_is : (xs : List Subscription) (rows : List row.Present) (c : List ℕ) (member : Option Member) → AreSoundRows xs rows → added c (on_channel xs c) member ≡ arrived_hook c (new_user rows c member)
added_is xs rows c None sound = refl
added_is xs rows c (Some m) sound =
    ap (λ us. cond (has_text us m.user_id) [] (hook.Added c m.user_id ∷ [])) (sym (users_are xs rows c sound))
    ∙ elim (has_text (ids_on rows c) m.user_id) as (λ b. cond b [] (hook.Added c m.user_id ∷ []) ≡ arrived_hook c (cond b None (Some m))) [
      | true ↦ refl
      | false ↦ refl
    ]

occupied_is : (c : List ℕ) (ys : List Subscription) → occupied c ys ≡ occupied_hook c (length ys)
occupied_is c [] = refl
occupied_is c (y ∷ ys) = let some : nat_eq (length (y ∷ ys)) 0 ≡ false = grind (arith, nat_tests) in ap (λ b. cond b (hook.Occupied c ∷ []) []) (sym some)

-- the first frame

memberless : (b : Bool) → IsMemberOf b None → b ≡ false
memberless true fits = absurd fits
memberless false fits = refl

first_is : (xs : List Subscription) (rows : List row.Present) (w socket : ℕ) (c : List ℕ) (member : Option Member) → AreSoundRows xs rows → IsMemberOf (is_presence c) member
    → first_frame rows c (newcomer_row c socket member) ≡ cond (is_presence c) (Present c (rows_in c (on_channel (xs ++ newcomer w socket c member ∷ []) c))) (Succeeded c)
first_is xs rows w socket c None sound fits =
    ap (λ b. cond b (Present c (rows_in c (on_channel (xs ++ newcomer w socket c None ∷ []) c))) (Succeeded c)) (sym (memberless (is_presence c) fits))
first_is xs rows w socket c (Some m) sound fits =
    let n : Subscription = newcomer w socket c (Some m) in
    let is : is_presence c ≡ true = presence_of (is_presence c) m fits in
    let after : rows ++ present c socket m ∷ [] ≡ rows_of (xs ++ n ∷ []) = ap (λ rs. rs ++ present c socket m ∷ []) sound.present ∙ sym ((same_changes xs).join n) in
    ap (λ ms. Present c ms) (ap (λ rs. rows_on rs c) after ∙ (same_users (xs ++ n ∷ []) c).rows is)
    ∙ ap (λ b. cond b (Present c (rows_in c (on_channel (xs ++ n ∷ []) c))) (Succeeded c)) (sym is)

-- all frames, and all webhook events

pub join_frames_are : (xs : List Subscription) (rows : List row.Present) (kept : Option Cached) (w socket : ℕ) (c : List ℕ) (member : Option Member) (first : Frame) (user : Option Member)
    → AreSoundRows xs rows → IsMemberOf (is_presence c) member → first ≡ first_frame rows c (newcomer_row c socket member) → user ≡ new_user rows c member
    → (to first (newcomer w socket c member) ∷ latest_news c kept w socket) ++ arrived c user (on_channel xs c)
    ≡ welcome c (on_channel (xs ++ newcomer w socket c member ∷ []) c) kept (newcomer w socket c member) ++ member_added_frames c (on_channel xs c) member
join_frames_are xs rows kept w socket c member first user sound fits is_first is_user =
    ap₂ ◌++◌
    (ap (λ f. to f (newcomer w socket c member) ∷ latest_news c kept w socket) (is_first ∙ first_is xs rows w socket c member sound fits))
    (ap (λ u. arrived c u (on_channel xs c)) is_user ∙ sym (arrival_is xs rows c member sound))

pub join_hooks_are : (xs : List Subscription) (rows : List row.Present) (kept : Option Cached) (c : List ℕ) (member : Option Member) (count : ℕ) (user : Option Member)
    → AreSoundRows xs rows → count ≡ length (on_channel xs c) → user ≡ new_user rows c member
    → (occupied_hook c count ++ arrived_hook c user) ++ missed c kept ≡ occupied c (on_channel xs c) ++ added c (on_channel xs c) member ++ missed c kept
join_hooks_are xs rows kept c member count user sound is_count is_user =
    ap₂ (λ gs hs. (gs ++ hs) ++ missed c kept)
    (ap (occupied_hook c) is_count ∙ sym (occupied_is c (on_channel xs c)))
    (ap (arrived_hook c) is_user ∙ sym (added_is xs rows c member sound))

-- the newcomer isn't there yet
pub absent_is : (xs : List Subscription) (rows : List row.Present) (socket : ℕ) (c : List ℕ) (member : Option Member) → AreSoundRows xs rows → is_on xs socket c ≡ false → IsAbsent rows (newcomer_row c socket member)
absent_is xs rows socket c None sound off = tt
absent_is xs rows socket c (Some m) sound off = ap (λ rs. is_present rs c socket) sound.present ∙ (same_users xs c).absent socket off
