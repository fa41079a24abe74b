-- the users of names
use Rattle.std.proofs.Common.{◌≡◌, ℕ, List, ◌++◌, length, take, Bool, true, false, refl, sym, ap, ◌∙◌}
use Rattle.std.specs.Prelude.{IsTrue, Some, None, if◌then◌else◌}
use Rattle.std.specs.Cmp.Lexicographic.{same_text}
use Rattle.std.proofs.lemmas.Bool.{cond-true, cond-false}
use Rattle.std.proofs.lemmas.List.{take-append-drop}
use Rattle.ch_history.specs.ChannelName.{begins}
use Rattle.ch_history.specs.Limits.{is_user_id}
use Rattle.ch_history.specs.UserChannels.{channel_user, user_prefix, behind_prefix}
use Rattle.ch_history.specs.UserFrames.{user_channel}

-- the channel of a good user id is that user's
pub channel_of_user : (id : List ℕ) → IsTrue (is_user_id id) → channel_user (user_channel id) ≡ Some id
channel_of_user id good = cond-true _ _ _ good

-- the channel of another id is nobody's
pub channel_of_none : (id : List ℕ) → is_user_id id ≡ false → channel_user (user_channel id) ≡ None
channel_of_none id bad = cond-false _ _ _ bad

-- a name that is no user's channel has no user
pub no_user : (name : List ℕ) → ((id : List ℕ) → name ≡ user_channel id → IsTrue (is_user_id id) → ⊥) → channel_user name ≡ None
no_user name other = test (begins user_prefix name) refl
  where
    good : (b : Bool) → is_user_id (behind_prefix name) ≡ b → begins user_prefix name ≡ true → (if b then Some (behind_prefix name) else None) ≡ None
    good true is begun =
        let front : user_prefix ≡ take (length user_prefix) name = same_text user_prefix (take (length user_prefix) name) (sym begun) in
        absurd (other (behind_prefix name) (sym (take-append-drop (length user_prefix) name) ∙ ap (λ (x : List ℕ). x ++ behind_prefix name) (sym front)) is)
    good false is begun = refl

    test : (b : Bool) → begins user_prefix name ≡ b → (if b then (if is_user_id (behind_prefix name) then Some (behind_prefix name) else None) else None) ≡ None
    test true is = good (is_user_id (behind_prefix name)) refl is
    test false is = refl
