-- The channels of an event.
use Rattle.std.proofs.Common.{◌≡◌, inl, inr, ℕ, List, [], ◌∷◌, true, refl, subst, Some}
use Rattle.std.specs.Prelude.{Option, None, codes}
use Rattle.std.specs.List.{list_all}
use Rattle.std.proofs.lemmas.Bool.{and_parts, and_from}
use Rattle.ch_history.specs.UserChannels.{is_subscribable}
use Rattle.ch_base.specs.JsonTree.{Span, Tree, array, Items, Members}
use Rattle.ch_base.specs.ObjectMembers.{HasNone, HasOne}
use Rattle.ch_members.specs.Readings.{Gives}
use Rattle.ch_members.proofs.OnlyOne.{array_once}
use Rattle.ch_members.specs.ArrayStrings.{AreStrings}
use Rattle.ch_requests.specs.Triggers.{AreChannels, IsChannelList, HasChannel, HasChannels, HasEither}

pub channels_from : (text : List ℕ) (vs : List Tree) (names : List (List ℕ)) → AreStrings text vs names → list_all is_subscribable names ≡ true → AreChannels text vs names
channels_from text [] [] h good = tt
channels_from text [] (x ∷ names) h good = absurd h
channels_from text (v ∷ vs) [] h good = absurd h
channels_from text (v ∷ vs) (x ∷ names) h good = let both = and_parts (is_subscribable x) (list_all is_subscribable names) good in (h.0, both.0, channels_from text vs names h.1 both.1)

pub channels_strings : (text : List ℕ) (vs : List Tree) (names : List (List ℕ)) → AreChannels text vs names → AreStrings text vs names
channels_strings text [] [] h = tt
channels_strings text [] (x ∷ names) h = absurd h
channels_strings text (v ∷ vs) [] h = absurd h
channels_strings text (v ∷ vs) (x ∷ names) h = (h.0, channels_strings text vs names h.2)

pub channels_good : (text : List ℕ) (vs : List Tree) (names : List (List ℕ)) → AreChannels text vs names → list_all is_subscribable names ≡ true
channels_good text [] [] h = refl
channels_good text [] (x ∷ names) h = absurd h
channels_good text (v ∷ vs) [] h = absurd h
channels_good text (v ∷ vs) (x ∷ names) h = and_from (is_subscribable x) (list_all is_subscribable names) h.1 (channels_good text vs names h.2)

-- where there is no one channel, the channels are those that are listed
pub gives_either : (text : List ℕ) (ms : Members) → ((channels : List (List ℕ)) → HasChannel text ms channels → ⊥) → (o : Option (List (List ℕ))) → Gives (HasChannels text ms) o → Gives (HasEither text ms) o
gives_either text ms no_one (Some channels) h = inr h
gives_either text ms no_one None h = none
  where
    none : (channels : List (List ℕ)) → HasEither text ms channels → ⊥
    none channels (inl k) = no_one channels k
    none channels (inr k) = h channels k

pub gives_listed : (text : List ℕ) (ms : Members) (vs : Items) (s : Span) → HasOne text ms (codes "channels") (array vs s) → HasNone text ms (codes "channel") → (o : Option (List (List ℕ))) → Gives (IsChannelList text vs) o → Gives (HasChannels text ms) o
gives_listed text ms vs s has none (Some channels) h = ((vs, s, has, h), none)
gives_listed text ms vs s has none None h = nothing
  where
    nothing : (channels : List (List ℕ)) → HasChannels text ms channels → ⊥
    nothing channels ((ws, r, k, list), no_one) = h channels (subst (λ (y : Items). IsChannelList text y channels) (array_once text (codes "channels") ms ws vs (r, k) (s, has)) list)
