-- Entries that leave the subscriptions as they are, and what an end of subscriptions leaves on a channel.
use Rattle.std.proofs.Common.{◌≡◌, ℕ, ◌==◌, Bool, true, not, ◌&&◌, cond, List, [], ◌∷◌, ◌++◌, None, bytes_eq, ap₂, sym, ◌∙◌, append-nil, arith}
use Rattle.std.proofs.lemmas.Bool.Decides.{nat_tests}
use Rattle.std.proofs.lemmas.List.Elements.{filter-append}
use Rattle.std.specs.Prelude.{option_to_list, false}
use Rattle.std.specs.List.{list_any}
use Rattle.ch_history.specs.declared.rows.Subscription.{Subscription}
use Rattle.ch_history.specs.Entries.{ChanEntry}
use Rattle.ch_history.specs.Subscriptions.{opened_by, settles, subs_after, on_channel, is_on}
use Rattle.ch_history.proofs.Lists.{filter-none, filter-swap, list_any-filter}
use Rattle.ch_history.proofs.OpenRows.{own_name}
use Rattle.ch_history.proofs.Texts.{text_itself}
use Rattle.ch_history.proofs.Subscriptions.{socket_of, channel_of}
use Rattle.ch_subs.specs.Subs.{without_one, without_all}
use Rattle.ch_shard.specs.Parting.{others}

-- an entry that settles none of these and opens none
pub stay : (xs : List Subscription) (e : ChanEntry) → list_any (λ s. settles s e) xs ≡ false → opened_by e ≡ None → subs_after xs e ≡ xs
stay xs e none nothing = ap₂ (λ ys o. ys ++ option_to_list o) (filter-none (λ s. settles s e) xs none) nothing ∙ append-nil xs

-- where the socket isn't on the channel, no subscription is its own one to it
pub none_own : (xs : List Subscription) (socket : ℕ) (c : List ℕ) → is_on xs socket c ≡ false → list_any (λ s. (s.socket == socket) && bytes_eq s.channel c) xs ≡ false
none_own xs socket c off = sym (list_any-filter (λ s. s.socket == socket) (λ s. bytes_eq s.channel c) xs) ∙ off

-- a subscription that was added and ends again leaves the others
pub join_undone : (xs : List Subscription) (n : Subscription) → is_on xs n.socket n.channel ≡ false → without_one (xs ++ n ∷ []) n.socket n.channel ≡ xs
join_undone xs n off =
    let own : Subscription → Bool = λ s. (s.socket == n.socket) && bytes_eq s.channel n.channel in
    let same : (n.socket == n.socket) ≡ true = grind (arith, nat_tests) in
    filter-append (λ s. not (own s)) xs (n ∷ [])
    ∙ ap₂ ◌++◌ (filter-none own xs (none_own xs n.socket n.channel off)) (ap₂ (λ a b. cond (not (a && b)) (n ∷ []) []) same (text_itself n.channel))
    ∙ append-nil xs

-- after a Leave the channel has the other sockets
pub after_leave : (xs : List Subscription) (socket : ℕ) (c : List ℕ) → on_channel (without_one xs socket c) c ≡ others (on_channel xs c) socket
after_leave xs socket c =
    filter-swap (λ s. bytes_eq s.channel c) (λ s. not ((s.socket == socket) && bytes_eq s.channel c)) xs
    ∙ own_name socket_of channel_of socket c xs

-- and after a loss each channel has
pub after_loss : (xs : List Subscription) (socket : ℕ) (c : List ℕ) → on_channel (without_all xs socket) c ≡ others (on_channel xs c) socket
after_loss xs socket c = filter-swap (λ s. bytes_eq s.channel c) (λ s. not (s.socket == socket)) xs
