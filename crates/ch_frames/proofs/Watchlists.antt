-- Watchlists.
use Rattle.std.proofs.Common.{◌≡◌, inl, inr, ℕ, ◌<◌, ◌≤◌, List, [], ◌∷◌, length, Bool, true, false, not, cond, refl, sym, ap, ◌∙◌, subst, Some, arith}
use Rattle.std.specs.Prelude.{Option, None, Result, Ok, Err, IfOk, codes, filter, bytes_eq}
use Rattle.std.specs.List.{list_all}
use Rattle.std.proofs.lemmas.Bool.{and_parts, and_from}
use Rattle.ch_base.specs.JsonTree.{Span, Tree, plain, null, array, Items, Members}
use Rattle.ch_base.specs.JsonParts.{items_of}
use Rattle.ch_base.specs.JsonNames.{Named}
use Rattle.ch_base.specs.ObjectMembers.{HasOne}
use Rattle.ch_base.specs.FirstPlaces.{first_places}
use Rattle.ch_json.specs.NodeOf.{form_of}
use Rattle.ch_json.specs.declared.node.Form.{Form}
use Rattle.ch_json.specs.declared.node.Form.TheVariants as form
use Rattle.ch_history.specs.Limits.{is_user_id}
use Rattle.ch_protocol.specs.UserDataText.{AreIds, IsIdList, HasWatchlist, TellsUser}
use Rattle.ch_protocol.specs.declared.client_message.UserData.{UserData}
use Rattle.ch_frames.specs.declared.refused.Unread.{Unread}
use Rattle.ch_members.specs.Readings.{Gives}
use Rattle.ch_frames.specs.Ids.{IsWatchlist, Told, good_ids}
use Rattle.ch_members.specs.ArrayStrings.{AreStrings}
use Rattle.ch_members.proofs.OnlyOne.{gives_all}
use Rattle.ch_frames.specs.Checked.{IsGoodUser}
use Rattle.ch_members.proofs.MembersOfName.{one_value, none_or_one, many_not_none, many_not_one}

-- ---- the ids of an array

pub ids_from : (text : List ℕ) (vs : List Tree) (ids : List (List ℕ)) → AreStrings text vs ids → list_all is_user_id ids ≡ true → AreIds text vs ids
ids_from text [] [] h good = tt
ids_from text [] (x ∷ ids) h good = absurd h
ids_from text (v ∷ vs) [] h good = absurd h
ids_from text (v ∷ vs) (x ∷ ids) h good = let both = and_parts (is_user_id x) (list_all is_user_id ids) good in (h.0, both.0, ids_from text vs ids h.1 both.1)

pub ids_strings : (text : List ℕ) (vs : List Tree) (ids : List (List ℕ)) → AreIds text vs ids → AreStrings text vs ids
ids_strings text [] [] h = tt
ids_strings text [] (x ∷ ids) h = absurd h
ids_strings text (v ∷ vs) [] h = absurd h
ids_strings text (v ∷ vs) (x ∷ ids) h = (h.0, ids_strings text vs ids h.2)

ids_good : (text : List ℕ) (vs : List Tree) (ids : List (List ℕ)) → AreIds text vs ids → list_all is_user_id ids ≡ true
ids_good text [] [] h = refl
ids_good text [] (x ∷ ids) h = absurd h
ids_good text (w ∷ vs) [] h = absurd h
ids_good text (w ∷ vs) (x ∷ ids) h = and_from (is_user_id x) (list_all is_user_id ids) h.1 (ids_good text vs ids h.2)

pub gives_ids : (text : List ℕ) (vs : List Tree) (ids : List (List ℕ)) → AreStrings text vs ids → Gives (AreIds text vs) (good_ids ids)
gives_ids text vs ids h = gives_all is_user_id (AreIds text vs) text vs ids h (ids_from text vs ids h) (λ (ys : List (List ℕ)) (k : AreIds text vs ys). (ids_strings text vs ys k, ids_good text vs ys k))

-- ---- a watchlist

pub no_watchlist : (text : List ℕ) (v : Tree) (f : Form) (ws : List (List ℕ)) → f ≡ form_of v → (f ≡ form.Null → ⊥) → ((n : ℕ) → f ≡ form.List n → ⊥) → IsWatchlist text v ws → ⊥
no_watchlist text v f ws e no_null other (inl (s, is, nothing)) = no_null (e ∙ ap form_of is)
no_watchlist text v f ws e no_null other (inr (vs, s, is, list)) = other (length (items_of vs)) (e ∙ ap form_of is)

-- the array of a watchlist
list_of : (text : List ℕ) (v : Tree) (n : ℕ) (ws : List (List ℕ)) → form.List n ≡ form_of v → IsWatchlist text v ws → (vs : Items) × (s : Span) × (v ≡ array vs s) × (n ≡ length (items_of vs)) × IsIdList text vs ws
list_of text v n ws e (inl (s, is, nothing)) = let two : form.List n ≡ form.Null = e ∙ ap form_of is in absurd (cc)
list_of text v n ws e (inr (vs, s, is, list)) = let two : form.List n ≡ form.List (length (items_of vs)) = e ∙ ap form_of is in (vs, s, is, cc, list)

pub too_long : (text : List ℕ) (v : Tree) (n : ℕ) (ws : List (List ℕ)) → form.List n ≡ form_of v → 100 < n → IsWatchlist text v ws → ⊥
too_long text v n ws e long h = let k = list_of text v n ws e h in let few : length (items_of k.0) ≤ 100 = k.4.few in absurd (omega (arith, k.3))

same_items : (vs ws : Items) (s t : Span) → array vs s ≡ array ws t → vs ≡ ws
same_items vs ws s t e = cc

pub not_ids : (text : List ℕ) (v : Tree) (n : ℕ) (vs : Items) (s : Span) (ws : List (List ℕ)) → form.List n ≡ form_of v → v ≡ array vs s → Gives (AreIds text (items_of vs)) None → IsWatchlist text v ws → ⊥
not_ids text v n vs s ws e is none h =
    let k = list_of text v n ws e h in
    let same : k.0 ≡ vs = same_items k.0 vs k.1 s (sym k.2 ∙ is) in
    none k.4.ids (subst (λ (y : Items). AreIds text (items_of y) k.4.ids) same k.4.are)

watchlist_back : (text : List ℕ) (ms : Members) (v : Tree) (ws : List (List ℕ)) → HasOne text ms (codes "watchlist") v → HasWatchlist text ms ws → IsWatchlist text v ws
watchlist_back text ms v ws has (inl (inl none, e)) = absurd (none_or_one text (codes "watchlist") ms v none has)
watchlist_back text ms v ws has (inl (inr (s, k), e)) = inl (s, one_value text (codes "watchlist") ms v (plain null s) has k, e)
watchlist_back text ms v ws has (inr (vs, s, k, list)) = inr (vs, s, one_value text (codes "watchlist") ms v (array vs s) has k, list)

pub gives_watchlist : (text : List ℕ) (ms : Members) (v : Tree) → HasOne text ms (codes "watchlist") v → (o : Option (List (List ℕ))) → Gives (IsWatchlist text v) o → Gives (HasWatchlist text ms) o
gives_watchlist text ms v has (Some ws) (inl (s, is, e)) = inl (inr (s, subst (HasOne text ms (codes "watchlist")) is has), e)
gives_watchlist text ms v has (Some ws) (inr (vs, s, is, list)) = inr (vs, s, subst (HasOne text ms (codes "watchlist")) is has, list)
gives_watchlist text ms v has None h = λ ws k. h ws (watchlist_back text ms v ws has k)

pub many_no_watchlist : (text : List ℕ) (ms : Members) (vs : List Tree) (ws : List (List ℕ)) → Named text (codes "watchlist") ms vs → 2 ≤ length vs → HasWatchlist text ms ws → ⊥
many_no_watchlist text ms vs ws named h (inl (inl none, e)) = many_not_none text (codes "watchlist") ms vs named h none
many_no_watchlist text ms vs ws named h (inl (inr (s, k), e)) = many_not_one text (codes "watchlist") ms vs (plain null s) named h k
many_no_watchlist text ms vs ws named h (inr (is, s, k, list)) = many_not_one text (codes "watchlist") ms vs (array is s) named h k

-- ---- good users

kept_good : (good test : List ℕ → Bool) (xs : List (List ℕ)) → list_all good xs ≡ true → list_all good (filter test xs) ≡ true
kept_good good test [] h = refl
kept_good good test (x ∷ xs) h =
    let both = and_parts (good x) (list_all good xs) h in
    let rest = kept_good good test xs both.1 in
    elim (test x) as (λ b. list_all good (cond b (x ∷ filter test xs) (filter test xs)) ≡ true) [ true ↦ and_from (good x) (list_all good (filter test xs)) both.0 rest | false ↦ rest ]

first_good : (good : List ℕ → Bool) (xs : List (List ℕ)) → list_all good xs ≡ true → list_all good (first_places xs) ≡ true
first_good good [] h = refl
first_good good (x ∷ xs) h =
    let both = and_parts (good x) (list_all good xs) h in
    and_from (good x) _ both.0 (kept_good good (λ y. not (bytes_eq y x)) (first_places xs) (first_good good xs both.1))

watchlist_good : (text : List ℕ) (ms : Members) (ws : List (List ℕ)) → HasWatchlist text ms ws → list_all is_user_id ws ≡ true
watchlist_good text ms ws (inl (left_out, e)) = ap (list_all is_user_id) e
watchlist_good text ms ws (inr (vs, s, k, list)) = ap (list_all is_user_id) list.once ∙ first_good is_user_id list.ids (ids_good text (items_of vs) list.ids list.are)

pub user_good : (text : List ℕ) (r : Result UserData Unread) → Told (TellsUser text) r → IfOk r IsGoodUser
user_good text (Ok u) h = record { id = h.good; watchlist = watchlist_good text h.members u.watchlist h.watchlist }
user_good text (Err e) h = tt
