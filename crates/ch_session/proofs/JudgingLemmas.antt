-- What a message comes to is ready to be made.
use Rattle.std.proofs.Common.{◌≡◌, ℕ, ◌+◌, ◌<◌, ◌≤◌, Bool, true, false, List, [], ◌∷◌, length, map, refl, sym, ap, ◌∙◌, subst, arith}
use Rattle.std.specs.Prelude.{◌&&◌, Option, Some, None, is_none, is_some, option_map, bytes_eq, IsTrue, Result, Ok, Err, IfOk, All}
use Rattle.std.proofs.lemmas.Bool.{cond-true, cond-false}
use Rattle.std.proofs.lemmas.List.Elements.{All-nil, All-cons, All-head, All-tail}
use Rattle.std.proofs.lemmas.Nat.{mod_below}
use Rattle.ch_base.specs.declared.channel.ChanCall.{ChanCall}
use Rattle.ch_base.specs.declared.channel.ChanCall.TheVariants as chan
use Rattle.ch_base.specs.declared.channel.Member.{Member}
use Rattle.ch_base.specs.declared.memory.Memory.{Memory}
use Rattle.ch_config.specs.declared.config.Config.{Config}
use Rattle.ch_history.specs.ChannelName.{is_good_name, is_presence}
use Rattle.ch_history.specs.Limits.{IsMoment, IsSocket, is_user_id}
use Rattle.ch_history.specs.WellFormed.{IsMemberOf, IsWellFormed}
use Rattle.ch_history.specs.Placement.{BelongsTo, shard_of, fnv_from}
use Rattle.ch_history.specs.declared.limits.TheConstants.{FNV_OFFSET}
use Rattle.ch_protocol.specs.Sessions.{socket_id, is_given, signs_in}
use Rattle.ch_protocol.specs.Settling.{SettledAsk, user_of}
use Rattle.ch_protocol.specs.declared.client_message.UserData.{UserData}
use Rattle.ch_protocol.specs.declared.ask.Ask.{Ask}
use Rattle.ch_protocol.specs.declared.ask.Ask.TheVariants.{Chan}
use Rattle.ch_protocol.specs.declared.heard.Heard.TheVariants as heard
use Rattle.ch_protocol.specs.declared.limits.TheConstants.{MAX_SUBSCRIPTIONS}
use Rattle.ch_session.specs.declared.judged.Judged.{Judged}
use Rattle.ch_session.specs.declared.waiting.Waiting.{Waiting}
use Rattle.ch_session.specs.declared.waiting.Waiting.TheVariants.{Nothing, Join, Call, SignIn}
use Rattle.ch_session.specs.Judging.{known, IsJoiner, IsReady, IsSoundAsk, sign_in_by, watch_by}
use Rattle.ch_session.specs.Kept.{Kept, IsSession, HasShardsOf}
use Rattle.ch_session.specs.Signed.{signed_for_user}
use Rattle.ch_session.specs.Waits.{AreWatchesOn, IsCallOn}

abbrev pub or_true : Option Bool → Bool
or_true None = true
or_true (Some b) = b

pub same_some : (a b : Bool) → Some a ≡ Some b → a ≡ b
same_some a b same = ap or_true same

pub some_none : (b : Bool) → Some b ≡ None → ⊥
some_none b same = let told : true ≡ false = ap is_some same in cc

member_of_kind : (b : Bool) (channel : List ℕ) (member : Option Member) → is_presence channel ≡ b → (b && is_none member) ≡ false → IsJoiner channel member
    → IsMemberOf b member
member_of_kind true channel (Some m) kind there joins = joins.1
member_of_kind false channel None kind there joins = tt
member_of_kind true channel None kind there joins = let no : true ≡ false = there in cc
member_of_kind false channel (Some m) kind there joins = let no : true ≡ false = sym joins.0 ∙ kind in cc

-- a Join is
pub join_ready : (s : Kept) (config : Config) (shard now : ℕ) (channel : List ℕ) (member : Option Member) (r : Result Judged Memory)
    → HasShardsOf s config → IsSocket s.number → IsMoment now → IsTrue (is_good_name channel) → IsJoiner channel member
    → (is_presence channel && is_none member) ≡ false → s.told.subscriptions < MAX_SUBSCRIPTIONS
    → shard ≡ shard_of channel s.chans → shard < s.chans
    → IfOk r (λ j. j ≡ record { heard = heard.Ask (Chan shard (chan.Join s.number channel member now) ∷ []); waits = Join shard })
    → IfOk r (IsReady s config [])
join_ready s config shard now channel member (Err e) over socket moment good joins there room place below made = tt
join_ready s config shard now channel member (Ok j) over socket moment good joins there room place below made =
    let P = IsSoundAsk config in
    let ask : Ask = Chan shard (chan.Join s.number channel member now) in
    subst (IsReady s config []) (sym made)
    (record {
      awaits = (refl, refl, refl);
      holds = tt;
      sound = All-cons P ask [] (
        (socket, moment, good, member_of_kind (is_presence channel) channel member refl there joins),
        subst (λ n. shard < n) over.chans below,
        sym (place ∙ ap (shard_of channel) over.chans),
      )
          (All-nil P);
      ends = tt;
      fit = (room, below);
    })

-- any other call on a channel shard is
pub call_ready : (s : Kept) (config : Config) (shard : ℕ) (call : ChanCall) (r : Result Judged Memory)
    → HasShardsOf s config → IsWellFormed call → BelongsTo (shard, s.chans) call → IsCallOn shard (Chan shard call)
    → s.told.subscriptions ≤ MAX_SUBSCRIPTIONS → shard < s.chans
    → IfOk r (λ j. j ≡ record { heard = heard.Ask (Chan shard call ∷ []); waits = Call shard })
    → IfOk r (IsReady s config [])
call_ready s config shard call (Err e) over formed belongs called few below made = tt
call_ready s config shard call (Ok j) over formed belongs called few below made =
    subst (IsReady s config []) (sym made)
    (record {
      awaits = (refl, called, refl);
      holds = tt;
      sound = All-cons (IsSoundAsk config) (Chan shard call) []
          (formed, subst (λ n. shard < n) over.chans below, subst (λ n. BelongsTo (shard, n) call) over.chans belongs) (All-nil (IsSoundAsk config));
      ends = tt;
      fit = (few, below);
    })

-- a refusal is
pub refusal_ready : (s : Kept) (config : Config) (code : ℕ) (j : Judged) → s.told.subscriptions ≤ MAX_SUBSCRIPTIONS
    → j ≡ record { heard = heard.Refuse code; waits = Nothing } → IsReady s config [] j
refusal_ready s config code j few made =
    subst (IsReady s config []) (sym made) (record { awaits = refl; holds = tt; sound = All-nil (IsSoundAsk config); ends = tt; fit = few })

-- ---- sign-ins

shard_below : (name : List ℕ) (shards : ℕ) → 1 ≤ shards → shard_of name shards < shards
shard_below name shards some = mod_below (fnv_from FNV_OFFSET name) shards some

are_watches : (socket now shards : ℕ) (watchlist : List (List ℕ)) → AreWatchesOn (map (λ id. shard_of id shards) watchlist) (map (watch_by socket now shards) watchlist)
are_watches socket now shards [] = tt
are_watches socket now shards (id ∷ ids) = (refl, are_watches socket now shards ids)

sound_watches : (config : Config) (socket now : ℕ) (watchlist : List (List ℕ)) → IsSocket socket → IsMoment now → 1 ≤ config.user_shards
    → All (λ id. IsTrue (is_user_id id)) watchlist → All (IsSoundAsk config) (map (watch_by socket now config.user_shards) watchlist)
sound_watches config socket now [] is_socket moment some good = All-nil (IsSoundAsk config)
sound_watches config socket now (id ∷ ids) is_socket moment some good =
    let Q = λ (x : List ℕ). IsTrue (is_user_id x) in
    All-cons (IsSoundAsk config) (watch_by socket now config.user_shards id) (map (watch_by socket now config.user_shards) ids)
    ((is_socket, moment, All-head Q id ids good), shard_below id config.user_shards some, refl)
    (sound_watches config socket now ids is_socket moment some (All-tail Q id ids good))

fit_watches : (chans shards most : ℕ) (watchlist : List (List ℕ)) → 1 ≤ shards → chans + shards ≤ most
    → All (λ k. chans + k < most) (map (λ id. shard_of id shards) watchlist)
fit_watches chans shards most [] some within = All-nil (λ k. chans + k < most)
fit_watches chans shards most (id ∷ ids) some within =
    All-cons (λ k. chans + k < most) (shard_of id shards) (map (λ x. shard_of x shards) ids)
    (let below = shard_below id shards some in omega (arith, below, within)) (fit_watches chans shards most ids some within)

-- a sign-in with its watches is
pub sign_in_ready : (s : Kept) (config : Config) (now : ℕ) (id user_data : List ℕ) (watchlist : List (List ℕ)) (r : Result Judged Memory)
    → HasShardsOf s config → 1 ≤ config.user_shards → IsSocket s.number → IsMoment now → IsTrue (is_user_id id) → All (λ x. IsTrue (is_user_id x)) watchlist
    → s.told.subscriptions ≤ MAX_SUBSCRIPTIONS
    → IfOk r (λ j. j ≡ record {
      heard = heard.Ask (sign_in_by s.number now config.user_shards id ∷ map (watch_by s.number now config.user_shards) watchlist);
      waits = SignIn (shard_of id config.user_shards) id user_data (map (λ x. shard_of x config.user_shards) watchlist);
    })
    → IfOk r (IsReady s config user_data)
sign_in_ready s config now id user_data watchlist (Err e) over some socket moment good all_good few made = tt
sign_in_ready s config now id user_data watchlist (Ok j) over some socket moment good all_good few made =
    let within : s.chans + config.user_shards ≤ length s.told.used = omega (arith, over.chans, over.shards) in
    let below = shard_below id config.user_shards some in
    subst (IsReady s config user_data) (sym made)
    (record {
      awaits = (refl, (refl, refl), are_watches s.number now config.user_shards watchlist);
      holds = refl;
      sound = All-cons (IsSoundAsk config) (sign_in_by s.number now config.user_shards id) (map (watch_by s.number now config.user_shards) watchlist)
          ((socket, moment, good), below, refl) (sound_watches config s.number now watchlist socket moment some all_good);
      ends = tt;
      fit = (few, omega (arith, below, within), fit_watches s.chans config.user_shards (length s.told.used) watchlist some within);
    })

-- what a good sign-in comes to
pub sign_in_judged : (s : Kept) (config : Config) (now : ℕ) (auth user_data : List ℕ) (u : UserData) (waits : Waiting) (r : Result Judged Memory)
    → is_some s.told.user ≡ false → bytes_eq auth (signed_for_user config (socket_id s.start s.number) user_data) ≡ true
    → IfOk r (λ j. j ≡ record { heard = heard.Ask (sign_in_by s.number now config.user_shards u.id ∷ map (watch_by s.number now config.user_shards) u.watchlist); waits = waits })
    → (start number : ℕ) (asks : List SettledAsk) → IsSession s start number asks
    → IfOk r (λ j. j.heard ≡ signs_in (known config start number asks now) auth user_data (Some u))
sign_in_judged s config now auth user_data u waits (Err e) nobody given made start number asks stands = tt
sign_in_judged s config now auth user_data u waits (Ok j) nobody given made start number asks stands =
    let none : is_some (user_of asks) ≡ false = ap is_some (sym stands.tells.user) ∙ nobody in
    subst (λ a. j.heard ≡ signs_in (known config a number asks now) auth user_data (Some u)) stands.started
    (subst (λ b. j.heard ≡ signs_in (known config s.start b asks now) auth user_data (Some u)) stands.numbered
    (ap (λ (x : Judged). x.heard) made ∙ sym (cond-false _ _ _ none ∙ cond-true _ _ _ given)))

-- ---- the channels of users

pub no_owner : (known_user owner : Option (List ℕ)) → None ≡ option_map (is_given known_user) owner → owner ≡ None
no_owner known_user None owns = refl
no_owner known_user (Some id) owns = absurd (some_none (is_given known_user id) (sym owns))
