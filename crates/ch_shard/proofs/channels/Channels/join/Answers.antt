use Rattle.std.proofs.Common.{◌≡◌, ◌∙◌, ◌++◌, ◌∷◌, [], List, false, cond, All, refl, ap, ap₂, sym, subst, arith}
use Rattle.std.specs.Option.{option_copied}
use Rattle.ch_history.specs.declared.rows.Subscription.{Subscription}
use Rattle.ch_history.specs.Answers.{is_crowded}
use Rattle.ch_history.specs.Deliveries.{for_owner}
use Rattle.ch_history.specs.Subscriptions.{is_on, on_channel}
use Rattle.ch_presence.specs.declared.present.Present.{Present}
use Rattle.ch_presence.specs.Members.{with_newcomer}
use Rattle.ch_shard.specs.Greeting.{IsAbsent}
use Rattle.ch_shard.specs.Parts.{Parts, newcomer, join_hooks}
use Rattle.ch_shard.specs.Sound.{AreSoundRows}
use Rattle.ch_hooklog.specs.HookLog.{IsOfOneCall}
use Rattle.ch_shard.proofs.Greetings.{absent_is}
use Rattle.ch_shard.proofs.Occurring.{occurs, join-call}
use Rattle.ch_outbox.proofs.Rooms.{OwnsFrame}
use Rattle.ch_shard.proofs.Owners.{OwnsSub, join_owned}
use Rattle.ch_shard.proofs.Sounds.{IsSound-join}
use Rattle.ch_shard.proofs.Stays.{join_undone}
use Rattle.ch_subs.specs.Subs.{without_one}
use Rattle.ch_cache.specs.Latest.{latest_in}
use Rattle.ch_outbox.specs.Outbox.{frames_of}
use Rattle.ch_shard.proofs.channels.Channels.join.Goals as goal

pub make_room-requires : goal.make_room-requires
make_room-requires c =
    let n = newcomer c.args.caller c.args.socket c.args.channel.now (option_copied c.args.member) in
    let P = λ (k : Parts). All OwnsSub k.subs in
    subst (All OwnsFrame) (sym c.in_ok-frames.ensures.made) (join_owned c.args.self.now c.args.now n (subst P c.self.view_is c.self.invariant.owners) c.requires.caller)

pub hand_over-requires-clause-owners : goal.hand_over-requires-clause-owners
hand_over-requires-clause-owners c =
    let n = newcomer c.args.caller c.args.socket c.args.channel.now (option_copied c.args.member) in
    let P = λ (k : Parts). All OwnsSub k.subs in
    subst (All OwnsFrame) (sym c.in_ok-frames.ensures.made) (join_owned c.args.self.now c.args.now n (subst P c.self.view_is c.self.invariant.owners) c.requires.caller)

pub hand_over-requires-clause-call : goal.hand_over-requires-clause-call
hand_over-requires-clause-call c =
    let n = newcomer c.args.caller c.args.socket c.args.channel.now (option_copied c.args.member) in
    subst IsOfOneCall (sym c.in_ok-hooks.ensures) (join-call c.greeting_frames.new.self c.args.now (newcomer 0 0 c.args.channel.now (option_copied c.args.member)))

pub enter-requires : goal.enter-requires
enter-requires c =
    let d = c.args.channel.now in
    let socket = c.args.socket in
    let member = option_copied c.args.member in
    let rows = c.self-2.inside.presence.rows in
    let same = ap (λ (k : Parts). is_on k.subs socket d) (c.self-2.view_is ∙ c.in_ok-frames.ensures.same ∙ sym c.self.view_is) in
    let off : is_on c.self-2.inside.subs socket d ≡ false = same ∙ sym c.on.ensures ∙ c.if-on.false in
    subst (IsAbsent rows) (sym (c.as_ref-2.ensures.value ∙ c.in_ok-row.ensures)) (absent_is c.self-2.inside.subs rows socket d member c.self-2.invariant off)

pub invariant_of-self-in-Err : goal.invariant_of-self-in-Err
invariant_of-self-in-Err c =
    let xs : List Subscription = c.self-2.inside.subs in
    let d = c.args.channel.now in
    let n : Subscription = newcomer c.args.caller c.args.socket d (option_copied c.args.member) in
    let same = ap (λ (k : Parts). is_on k.subs c.args.socket d) (c.self-2.view_is ∙ c.in_ok-frames.ensures.same ∙ sym c.self.view_is) in
    let off : is_on xs c.args.socket d ≡ false = same ∙ sym c.on.ensures ∙ c.if-on.false in
    let joined : c.join.new.self ≡ xs ++ n ∷ [] = c.in_ok-join.ensures.ok ∙ ap (λ b. cond b xs (xs ++ n ∷ [])) off in
    let undone : c.leave.new.self ≡ xs = c.leave.ensures.subs ∙ ap (λ ys. without_one ys c.args.socket d) joined ∙ join_undone xs n off in
    let P = λ (ys : List Subscription). AreSoundRows ys c.enter.new.presence.rows in
    subst P (sym undone) (subst (AreSoundRows xs) (sym c.in-Err.ensures.err) c.self-2.invariant)

pub returns-in-Err : goal.returns-in-Err
returns-in-Err c =
    let xs : List Subscription = c.self-2.inside.subs in
    let d = c.args.channel.now in
    let n : Subscription = newcomer c.args.caller c.args.socket d (option_copied c.args.member) in
    let kept = c.self-2.view_is ∙ c.in_ok-frames.ensures.same in
    let same = ap (λ (k : Parts). is_on k.subs c.args.socket d) (kept ∙ sym c.self.view_is) in
    let off : is_on xs c.args.socket d ≡ false = same ∙ sym c.on.ensures ∙ c.if-on.false in
    let joined : c.join.new.self ≡ xs ++ n ∷ [] = c.in_ok-join.ensures.ok ∙ ap (λ b. cond b xs (xs ++ n ∷ [])) off in
    record {
      subs = c.leave.ensures.subs ∙ ap (λ ys. without_one ys c.args.socket d) joined ∙ join_undone xs n off ∙ ap (λ (k : Parts). k.subs) kept;
      latest = λ e at. ap (λ (k : Parts). latest_in k.cache e at) kept;
      frames = λ w. c.make_room.ensures.frames w ∙ ap (λ (k : Parts). frames_of k.outbox w) kept;
      log = c.make_room.ensures.hooks ∙ ap (λ (k : Parts). k.log) kept;
      held = c.make_room.ensures.held ∙ ap (λ (k : Parts). k.held) kept;
      spare = let before = ap (λ (k : Parts). k.spare) kept in omega (arith, before, c.make_room.ensures.spare);
    }

pub invariant_of-self-2 : goal.invariant_of-self-2
invariant_of-self-2 c =
    let xs : List Subscription = c.self-2.inside.subs in
    let d = c.args.channel.now in
    let rows = c.self-2.inside.presence.rows in
    let n : Subscription = newcomer c.args.caller c.args.socket d (option_copied c.args.member) in
    let same = ap (λ (k : Parts). is_on k.subs c.args.socket d) (c.self-2.view_is ∙ c.in_ok-frames.ensures.same ∙ sym c.self.view_is) in
    let off : is_on xs c.args.socket d ≡ false = same ∙ sym c.on.ensures ∙ c.if-on.false in
    let now : c.join.new.self ≡ xs ++ n ∷ [] = c.in_ok-join.ensures.ok ∙ ap (λ b. cond b xs (xs ++ n ∷ [])) off in
    let P = λ (ys : List Subscription). AreSoundRows ys c.enter.new.presence.rows in
    let Q = λ (rs : List Present). AreSoundRows (xs ++ n ∷ []) rs in
    subst P (sym now)
    (subst Q (sym (c.in-Ok.ensures.ok ∙ ap (with_newcomer rows) (c.as_ref-2.ensures.value ∙ c.in_ok-row.ensures)))
    (IsSound-join xs rows n c.requires.caller c.requires.member c.self-2.invariant))

pub returns : goal.returns
returns c =
    let xs : List Subscription = c.self-2.inside.subs in
    let d = c.args.channel.now in
    let member = option_copied c.args.member in
    let n : Subscription = newcomer c.args.caller c.args.socket d member in
    let kept = c.self-2.view_is ∙ c.in_ok-frames.ensures.same in
    let off : is_on c.args.self.now.subs c.args.socket d ≡ false = ap (λ (k : Parts). is_on k.subs c.args.socket d) (sym c.self.view_is) ∙ sym c.on.ensures ∙ c.if-on.false in
    let fits : is_crowded d (on_channel c.args.self.now.subs d) member ≡ false = sym c.is_crowded.ensures ∙ c.if-is_crowded.false in
    let same = ap (λ (k : Parts). is_on k.subs c.args.socket d) kept in
    let joined : c.join.new.self ≡ xs ++ n ∷ [] = c.in_ok-join.ensures.ok ∙ ap (λ b. cond b xs (xs ++ n ∷ [])) (same ∙ off) in
    rw off (rw fits (
      refl,
      record {
        subs_now = joined ∙ ap (λ (k : Parts). k.subs ++ n ∷ []) kept;
        latest = λ e at. ap (λ (k : Parts). latest_in k.cache e at) kept;
        frames = λ w. c.hand_over.ensures.frames w ∙ ap₂ (λ ws ds. ws ++ for_owner w ds) (c.in_ok-make_room.ensures.frames w ∙ ap (λ (k : Parts). frames_of k.outbox w) kept) c.in_ok-frames.ensures.made;
        hooks = occurs c.args.self.now _ c.args.now (join_hooks c.args.self.now c.args.now n) _ _ _
            (c.in_ok-make_room.ensures.hooks ∙ ap (λ (k : Parts). k.log) kept)
            (c.in_ok-make_room.ensures.held ∙ ap (λ (k : Parts). k.held) kept)
            (c.in_ok-hooks.ensures ∙ ap (λ (k : Parts). join_hooks k c.args.now n) c.in_ok-frames.ensures.same)
            c.hand_over.ensures.hooks c.hand_over.ensures.held;
      },
    ))
