use Rattle.std.proofs.Common.{List, ◌≡◌, ◌∙◌, ◌++◌, true, All, refl, ap, ap₂, sym, subst}
use Rattle.ch_history.specs.declared.rows.Subscription.{Subscription}
use Rattle.ch_history.specs.Deliveries.{for_owner}
use Rattle.ch_history.specs.Subscriptions.{is_on}
use Rattle.ch_presence.specs.declared.present.Present.{Present}
use Rattle.ch_subs.specs.Subs.{without_one}
use Rattle.ch_shard.specs.Sound.{AreSoundRows}
use Rattle.ch_hooklog.specs.HookLog.{IsOfOneCall}
use Rattle.ch_shard.specs.Parting.{leave_frames, leave_hooks}
use Rattle.ch_shard.proofs.Occurring.{occurs, leave-call}
use Rattle.ch_shard.proofs.Sounds.{IsSound-leave}
use Rattle.ch_outbox.proofs.Rooms.{OwnsFrame}
use Rattle.ch_shard.proofs.Owners.{leave_owned}
use Rattle.ch_shard.proofs.channels.Channels.leave.Goals as goal

pub make_room-requires : goal.make_room-requires
make_room-requires c =
    subst (All OwnsFrame) (sym (c.in_ok-part.ensures.frames ∙ ap (λ ds. ds ++ leave_frames c.self.inside.subs c.args.channel.now c.args.socket) c.new-made.ensures.frames))
    (leave_owned c.self.inside.subs c.args.channel.now c.args.socket c.self.invariant.owners)

pub hand_over-requires-clause-owners : goal.hand_over-requires-clause-owners
hand_over-requires-clause-owners c =
    subst (All OwnsFrame) (sym (c.in_ok-part.ensures.frames ∙ ap (λ ds. ds ++ leave_frames c.self.inside.subs c.args.channel.now c.args.socket) c.new-made.ensures.frames))
    (leave_owned c.self.inside.subs c.args.channel.now c.args.socket c.self.invariant.owners)

pub hand_over-requires-clause-call : goal.hand_over-requires-clause-call
hand_over-requires-clause-call c =
    subst IsOfOneCall (sym (c.in_ok-part.ensures.hooks ∙ ap (λ ks. ks ++ leave_hooks c.self.inside.subs c.args.channel.now c.args.socket) c.new-made.ensures.hooks))
    (leave-call c.self.inside.subs c.args.channel.now c.args.socket)

pub returns : goal.returns
returns c =
    let d = c.args.channel.now in
    let socket = c.args.socket in
    let xs = c.self.inside.subs in
    let there : is_on xs socket d ≡ true = sym c.on.ensures ∙ c.if-not-on.false in
    let frames = c.in_ok-part.ensures.frames ∙ ap (λ ds. ds ++ leave_frames xs d socket) c.new-made.ensures.frames in
    let hooks = c.in_ok-part.ensures.hooks ∙ ap (λ ks. ks ++ leave_hooks xs d socket) c.new-made.ensures.hooks in
    rw (← c.self.view_is) (rw there (
      refl,
      record {
        subs_now = c.leave.ensures.subs;
        latest = λ _ at. refl;
        frames = λ w. c.hand_over.ensures.frames w ∙ ap₂ (λ ws ds. ws ++ for_owner w ds) (c.in_ok-make_room.ensures.frames w) frames;
        hooks = occurs _ _ c.args.now _ _ _ _ c.in_ok-make_room.ensures.hooks c.in_ok-make_room.ensures.held hooks c.hand_over.ensures.hooks c.hand_over.ensures.held;
      },
    ))

pub invariant_of-self-2 : goal.invariant_of-self-2
invariant_of-self-2 c =
    let d = c.args.channel.now in
    let socket = c.args.socket in
    let xs = c.self.inside.subs in
    let P = λ (ys : List Subscription). AreSoundRows ys c.depart.new.presence.rows in
    let Q = λ (rs : List Present). AreSoundRows (without_one xs socket d) rs in
    subst P (sym c.leave.ensures.subs) (subst Q (sym c.depart.ensures) (IsSound-leave xs c.self.inside.presence.rows d socket c.self.invariant))
