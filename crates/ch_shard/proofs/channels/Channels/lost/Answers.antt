use Rattle.std.proofs.Common.{List, ◌∙◌, ◌++◌, All, ap, ap₂, refl, sym, subst}
use Rattle.ch_base.specs.declared.channel.ChanAnswer.TheVariants.{Gone}
use Rattle.ch_history.specs.declared.rows.Subscription.{Subscription}
use Rattle.ch_history.specs.Deliveries.{for_owner}
use Rattle.ch_presence.specs.declared.present.Present.{Present}
use Rattle.ch_subs.specs.Subs.{without_all}
use Rattle.ch_shard.specs.Sound.{AreSoundRows}
use Rattle.ch_shard.proofs.Sounds.{IsSound-lost}
use Rattle.ch_hooklog.specs.HookLog.{IsOfOneCall}
use Rattle.ch_history.specs.Subscriptions.{channels_in}
use Rattle.ch_shard.proofs.Occurring.{occurs, lost-call}
use Rattle.ch_outbox.proofs.Rooms.{OwnsFrame}
use Rattle.ch_shard.proofs.Owners.{lost_owned}
use Rattle.ch_shard.proofs.channels.Channels.lost.Goals as goal

pub make_room-requires : goal.make_room-requires
make_room-requires c =
    subst (All OwnsFrame) (sym c.in_ok-made.ensures.frames) (lost_owned c.self.inside.subs c.args.socket c.self.invariant.owners)

pub hand_over-requires-clause-owners : goal.hand_over-requires-clause-owners
hand_over-requires-clause-owners c =
    subst (All OwnsFrame) (sym c.in_ok-made.ensures.frames) (lost_owned c.self.inside.subs c.args.socket c.self.invariant.owners)

pub hand_over-requires-clause-call : goal.hand_over-requires-clause-call
hand_over-requires-clause-call c = subst IsOfOneCall (sym c.in_ok-made.ensures.hooks) (lost-call c.self.inside.subs (channels_in c.self.inside.subs c.args.socket) c.args.socket)

pub returns : goal.returns
returns c =
    rw (← c.self.view_is) (
      ap (λ n. Gone n) c.lost-count.ensures.answer,
      record {
        subs_now = c.lost-count.ensures.subs;
        latest = λ d at. refl;
        frames = λ w. c.hand_over.ensures.frames w ∙ ap₂ (λ ws ds. ws ++ for_owner w ds) (c.in_ok-make_room.ensures.frames w) c.in_ok-made.ensures.frames;
        hooks = occurs _ _ c.args.now _ _ _ _ c.in_ok-make_room.ensures.hooks c.in_ok-make_room.ensures.held c.in_ok-made.ensures.hooks c.hand_over.ensures.hooks c.hand_over.ensures.held;
      },
    )

pub invariant_of-self-2 : goal.invariant_of-self-2
invariant_of-self-2 c =
    let socket = c.args.socket in
    let xs = c.self.inside.subs in
    let P = λ (ys : List Subscription). AreSoundRows ys c.lost.new.self.rows in
    let Q = λ (rs : List Present). AreSoundRows (without_all xs socket) rs in
    subst P (sym c.lost-count.ensures.subs) (subst Q (sym c.lost.ensures) (IsSound-lost xs c.self.inside.presence.rows socket c.self.invariant))
