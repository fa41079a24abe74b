use Rattle.std.proofs.Common.{◌∙◌, ◌++◌, length, ap, ap₂, refl, All, sym, subst}
use Rattle.std.specs.Arc.{arc_value}
use Rattle.ch_base.specs.declared.channel.ChanAnswer.TheVariants.{Sent}
use Rattle.ch_history.specs.Deliveries.{for_owner}
use Rattle.ch_history.specs.Presence.{users_in}
use Rattle.ch_history.specs.Subscriptions.{on_channel}
use Rattle.ch_hooklog.specs.HookLog.{IsOfOneCall}
use Rattle.ch_shard.specs.Parts.{Parts}
use Rattle.ch_shard.specs.Told.{told}
use Rattle.ch_history.specs.Frames.{is_other}
use Rattle.ch_shard.proofs.Occurring.{occurs}
use Rattle.ch_outbox.proofs.Rooms.{OwnsFrame}
use Rattle.ch_shard.proofs.Owners.{told_owned}
use Rattle.ch_shard.proofs.channels.Channels.publish.Goals as goal

pub make_room-requires : goal.make_room-requires
make_room-requires c =
    subst (All OwnsFrame) (sym c.in_ok-frames.ensures)
    (told_owned (arc_value c.in_ok-printed.printed) (λ s. is_other c.args.except s.socket) c.args.channel.now c.self.inside.subs c.self.invariant.owners)

pub hand_over-requires-clause-owners : goal.hand_over-requires-clause-owners
hand_over-requires-clause-owners c =
    subst (All OwnsFrame) (sym c.in_ok-frames.ensures)
    (told_owned (arc_value c.in_ok-printed.printed) (λ s. is_other c.args.except s.socket) c.args.channel.now c.self.inside.subs c.self.invariant.owners)

pub hand_over-requires-clause-call : goal.hand_over-requires-clause-call
hand_over-requires-clause-call c = subst IsOfOneCall (sym c.new-hooks.ensures.items) tt

pub returns : goal.returns
returns c =
    let d = c.args.channel.now in
    let xs = on_channel c.self.inside.subs d in
    let told_all = c.in_ok-frames.ensures ∙ ap (λ f. told f c.args.except xs) (c.in_ok-printed.ensures ∙ c.in_ok-frame.ensures) in
    rw (← c.self.view_is) (
    record {
      answered = ap₂ (λ n u. Sent n u) c.count-subs.ensures (c.user_count-users.ensures ∙ ap (λ (k : Parts). length (users_in d (on_channel k.subs d))) (sym c.self.view_is));
      subs = refl;
      latest = c.in_ok-keep.ensures.ok;
      frames = λ w. c.hand_over.ensures.frames w ∙ ap₂ (λ ws ds. ws ++ for_owner w ds) (c.in_ok-make_room.ensures.frames w) told_all;
      hooks = occurs _ _ c.args.now _ _ _ _ c.in_ok-make_room.ensures.hooks c.in_ok-make_room.ensures.held c.new-hooks.ensures.items c.hand_over.ensures.hooks c.hand_over.ensures.held;
    }
    )
