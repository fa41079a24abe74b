use Rattle.std.proofs.Common.{◌≡◌, ◌∙◌, ◌++◌, ◌∷◌, [], true, Some, All, ap, ap₂, refl, sym, subst}
use Rattle.std.specs.Arc.{arc_value}
use Rattle.ch_base.specs.declared.frame.Frame.TheVariants.{Event}
use Rattle.ch_base.specs.declared.webhook.Hook.TheVariants.{Client}
use Rattle.ch_history.specs.Deliveries.{for_owner}
use Rattle.ch_history.specs.Frames.{is_other}
use Rattle.ch_history.specs.Subscriptions.{on_channel, is_on}
use Rattle.ch_shard.specs.Told.{told}
use Rattle.ch_shard.proofs.Occurring.{occurs}
use Rattle.ch_outbox.proofs.Rooms.{OwnsFrame}
use Rattle.ch_shard.proofs.Owners.{told_owned}
use Rattle.ch_shard.proofs.channels.Channels.say.Goals as goal

pub make_room-requires : goal.make_room-requires
make_room-requires c =
    subst (All OwnsFrame) (sym c.in_ok-frames.ensures)
    (told_owned (arc_value c.in_ok-printed.printed) (λ s. is_other (Some c.args.socket) s.socket) c.args.channel.now c.self.inside.subs c.self.invariant.owners)

pub hand_over-requires-clause-owners : goal.hand_over-requires-clause-owners
hand_over-requires-clause-owners c =
    subst (All OwnsFrame) (sym c.in_ok-frames.ensures)
    (told_owned (arc_value c.in_ok-printed.printed) (λ s. is_other (Some c.args.socket) s.socket) c.args.channel.now c.self.inside.subs c.self.invariant.owners)

pub returns : goal.returns
returns c =
    let d = c.args.channel.now in
    let socket = c.args.socket in
    let e = c.args.event.now in
    let body = c.args.body.now in
    let xs = on_channel c.self.inside.subs d in
    let there : is_on c.self.inside.subs socket d ≡ true = sym c.on.ensures ∙ c.if-not-on.false in
    let frames = c.in_ok-frames.ensures
    ∙ ap (λ f. told f (Some socket) xs) (c.in_ok-printed.ensures ∙ c.in_ok-frame.ensures ∙ ap (Event d e body) c.user_of-user_id.ensures) in
    let hooks = c.in_ok-push.ensures.items
    ∙ ap₂ (λ hs h. hs ++ h ∷ []) c.new-hooks.ensures.items (c.in_ok-hook.ensures ∙ ap (Client d e body socket) c.user_of-user_id.ensures) in
    rw (← c.self.view_is) (rw there (
      refl,
      record {
        subs_now = refl;
        latest = λ _ at. refl;
        frames = λ w. c.hand_over.ensures.frames w ∙ ap₂ (λ ws ds. ws ++ for_owner w ds) (c.in_ok-make_room.ensures.frames w) frames;
        hooks = occurs _ _ c.args.now _ _ _ _ c.in_ok-make_room.ensures.hooks c.in_ok-make_room.ensures.held hooks c.hand_over.ensures.hooks c.hand_over.ensures.held;
      },
    ))
