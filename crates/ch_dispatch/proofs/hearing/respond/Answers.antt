use Rattle.std.proofs.Common.{[], ◌∷◌, sym, subst, refl}
use Rattle.std.specs.Prelude.{Some, None}
use Rattle.ch_base.specs.declared.frame.Frame.TheVariants.{Error}
use Rattle.ch_protocol.specs.declared.heard.Heard.{Heard}
use Rattle.ch_protocol.specs.declared.heard.Heard.TheVariants as heard
use Rattle.ch_protocol.specs.declared.heard.Settled.TheVariants as settled
use Rattle.ch_dispatch.specs.Asking.{Responds}
use Rattle.ch_dispatch.specs.Hearing.{AtDesk}
use Rattle.ch_dispatch.proofs.Heeded.{responds_plain}
use Rattle.ch_dispatch.proofs.hearing.respond.Goals as goal

pub returns-in-Nothing : goal.returns-in-Nothing
returns-in-Nothing g c =
    let a = c.args in
    responds_plain a.now a.heard heard.Nothing (record { session = a.session.now; desk = g.D.Desk.view a.desk.now }) [] c.nothing.result
    (record { reply = None; end = None }) c.in-Nothing.is refl (λ user_data. refl) c.nothing.ensures refl refl c.requires.waits

pub returns-in-Reply : goal.returns-in-Reply
returns-in-Reply g c =
    let a = c.args in
    responds_plain a.now a.heard (heard.Reply c.in-Reply.frame) (record { session = a.session.now; desk = g.D.Desk.view a.desk.now }) (settled.Reply c.in-Reply.frame ∷ []) c.reply.result
    (record { reply = Some c.in-Reply.frame; end = None }) c.in-Reply.is refl (λ user_data. refl) c.reply.ensures refl refl c.requires.waits

pub returns-in-Refuse : goal.returns-in-Refuse
returns-in-Refuse g c =
    let a = c.args in
    responds_plain a.now a.heard (heard.Refuse c.in-Refuse.code) (record { session = a.session.now; desk = g.D.Desk.view a.desk.now }) (settled.Refuse c.in-Refuse.code ∷ []) c.refusal.result
    (record { reply = Some (Error c.in-Refuse.code); end = None }) c.in-Refuse.is refl (λ user_data. refl) c.refusal.ensures refl refl c.requires.waits

pub returns-in-End : goal.returns-in-End
returns-in-End g c =
    let a = c.args in
    responds_plain a.now a.heard (heard.End c.in-End.code) (record { session = a.session.now; desk = g.D.Desk.view a.desk.now }) (settled.End c.in-End.code ∷ []) c.end.result
    (record { reply = None; end = Some c.in-End.code }) c.in-End.is refl (λ user_data. refl) c.end.ensures refl refl c.requires.waits

pub returns-in-Ask : goal.returns-in-Ask
returns-in-Ask g c =
    let a = c.args in
    let old : AtDesk = record { session = a.session.now; desk = g.D.Desk.view a.desk.now } in
    let new : AtDesk = record { session = c.make_asks.new.session; desk = g.D.Desk.view c.make_asks.new.desk } in
    let P : Heard → Type 0 = λ h. Responds a.now h old new c.make_asks.result in
    subst P (sym c.in-Ask.is) c.make_asks.ensures
