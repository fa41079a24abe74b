use Rattle.std.proofs.Common.{sym, subst}
use Rattle.ch_protocol.specs.declared.ask.Made.{Made}
use Rattle.ch_session.specs.Kept.{IsSettled}
use Rattle.ch_protocol.specs.Asks.{ComesOf}
use Rattle.ch_session.proofs.session.Session.settle.Goals as goal

pub returns-in-Chan-clause-settled : goal.returns-in-Chan-clause-settled
returns-in-Chan-clause-settled c = λ ask asks awaits comes.
    let P : Made → Type 0 = λ m. IsSettled c.args.self.now c.settle_chan.new.self c.args.place ask asks m c.args.now c.settle_chan.result in
    subst P (sym c.in-Chan.is) (c.settle_chan.ensures.settled c.args.place ask asks awaits (subst (λ m. ComesOf ask m) c.in-Chan.is comes))

pub returns-in-User-clause-settled : goal.returns-in-User-clause-settled
returns-in-User-clause-settled c = λ ask asks awaits comes.
    let P : Made → Type 0 = λ m. IsSettled c.args.self.now c.settle_user.new.self c.args.place ask asks m c.args.now c.settle_user.result in
    subst P (sym c.in-User.is) (c.settle_user.ensures.settled c.args.place c.args.now ask asks awaits (subst (λ m. ComesOf ask m) c.in-User.is comes))
