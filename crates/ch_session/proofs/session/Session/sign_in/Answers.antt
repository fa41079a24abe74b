use Rattle.std.proofs.Common.{◌≡◌, true, false, sym, subst, rules}
use Rattle.std.specs.Prelude.{IfOk, IfSome, Option, is_some, bytes_eq}
use Rattle.std.proofs.lemmas.List.Sums.{AllPass-from_list_all}
use Rattle.ch_history.specs.Limits.{is_user_id}
use Rattle.ch_frames.specs.Checked.{IsGoodUser}
use Rattle.ch_protocol.specs.Sessions.{signs_in, socket_id}
use Rattle.ch_protocol.specs.declared.client_message.UserData.{UserData}
use Rattle.ch_session.specs.Judging.{IsReady, known}
use Rattle.ch_session.specs.Kept.{Kept, HasShardsOf, IsSession}
use Rattle.ch_session.specs.Signed.{signed_for_user}
use Rattle.ch_session.proofs.JudgingLemmas.{sign_in_ready, sign_in_judged}
use Rattle.ch_session.proofs.SettlingLemmas.{few_if_fit}
use Rattle.ch_session.proofs.session.Session.sign_in.Goals as goal

pub returns-clause-judged : goal.returns-clause-judged
returns-clause-judged c = λ start number asks stands.
    let old : Kept = record { start = c.self.inside.start; number = c.self.inside.number; chans = c.self.inside.chans; told = c.self.inside.told; waits = c.self.inside.waits; quiet = c.self.inside.activity; lost = c.self.inside.lost } in
    let stands = subst (λ (s : Kept). IsSession s start number asks) (sym c.self.view_is) stands in
    let nobody : is_some c.self.inside.told.user ≡ false = search rules in
    let given : bytes_eq c.args.auth (signed_for_user c.args.config.now (socket_id c.self.inside.start c.self.inside.number) c.args.user_data) ≡ true = search rules in
    let P : Option UserData → Type 0 = λ u. IfOk c.signed_in.result (λ j. j.heard ≡ signs_in (known c.args.config.now start number asks c.args.now) c.args.auth c.args.user_data u) in
    subst P (sym c.in-Some.is)
    (sign_in_judged old c.args.config.now c.args.now c.args.auth c.args.user_data c.in-Some.user _ c.signed_in.result nobody given c.signed_in.ensures start number asks stands)

pub returns-clause-ready : goal.returns-clause-ready
returns-clause-ready c =
    let old : Kept = record { start = c.self.inside.start; number = c.self.inside.number; chans = c.self.inside.chans; told = c.self.inside.told; waits = c.self.inside.waits; quiet = c.self.inside.activity; lost = c.self.inside.lost } in
    let P : Kept → Type 0 = λ s. IfOk c.signed_in.result (IsReady s c.args.config.now c.args.user_data) in
    let over = subst (λ (s : Kept). HasShardsOf s c.args.config.now) (sym c.self.view_is) c.requires.over in
    let few = few_if_fit c.self.inside.told c.self.inside.chans c.self.inside.waits c.self.invariant.4 in
    let good = subst (λ u. IfSome u IsGoodUser) c.in-Some.is c.requires.user in
    subst P c.self.view_is
    (sign_in_ready old c.args.config.now c.args.now c.in-Some.user.id c.args.user_data c.in-Some.user.watchlist c.signed_in.result over
    (c.requires.config.user_shards.0) c.self.invariant.3 c.requires.now good.id (AllPass-from_list_all is_user_id c.in-Some.user.watchlist good.watchlist) few c.signed_in.ensures)
