use Rattle.std.proofs.Common.{◌≡◌, ◌∙◌, ap, sym, subst}
use Rattle.ch_protocol.specs.ClientMessages.{checked}
use Rattle.ch_protocol.specs.declared.client_message.ClientMessage.TheVariants.{Subscribe, Unsubscribe}
use Rattle.ch_frames.specs.Verdicts.{verdict_of}
use Rattle.ch_frames.proofs.FaultsOf.{subscribe_verdict, unsubscribe_verdict}
use Rattle.ch_frames.proofs.checks.fault_of.Goals as goal

pub returns-in-Subscribe : goal.returns-in-Subscribe
returns-in-Subscribe c =
    let channel = c.in-Subscribe.channel in
    let auth = c.in-Subscribe.auth in
    let given = c.in-Subscribe.channel_data in
    subst (λ m. verdict_of m c.subscribable_fault.result ≡ checked m) (sym c.in-Subscribe.is)
    (ap (verdict_of (Subscribe channel auth given)) c.subscribable_fault.ensures ∙ subscribe_verdict channel auth given)

pub returns-in-Unsubscribe : goal.returns-in-Unsubscribe
returns-in-Unsubscribe c =
    let channel = c.in-Unsubscribe.channel in
    subst (λ m. verdict_of m c.subscribable_fault-in-Unsubscribe.result ≡ checked m) (sym c.in-Unsubscribe.is)
    (ap (verdict_of (Unsubscribe channel)) c.subscribable_fault-in-Unsubscribe.ensures ∙ unsubscribe_verdict channel)
