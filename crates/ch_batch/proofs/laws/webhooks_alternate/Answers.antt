use Rattle.ch_batch.proofs.WebhookLaws.{webhooks_law}
use Rattle.ch_batch.proofs.laws.webhooks_alternate.Goals as goal

pub returns : goal.returns
returns c = webhooks_law
