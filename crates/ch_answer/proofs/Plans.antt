-- Plans that need no calls, or find no memory.
use Rattle.std.proofs.Common.{◌≡◌, List, [], sym, subst, refl, inr}
use Rattle.std.specs.Prelude.{Ok, Err}
use Rattle.std.proofs.lemmas.List.Elements.{All-nil}
use Rattle.ch_base.specs.declared.memory.Memory.{Memory}
use Rattle.ch_desk.specs.OwnEntries.{IsAnswered, Makes}
use Rattle.ch_desk.proofs.OwnEntries.{Makes-none}
use Rattle.ch_desk.specs.Views.{DeskView}
use Rattle.ch_protocol.specs.Asks.{Asked}
use Rattle.ch_requests.specs.declared.plan.Planned.{Planned}
use Rattle.ch_requests.specs.declared.plan.Planned.TheVariants.{Answer}
use Rattle.ch_requests.specs.declared.reply.Reply.{Reply}
use Rattle.ch_requests.specs.declared.request.Request.{Request}
use Rattle.ch_answer.specs.Answers.{IsAnswer, IsPlanAnswer, Serving}

-- a plan without calls is its reply
pub at_once : (reply : Reply) (plan : Planned) (desk : DeskView) → plan ≡ Answer reply → (asked : List Asked) × Makes asked desk desk × IsPlanAnswer plan asked (Ok reply)
at_once reply plan desk is =
    let P : Planned → Type 0 = λ x. (asked : List Asked) × Makes asked desk desk × IsPlanAnswer x asked (Ok reply) in
    subst P (sym is) ([], Makes-none desk, (refl, All-nil IsAnswered, refl))

-- there was no memory to make a plan
pub unplanned : (s : Serving) (q : Request) (desk : DeskView) (m : Memory) → (asked : List Asked) × Makes asked desk desk × IsAnswer s q asked (Err m)
unplanned s q desk m = ([], Makes-none desk, inr (refl, tt))
