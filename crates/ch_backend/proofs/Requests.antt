-- What the bytes of a request did, by what they are.
use Rattle.std.proofs.Common.{◌≡◌, ℕ, false, ◌∙◌, ap, refl, subst, List, ◌++◌, inl, inr}
use Rattle.std.specs.Prelude.{None, Result, Ok, Err, OnOk}
use Rattle.ch_base.specs.declared.memory.Memory.{Memory}
use Rattle.ch_config.specs.declared.config.Config.{Config}
use Rattle.ch_desk.specs.AloneCalls.{CallsAlone, IsAlone, IsAt}
use Rattle.ch_desk.specs.OwnEntries.{Makes}
use Rattle.ch_desk.specs.Views.{DeskView}
use Rattle.ch_requests.specs.Handshakes.{handshake_key}
use Rattle.ch_requests.specs.Replies.{refusal}
use Rattle.ch_requests.specs.Verdict.{IsVerdict}
use Rattle.ch_requests.specs.declared.head.Head.{Head}
use Rattle.ch_requests.specs.declared.request.Look.{Look}
use Rattle.ch_requests.specs.declared.request.Look.TheVariants.{Need, Upgrade, Ready, Refuse}
use Rattle.ch_requests.specs.declared.request.Request.{Request}
use Rattle.ch_transcript.specs.Printing.{reply_line, shake_line, need_line}
use Rattle.ch_protocol.specs.Shards.{Shards, after_asks, made_of_all}
use Rattle.ch_transcript.specs.Exchanges.{Exchange, answers, exchanges}
use Rattle.ch_backend.specs.Exchanges.{IsExchange, Does, Answers, Writes}
use Rattle.ch_answer.specs.Answers.{IsAnswer, plan_asks, plan_reply}
use Rattle.ch_protocol.specs.Asks.{Asked, asks_of, came_of}
use Rattle.ch_requests.specs.Plans.{planned}
use Rattle.ch_requests.specs.Replies.{reply_to}
use Rattle.ch_requests.specs.declared.plan.Planned.{Planned}
use Rattle.ch_requests.specs.declared.plan.Planned.TheVariants.{Answer, Ask as AskPlan}
use Rattle.ch_requests.specs.declared.reply.Reply.{Reply}
use Rattle.ch_transcript.specs.declared.start.TheConstants.{START_SECOND}

-- of what holds where there was memory
pub on_ok : {T A B : Type 0} (r : Result T Memory) → OnOk r A → (A → B) → OnOk r B
on_ok (Ok x) holds next = next holds
on_ok (Err m) holds next = tt

module _ (config : Config) (at : ℕ) (bytes : List ℕ) (shards : Shards) where
  -- whatever the body is, where it isn't read
  unread : (look : Look) (x : Exchange) → IsVerdict config.app_id bytes false look → ((q : Request) → look ≡ Ready q → ⊥)
      → x ≡ exchanges config at look None shards → IsExchange config at bytes shards x
  unread Need x verdict other is = (Need, None, record { verdict = verdict; body = tt }, is)
  unread (Upgrade head) x verdict other is = (Upgrade head, None, record { verdict = verdict; body = tt }, is)
  unread (Ready q) x verdict other is = absurd (other q refl)
  unread (Refuse status) x verdict other is = (Refuse status, None, record { verdict = verdict; body = tt }, is)

  pub needed : (look : Look) (desk : DeskView) (old new : List ℕ) → look ≡ Need → IsVerdict config.app_id bytes false look
      → IsAt desk shards → new ≡ old ++ need_line → Does desk old new (IsExchange config at bytes shards)
  needed look desk old new is verdict at_shards text = record {
    exchange = record { text = need_line; shards = shards };
    is = unread Need _ (subst (IsVerdict config.app_id bytes false) is verdict) (λ q e. cc) refl;
    text = text;
    at_shards = at_shards;
  }

  pub refused : (look : Look) (status : ℕ) (desk : DeskView) (old new : List ℕ) → look ≡ Refuse status → IsVerdict config.app_id bytes false look
      → IsAt desk shards → new ≡ old ++ reply_line (refusal status) → Does desk old new (IsExchange config at bytes shards)
  refused look status desk old new is verdict at_shards text = record {
    exchange = record { text = reply_line (refusal status); shards = shards };
    is = unread (Refuse status) _ (subst (IsVerdict config.app_id bytes false) is verdict) (λ q e. cc) refl;
    text = text;
    at_shards = at_shards;
  }

  pub upgraded : (look : Look) (head : Head) (desk : DeskView) (old new : List ℕ) → look ≡ Upgrade head → IsVerdict config.app_id bytes false look
      → IsAt desk shards → new ≡ old ++ shake_line (handshake_key head) → Does desk old new (IsExchange config at bytes shards)
  upgraded look head desk old new is verdict at_shards text = record {
    exchange = record { text = shake_line (handshake_key head); shards = shards };
    is = unread (Upgrade head) _ (subst (IsVerdict config.app_id bytes false) is verdict) (λ q e. cc) refl;
    text = text;
    at_shards = at_shards;
  }

  pub answered : (look : Look) (q : Request) (desk : DeskView) (old new : List ℕ) → look ≡ Ready q → IsVerdict config.app_id bytes false look
      → Answers config at q shards desk old new → Does desk old new (IsExchange config at bytes shards)
  answered look q desk old new is verdict h = record {
    exchange = _;
    is = (Ready q, h.events, record { verdict = subst (IsVerdict config.app_id bytes false) is verdict; body = h.reads }, refl);
    text = h.writes.text;
    at_shards = h.writes.at_shards;
  }

-- ---- a whole request

-- the line of a plan's reply, by what came of its calls
written_as : (plan : Planned) (asked : List Asked) (reply : Reply) (shards : Shards) (desk : DeskView) (old new : List ℕ) → asks_of asked ≡ plan_asks plan
    → reply ≡ plan_reply (came_of asked) plan → came_of asked ≡ made_of_all shards (asks_of asked) → IsAt desk (after_asks shards (asks_of asked))
    → new ≡ old ++ reply_line reply → Writes desk old new (answers shards plan)
written_as (Answer r) asked reply shards desk old new asks is came lists text =
    record { text = text ∙ ap (λ z. old ++ reply_line z) is; at_shards = subst (λ l. IsAt desk (after_asks shards l)) asks lists }
written_as (AskPlan plan) asked reply shards desk old new asks is came lists text = record {
  text = text ∙ ap (λ z. old ++ reply_line z) (is ∙ ap (reply_to plan) (came ∙ ap (made_of_all shards) asks));
  at_shards = subst (λ l. IsAt desk (after_asks shards l)) asks lists;
}

-- the request was answered at the desk of a caller that is alone
pub answered_alone : CallsAlone → (config : Config) (at : ℕ) (q : Request) (shards : Shards) (reply : Reply) (old_desk desk : DeskView) (old new : List ℕ)
    → ((asked : List Asked) × Makes asked old_desk desk × IsAnswer (record { config = config; start = START_SECOND; now = at }) q asked (Ok reply))
    → new ≡ old ++ reply_line reply → IsAt old_desk shards → IsAlone desk → Answers config at q shards desk old new
answered_alone law config at q shards reply old_desk desk old new (asked, makes, come) text lists alone = elim come [
  | inl a ↦
      let alone_come = law asked old_desk desk shards makes a.2.1 alone lists in
      record {
        events = a.0;
        reads = a.1;
        writes = written_as (planned config START_SECOND q at a.0) asked reply shards desk old new a.2.0 a.2.2 alone_come.came alone_come.lists text;
      }
  | inr b ↦ absurd b.1
]
