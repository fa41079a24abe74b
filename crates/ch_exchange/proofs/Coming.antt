-- What bytes come to.
use Rattle.std.proofs.Common.{◌≡◌, ◌⊎◌, ℕ, List, [], drop, ap, sym, subst, refl, ◌∙◌, append-nil, inl, inr}
use Rattle.std.specs.Prelude.{Option, Some, None, Result, Ok, Err, IfOk}
use Rattle.std.proofs.lemmas.List.Elements.{All-nil}
use Rattle.ch_answer.specs.Answers.{Serving, IsAnswer}
use Rattle.ch_base.specs.declared.memory.Memory.{Memory}
use Rattle.ch_desk.specs.OwnEntries.{IsAnswered, Makes}
use Rattle.ch_desk.specs.Views.{DeskView}
use Rattle.ch_desk.proofs.OwnEntries.{Makes-none}
use Rattle.ch_http.specs.Fed.{Fed}
use Rattle.ch_protocol.specs.Asks.{Asked, asks_of}
use Rattle.ch_requests.specs.Handshakes.{shaken}
use Rattle.ch_requests.specs.Replies.{refusal}
use Rattle.ch_requests.specs.Verdict.{IsVerdict}
use Rattle.ch_requests.specs.declared.head.Head.{Head}
use Rattle.ch_requests.specs.declared.reply.Reply.{Reply}
use Rattle.ch_requests.specs.declared.request.Look.{Look}
use Rattle.ch_requests.specs.declared.request.Look.TheVariants.{Need, Upgrade, Ready, Refuse}
use Rattle.ch_requests.specs.declared.request.Request.{Request}
use Rattle.ch_requests.specs.declared.trigger.Trigger.{Trigger}
use Rattle.ch_exchange.specs.Answers.{Means, ReadsRequest, ComesTo, is_late, shake_reply}
use Rattle.ch_exchange.specs.Hearing.{Answers, Serves, IsReplyOf, IsOr}
use Rattle.ch_exchange.specs.Pending.{Pending, closing, out_of_memory}

-- ---- memory

-- a reply that was made, or the one for want of memory
abbrev pub Either : Pending → Pending → Type 0
Either good p = (p ≡ good) ⊎ (p ≡ out_of_memory)

pub either : (made : Result Pending Memory) (good p : Pending) → IfOk made (λ x. x ≡ good) → IsOr made p → Either good p
either (Ok x) good p ok is = inl (is ∙ ok)
either (Err m) good p ok is = inr is

-- ---- a request

-- a request whose answer is replied to
pub served_by : (t s : Serving) (q : Request) (desk desk_new : DeskView) (answer other : Result Reply Memory) (p : Pending)
    → t ≡ s → (asked : List Asked) × Makes asked desk desk_new × IsAnswer t q asked answer → answer ≡ other → IsReplyOf other p → Serves s q desk desk_new p
served_by t s q desk desk_new answer other p same (asked, calls, answers) is reply = record {
  asked = asked;
  answer = other;
  calls = calls;
  answers = subst (λ x. IsAnswer s q asked x) is (subst (λ x. IsAnswer x q asked answer) same answers);
  reply = reply;
}

-- ---- looks

-- what is looked at means this
means : (s : Serving) (f : Fed) (look other : Look) (events : Option (List Trigger)) → IsVerdict s.config.app_id f.bytes (is_late f.since s.now) look
    → look ≡ other → ReadsRequest s other events → Means s f.bytes (is_late f.since s.now) (record { look = other; events = events })
means s f look other events verdict is reads = record {
  verdict = subst (λ x. IsVerdict s.config.app_id f.bytes (is_late f.since s.now) x) is verdict;
  body = reads;
}

pub needed : (s : Serving) (f : Fed) (desk : DeskView) (look : Look) → IsVerdict s.config.app_id f.bytes (is_late f.since s.now) look → look ≡ Need
    → Answers s f desk desk None
needed s f desk look verdict is = (
  [],
  inl (record { sense = record { look = Need; events = None }; means = means s f look Need None verdict is tt; asks = refl; answered = All-nil IsAnswered; is = refl }),
  Makes-none desk,
)

pub ran_out : (s : Serving) (f : Fed) (desk : DeskView) (p : Pending) → p ≡ out_of_memory → Answers s f desk desk (Some p)
ran_out s f desk p out = ([], inr (record { is = ap Some out; calls = inl refl }), Makes-none desk)

pub refused : (s : Serving) (f : Fed) (desk : DeskView) (look : Look) (status : ℕ) (p : Pending) → IsVerdict s.config.app_id f.bytes (is_late f.since s.now) look
    → look ≡ Refuse status → Either (closing (refusal status)) p → Answers s f desk desk (Some p)
refused s f desk look status p verdict is (inl good) = (
  [],
  inl (record { sense = record { look = Refuse status; events = None }; means = means s f look (Refuse status) None verdict is tt; asks = refl; answered = All-nil IsAnswered; is = ap Some good }),
  Makes-none desk,
)
refused s f desk look status p verdict is (inr out) = ran_out s f desk p out

pub upgraded : (s : Serving) (f : Fed) (desk : DeskView) (look : Look) (head : Head) (p : Pending) → IsVerdict s.config.app_id f.bytes (is_late f.since s.now) look
    → look ≡ Upgrade head → Either (shake_reply (drop head.used f.bytes) (shaken head)) p → Answers s f desk desk (Some p)
upgraded s f desk look head p verdict is (inl good) = (
  [],
  inl (record { sense = record { look = Upgrade head; events = None }; means = means s f look (Upgrade head) None verdict is tt; asks = refl; answered = All-nil IsAnswered; is = ap Some good }),
  Makes-none desk,
)
upgraded s f desk look head p verdict is (inr out) = ran_out s f desk p out

-- what a request comes to, by its answer
comes : (s : Serving) (f : Fed) (look : Look) (q : Request) (asked : List Asked) (answer : Result Reply Memory) (p : Pending)
    → IsVerdict s.config.app_id f.bytes (is_late f.since s.now) look → look ≡ Ready q → IsAnswer s q asked answer → IsReplyOf answer p
    → ComesTo s f.bytes (is_late f.since s.now) asked (Some p)
comes s f look q asked (Ok reply) p verdict is (inl (events, reads, (asks, answered, by))) (inl good) = inl (record {
  sense = record { look = Ready q; events = events };
  means = means s f look (Ready q) events verdict is reads;
  asks = asks;
  answered = answered;
  is = ap Some (good ∙ ap closing by);
})
comes s f look q asked (Ok reply) p verdict is (inl (events, reads, (asks, answered, by))) (inr out) = inr (record {
  is = ap Some out;
  calls = inr (record {
    sense = record { look = Ready q; events = events };
    means = means s f look (Ready q) events verdict is reads;
    rest = [];
    asks = sym asks ∙ sym (append-nil (asks_of asked));
  });
})
comes s f look q asked (Ok reply) p verdict is (inr (none, never)) reply_is = absurd never
comes s f look q asked (Err m) p verdict is (inl (events, reads, (rest, split))) out = inr (record {
  is = ap Some out;
  calls = inr (record {
    sense = record { look = Ready q; events = events };
    means = means s f look (Ready q) events verdict is reads;
    rest = rest;
    asks = split;
  });
})
comes s f look q asked (Err m) p verdict is (inr (none, unit)) out = inr (record { is = ap Some out; calls = inl none })

pub served : (s : Serving) (f : Fed) (desk desk_new : DeskView) (look : Look) (q : Request) (p : Pending) → IsVerdict s.config.app_id f.bytes (is_late f.since s.now) look
    → look ≡ Ready q → Serves s q desk desk_new p → Answers s f desk desk_new (Some p)
served s f desk desk_new look q p verdict is serves =
    (serves.asked, comes s f look q serves.asked serves.answer p verdict is serves.answers serves.reply, serves.calls)
