-- That a reply doesn't depend on how the bytes of its request were cut.
use Rattle.std.proofs.Common.{◌≡◌, ◌≢◌, ℕ, Bool, true, false, List, ◌++◌, drop, ap, sym, subst, refl, ◌∙◌}
use Rattle.std.specs.Prelude.{Option, Some, MatchBool, if◌then◌else◌}
use Rattle.ch_answer.specs.Answers.{Serving, plan_asks, plan_reply}
use Rattle.ch_http.specs.Laws.{VerdictStays, OneVerdict}
use Rattle.ch_protocol.specs.Asks.{came_of}
use Rattle.ch_protocol.specs.declared.ask.Made.{Made}
use Rattle.ch_requests.specs.Authorization.{is_authorized}
use Rattle.ch_requests.specs.Handshakes.{shaken}
use Rattle.ch_requests.specs.Plans.{planned_by, refused}
use Rattle.ch_requests.specs.Replies.{refusal}
use Rattle.ch_requests.specs.Triggers.{ReadsBody}
use Rattle.ch_requests.specs.declared.handshake.Shake.{Shake}
use Rattle.ch_requests.specs.declared.handshake.Shake.TheVariants as shake
use Rattle.ch_requests.specs.declared.plan.Planned.{Planned}
use Rattle.ch_requests.specs.declared.request.Look.{Look}
use Rattle.ch_requests.specs.declared.request.Look.TheVariants.{Need, Upgrade, Ready, Refuse}
use Rattle.ch_requests.specs.declared.request.Request.{Request}
use Rattle.ch_requests.specs.declared.trigger.Trigger.{Trigger}
use Rattle.ch_triggers.specs.Laws.{OneReading}
use Rattle.ch_exchange.specs.Answers.{ReadsRequest, look_asks, look_reply, plan_of, shake_reply}
use Rattle.ch_exchange.specs.Laws.{MeaningStays, CutsLeaveNoTrace, IsSameReply}
use Rattle.ch_exchange.specs.Pending.{Pending, closing}

pub meaning_stays : VerdictStays → MeaningStays
meaning_stays stays s bytes more sense m some = record {
  verdict = stays s.config.app_id bytes more sense.look m.verdict some;
  body = m.body;
}

-- a request is planned in one way, however its body is read
planned_once : OneReading → (s : Serving) (q : Request) (events others : Option (List Trigger)) → ReadsRequest s (Ready q) events → ReadsRequest s (Ready q) others
    → plan_of s events q ≡ plan_of s others q
planned_once once s q events others h k = test (is_authorized s.config q s.now) h k
  where
    by : Option (List Trigger) → Planned
    by x = planned_by s.config s.start q s.now x q.route

    test : (is : Bool) → MatchBool is (ReadsBody q.route q.body events) (Unit {0}) → MatchBool is (ReadsBody q.route q.body others) (Unit {0})
        → (if is then by events else refused 401) ≡ (if is then by others else refused 401)
    test true x y = ap by (once q.route q.body events others x y)
    test false x y = refl

asks_once : OneReading → (s : Serving) (look : Look) (events others : Option (List Trigger)) → ReadsRequest s look events → ReadsRequest s look others
    → look_asks s events look ≡ look_asks s others look
asks_once once s Need events others h k = refl
asks_once once s (Upgrade head) events others h k = refl
asks_once once s (Ready q) events others h k = ap plan_asks (planned_once once s q events others h k)
asks_once once s (Refuse status) events others h k = refl

-- ---- replies

same_as : (one other x y : Pending) → one ≡ x → other ≡ y → IsSameReply x y → IsSameReply one other
same_as one other x y p q same = subst (λ z. IsSameReply z other) (sym p) (subst (λ z. IsSameReply x z) (sym q) same)

shake_alike : (rest more : List ℕ) (x : Shake) → IsSameReply (shake_reply rest x) (shake_reply more x)
shake_alike rest more (shake.Upgrade reply target) = record { bytes = refl; after = refl }
shake_alike rest more (shake.Refuse reply) = record { bytes = refl; after = tt }

reply_once : OneReading → (s : Serving) (bytes all : List ℕ) (look : Look) (events others : Option (List Trigger)) (answers : List Made) (one other : Pending)
    → ReadsRequest s look events → ReadsRequest s look others → Some one ≡ look_reply s bytes events answers look → Some other ≡ look_reply s all others answers look
    → IsSameReply one other
reply_once once s bytes all Need events others answers one other h k is and_is = cc
reply_once once s bytes all (Upgrade head) events others answers one other h k is and_is =
    let p : one ≡ shake_reply (drop head.used bytes) (shaken head) = cc in
    let q : other ≡ shake_reply (drop head.used all) (shaken head) = cc in
    same_as one other (shake_reply (drop head.used bytes) (shaken head)) (shake_reply (drop head.used all) (shaken head)) p q
    (shake_alike (drop head.used bytes) (drop head.used all) (shaken head))
reply_once once s bytes all (Ready q) events others answers one other h k is and_is =
    let p : one ≡ closing (plan_reply answers (plan_of s events q)) = cc in
    let r : other ≡ closing (plan_reply answers (plan_of s others q)) = cc in
    same_as one other (closing (plan_reply answers (plan_of s events q))) (closing (plan_reply answers (plan_of s others q))) p r
    (record { bytes = ap (λ x. (closing (plan_reply answers x)).left) (planned_once once s q events others h k); after = tt })
reply_once once s bytes all (Refuse status) events others answers one other h k is and_is =
    let p : one ≡ closing (refusal status) = cc in
    let q : other ≡ closing (refusal status) = cc in
    same_as one other (closing (refusal status)) (closing (refusal status)) p q (record { bytes = refl; after = tt })

-- where there is a reply, no more bytes are wanted
replied : (s : Serving) (bytes : List ℕ) (events : Option (List Trigger)) (answers : List Made) (look : Look) (one : Pending)
    → Some one ≡ look_reply s bytes events answers look → look ≢ Need
replied s bytes events answers Need one is none = cc
replied s bytes events answers (Upgrade head) one is none = cc
replied s bytes events answers (Ready q) one is none = cc
replied s bytes events answers (Refuse status) one is none = cc

pub cuts_leave_no_trace : VerdictStays → OneVerdict → OneReading → CutsLeaveNoTrace
cuts_leave_no_trace stays unique once s bytes more asked others one other m n = (
  m.asks ∙ asks_once once s look m.sense.events n.sense.events m.means.body read ∙ ap (look_asks s n.sense.events) same ∙ sym n.asks,
  λ answers. reply_once once s bytes (bytes ++ more) look m.sense.events n.sense.events (came_of asked) one other m.means.body read m.is (is answers),
)
  where
    look : Look
    look = m.sense.look

    same : m.sense.look ≡ n.sense.look
    same = unique s.config.app_id (bytes ++ more) false m.sense.look n.sense.look
        (stays s.config.app_id bytes more m.sense.look m.means.verdict (replied s bytes m.sense.events (came_of asked) m.sense.look one m.is)) n.means.verdict

    read : ReadsRequest s m.sense.look n.sense.events
    read = subst (λ x. ReadsRequest s x n.sense.events) (sym same) n.means.body

    is : came_of asked ≡ came_of others → Some other ≡ look_reply s (bytes ++ more) n.sense.events (came_of asked) m.sense.look
    is answers = n.is ∙ ap (λ x. look_reply s (bytes ++ more) n.sense.events (came_of others) x) (sym same)
        ∙ ap (λ x. look_reply s (bytes ++ more) n.sense.events x m.sense.look) (sym answers)
