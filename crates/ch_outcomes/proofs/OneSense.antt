-- That the free text of a command means one thing.
use Rattle.std.proofs.Common.{◌≡◌, ℕ, Bool, true, false, List, Ok, Err, refl, sym, ap, ◌∙◌, subst, Some}
use Rattle.std.specs.Prelude.{Option, None, MatchBool, if◌then◌else◌}
use Rattle.ch_base.specs.declared.channel.Member.{Member}
use Rattle.ch_config.specs.declared.config.Config.{Config}
use Rattle.ch_history.specs.ChannelName.{is_presence}
use Rattle.ch_protocol.specs.ClientMessages.{Verdict}
use Rattle.ch_protocol.specs.ChannelData.{TellsMember}
use Rattle.ch_protocol.specs.UserDataText.{TellsUser}
use Rattle.ch_protocol.specs.Readings.{Reading, TellsJoiner, Joins, SignsIn, Reads}
use Rattle.ch_protocol.specs.declared.client_message.ClientMessage.TheVariants.{Ping, Pong, Subscribe, Unsubscribe, SignIn, Say}
use Rattle.ch_protocol.specs.declared.client_message.UserData.{UserData}
use Rattle.ch_frames.proofs.OneMeaning.{one_verdict, one_member, one_user}
use Rattle.ch_http.proofs.VerdictLemmas.{one_verdict as one_look}
use Rattle.ch_requests.specs.Authorization.{is_authorized}
use Rattle.ch_requests.specs.Plans.{planned, planned_by, refused}
use Rattle.ch_requests.specs.Triggers.{ReadsBody}
use Rattle.ch_requests.specs.declared.plan.Planned.{Planned}
use Rattle.ch_requests.specs.declared.request.Look.{Look}
use Rattle.ch_requests.specs.declared.request.Look.TheVariants.{Need, Upgrade, Ready, Refuse}
use Rattle.ch_requests.specs.declared.request.Request.{Request}
use Rattle.ch_requests.specs.declared.trigger.Trigger.{Trigger}
use Rattle.ch_triggers.proofs.OneReading.{one_reading}
use Rattle.ch_transcript.specs.declared.start.TheConstants.{START_SECOND}
use Rattle.ch_protocol.specs.Shards.{Shards}
use Rattle.ch_transcript.specs.Exchanges.{answers, exchanges, ReadsRequest, Comes}
use Rattle.ch_transcript.specs.Obeying.{takes_turn, of_socket, Hears, IsJudged}
use Rattle.ch_transcript.specs.Progress.{Progress, Socket, Played, has_socket, is_live, socket_of, quietly}
use Rattle.ch_transcript.specs.Turns.{Turn}

-- ---- texts of sockets

member_once : (text : List ℕ) (a b : Option Member) → TellsMember text a → TellsMember text b → a ≡ b
member_once text (Some x) (Some y) h k = ap (λ (z : Member). Some z) (one_member text x y h k)
member_once text (Some x) None h k = absurd (k x h)
member_once text None (Some y) h k = absurd (h y k)
member_once text None None h k = refl

user_once : (text : List ℕ) (a b : Option UserData) → TellsUser text a → TellsUser text b → a ≡ b
user_once text (Some x) (Some y) h k = ap (λ (z : UserData). Some z) (one_user text x y h k)
user_once text (Some x) None h k = absurd (k x h)
user_once text None (Some y) h k = absurd (h y k)
user_once text None None h k = refl

joiner_once : (channel_data : Option (List ℕ)) (a b : Option Member) → TellsJoiner channel_data a → TellsJoiner channel_data b → a ≡ b
joiner_once None a b h k = h ∙ sym k
joiner_once (Some text) a b h k = member_once text a b h k

joins_once : (v : Verdict) (a b : Option Member) → Joins v a → Joins v b → a ≡ b
joins_once (Ok (Subscribe channel auth channel_data)) a b h k = test (is_presence channel) h k
  where
    test : (is : Bool) → MatchBool is (TellsJoiner channel_data a) (a ≡ None) → MatchBool is (TellsJoiner channel_data b) (b ≡ None) → a ≡ b
    test true x y = joiner_once channel_data a b x y
    test false x y = x ∙ sym y
joins_once (Ok Ping) a b h k = h ∙ sym k
joins_once (Ok Pong) a b h k = h ∙ sym k
joins_once (Ok (Unsubscribe channel)) a b h k = h ∙ sym k
joins_once (Ok (SignIn auth user_data)) a b h k = h ∙ sym k
joins_once (Ok (Say channel event body)) a b h k = h ∙ sym k
joins_once (Err code) a b h k = h ∙ sym k

signs_once : (v : Verdict) (a b : Option UserData) → SignsIn v a → SignsIn v b → a ≡ b
signs_once (Ok (SignIn auth user_data)) a b h k = user_once user_data a b h k
signs_once (Ok Ping) a b h k = h ∙ sym k
signs_once (Ok Pong) a b h k = h ∙ sym k
signs_once (Ok (Subscribe channel auth channel_data)) a b h k = h ∙ sym k
signs_once (Ok (Unsubscribe channel)) a b h k = h ∙ sym k
signs_once (Ok (Say channel event body)) a b h k = h ∙ sym k
signs_once (Err code) a b h k = h ∙ sym k

reading_from : Verdict → Option Member → Option UserData → Reading
reading_from v m u = record { verdict = v; member = m; user = u }

same_reading : (v w : Verdict) (m n : Option Member) (u x : Option UserData) → v ≡ w → m ≡ n → u ≡ x → reading_from v m u ≡ reading_from w n x
same_reading v w m n u x verdict member user = cc

pub reads_once : (text : List ℕ) (r q : Reading) → Reads text r → Reads text q → r ≡ q
unfolding reading_from
reads_once text r q h k =
    let verdict : q.verdict ≡ r.verdict = one_verdict text q.verdict r.verdict k.says h.says in
    same_reading r.verdict q.verdict r.member q.member r.user q.user
    (sym verdict)
    (joins_once r.verdict r.member q.member h.member (subst (λ (v : Verdict). Joins v q.member) verdict k.member))
    (signs_once r.verdict r.user q.user h.user (subst (λ (v : Verdict). SignsIn v q.user) verdict k.user))

-- a socket's text does one thing, whatever is done with its reading
pub heard_once : (p : Progress) (number : ℕ) (text : List ℕ) (does : Reading → Socket → Shards → Turn) (r q : Reading) → Hears p number text r → Hears p number text q
    → of_socket p number (does r) ≡ of_socket p number (does q)
heard_once p number text does r q h k = test (has_socket p.sockets number) (is_live p.sockets number) h k
  where
    done : Reading → Played
    done x = takes_turn p number (does x (socket_of p.sockets number) p.shards)

    test : (has live : Bool) → MatchBool live (Reads text r) (Unit {0}) → MatchBool live (Reads text q) (Unit {0})
        → (if has then Some (if live then done r else quietly p) else None) ≡ (if has then Some (if live then done q else quietly p) else None)
    test has true x y = ap (λ (z : Reading). if has then Some (done z) else None) (reads_once text r q x y)
    test has false x y = refl

-- ---- bodies

pub judged_once : (body : List ℕ) (a b : Bool) → IsJudged body a → IsJudged body b → a ≡ b
judged_once body true true h k = refl
judged_once body true false h k = absurd (k h)
judged_once body false true h k = absurd (h k)
judged_once body false false h k = refl

-- ---- requests

planned_once : (config : Config) (at : ℕ) (q : Request) (ts us : Option (List Trigger)) → ReadsRequest config at (Ready q) ts → ReadsRequest config at (Ready q) us
    → planned config START_SECOND q at ts ≡ planned config START_SECOND q at us
planned_once config at q ts us h k = test (is_authorized config q at) h k
  where
    by : Option (List Trigger) → Planned
    by x = planned_by config START_SECOND q at x q.route

    test : (is : Bool) → MatchBool is (ReadsBody q.route q.body ts) (Unit {0}) → MatchBool is (ReadsBody q.route q.body us) (Unit {0})
        → (if is then by ts else refused 401) ≡ (if is then by us else refused 401)
    test true x y = ap by (one_reading q.route q.body ts us x y)
    test false x y = refl

exchange_once : (config : Config) (at : ℕ) (shards : Shards) (look : Look) (ts us : Option (List Trigger)) → ReadsRequest config at look ts → ReadsRequest config at look us
    → exchanges config at look ts shards ≡ exchanges config at look us shards
exchange_once config at shards Need ts us h k = refl
exchange_once config at shards (Upgrade head) ts us h k = refl
exchange_once config at shards (Ready q) ts us h k = ap (λ (z : Planned). answers shards z) (planned_once config at q ts us h k)
exchange_once config at shards (Refuse status) ts us h k = refl

-- the bytes of a request do one thing
pub comes_once : (config : Config) (at : ℕ) (bytes : List ℕ) (shards : Shards) (look other : Look) (ts us : Option (List Trigger)) → Comes config at bytes look ts → Comes config at bytes other us
    → exchanges config at look ts shards ≡ exchanges config at other us shards
comes_once config at bytes shards look other ts us h k =
    let same : other ≡ look = one_look config.app_id bytes false other look k.verdict h.verdict in
    exchange_once config at shards look ts us h.body (subst (λ (z : Look). ReadsRequest config at z us) same k.body)
    ∙ ap (λ (z : Look). exchanges config at z us shards) (sym same)
