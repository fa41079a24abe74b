-- What an exchange did in all its turns.
use Rattle.std.proofs.Common.{◌≡◌, ◌⊎◌, ℕ, Bool, false, List, [], ◌∷◌, ◌++◌, ap, sym, subst, refl, ◌∙◌, append_assoc, append-nil, inl, inr}
use Rattle.std.specs.Prelude.{Option, Some, None}
use Rattle.ch_answer.specs.Answers.{Serving}
use Rattle.ch_config.specs.declared.config.Config.{Config}
use Rattle.ch_http.specs.Fed.{Fed}
use Rattle.ch_protocol.specs.Asks.{Asked, asks_of, came_of}
use Rattle.ch_protocol.specs.declared.ask.Made.{Made}
use Rattle.ch_requests.specs.Verdict.{IsVerdict, in_time}
use Rattle.ch_requests.specs.declared.request.Look.{Look}
use Rattle.ch_requests.specs.declared.request.Look.TheVariants.{Need, Upgrade, Ready, Refuse}
use Rattle.ch_requests.specs.declared.trigger.Trigger.{Trigger}
use Rattle.ch_exchange.specs.Answers.{ComesTo, is_late, look_asks, look_reply}
use Rattle.ch_exchange.specs.Pending.{Pending}
use Rattle.ch_exchange.specs.Stories.{Story, and_then, HasReply, WantsMore, IsAt, Begins, GoesOn}
use Rattle.ch_exchange.specs.Turns.{Course, Reads, Writes, CannotRead, IsUnread, stage_of}
use Rattle.ch_exchange.specs.declared.pending.After.{After}
use Rattle.ch_exchange.specs.declared.stage.Stage.{Stage}
use Rattle.ch_exchange.specs.declared.stage.Stage.TheVariants.{Reading, Replying, Finished}
use Rattle.ch_exchange.specs.declared.turn.ExTurn.{ExTurn}

pub begins : Begins
begins config start since = (refl, refl, refl, inl refl)

-- ---- where no reply stands, no ask was made, and more bytes are wanted

no_asks : (asked : List Asked) → asks_of asked ≡ [] → asked ≡ []
no_asks [] none = refl
no_asks (x ∷ asked) none = cc

look_none : (s : Serving) (bytes : List ℕ) (events : Option (List Trigger)) (answers : List Made) (look : Look) → None ≡ look_reply s bytes events answers look
    → look_asks s events look ≡ []
look_none s bytes events answers Need is = refl
look_none s bytes events answers (Upgrade head) is = cc
look_none s bytes events answers (Ready q) is = cc
look_none s bytes events answers (Refuse status) is = cc

need_only : (s : Serving) (bytes : List ℕ) (events : Option (List Trigger)) (answers : List Made) (look : Look) → None ≡ look_reply s bytes events answers look → look ≡ Need
need_only s bytes events answers Need is = refl
need_only s bytes events answers (Upgrade head) is = cc
need_only s bytes events answers (Ready q) is = cc
need_only s bytes events answers (Refuse status) is = cc

none_asked : (s : Serving) (bytes : List ℕ) (late : Bool) (asked : List Asked) → ComesTo s bytes late asked None → asked ≡ []
none_asked s bytes late asked (inl a) = no_asks asked (a.asks ∙ look_none s bytes a.sense.events (came_of asked) a.sense.look a.is)
none_asked s bytes late asked (inr o) = let is = o.is in cc

-- what is wanted late is wanted in time
need_in_time : (late : Bool) (look : Look) → Need ≡ in_time late look → Need ≡ look
need_in_time late Need is = refl
need_in_time late (Upgrade head) is = is
need_in_time late (Ready q) is = is
need_in_time late (Refuse status) is = is

in_time_same : (look : Look) → in_time false look ≡ look
in_time_same Need = refl
in_time_same (Upgrade head) = refl
in_time_same (Ready q) = refl
in_time_same (Refuse status) = refl

wanted_in_time : (app bytes : List ℕ) (late : Bool) → IsVerdict app bytes late Need → IsVerdict app bytes false Need
wanted_in_time app bytes late (heading, holds, is) = (heading, holds, need_in_time late _ is ∙ sym (in_time_same _))

wants_more : (s : Serving) (bytes : List ℕ) (late : Bool) (asked : List Asked) → ComesTo s bytes late asked None → IsVerdict s.config.app_id bytes false Need
wants_more s bytes late asked (inl a) = wanted_in_time s.config.app_id bytes late
    (subst (λ x. IsVerdict s.config.app_id bytes late x) (need_only s bytes a.sense.events (came_of asked) a.sense.look a.is) a.means.verdict)
wants_more s bytes late asked (inr o) = let is = o.is in cc

-- ---- one turn

-- the reply that was made has this left
at_stage : (config : Config) (start : ℕ) (t : Story) (left : List ℕ) (after : After) (new : Stage) → HasReply config start t left after → new ≡ stage_of left after
    → IsAt config start t new
at_stage config start t left after new has is = subst (λ x. IsAt config start t x) (sym is) (by left has)
  where
    by : (left : List ℕ) → HasReply config start t left after → IsAt config start t (stage_of left after)
    by [] has = (after, has, refl)
    by (b ∷ bytes) has = has

-- the same bytes, with some spelled otherwise
comes_same : (s : Serving) (b d : List ℕ) (since other : ℕ) (xs ys : List Asked) (reply : Option Pending) → b ≡ d → since ≡ other → xs ≡ ys
    → ComesTo s b (is_late since s.now) xs reply → ComesTo s d (is_late other s.now) ys reply
comes_same s b d since other xs ys reply bytes moment asks comes =
    subst (λ z. ComesTo s d (is_late other s.now) z reply) asks
    (subst (λ z. ComesTo s d (is_late z s.now) xs reply) moment
    (subst (λ z. ComesTo s z (is_late since s.now) xs reply) bytes comes))

-- a turn that reads, after which a reply stands
made_one : (config : Config) (start now : ℕ) (t : Story) (c : Course) (f : Fed) (p : Pending) (new : Stage) → f ≡ record { bytes = t.read; since = t.since } → t.asked ≡ [] → t.written ≡ []
    → ComesTo (record { config = config; start = start; now = now }) (f.bytes ++ c.read) (is_late f.since now) c.asked (Some p)
    → Writes c (Some p) (Reading f) new → IsAt config start (and_then t c) new
made_one config start now t c f p new is none nothing comes (front, after) = at_stage config start (and_then t c) c.left p.after new (record {
  now = now;
  reply = p;
  comes = comes_same (record { config = config; start = start; now = now }) (f.bytes ++ c.read) (t.read ++ c.read) f.since t.since c.asked (t.asked ++ c.asked) (Some p)
      (ap (λ (x : Fed). x.bytes ++ c.read) is) (ap (λ (x : Fed). x.since) is) (ap (λ z. z ++ c.asked) (sym none)) comes;
  bytes = front ∙ ap (λ z. (z ++ c.written) ++ c.left) (sym nothing);
  follows = refl;
}) after

-- a turn that writes on
wrote_on : (config : Config) (start : ℕ) (t : Story) (c : Course) (p : Pending) (new : Stage) → HasReply config start t p.left p.after → c.read ≡ [] → c.asked ≡ []
    → Writes c (Some p) (Replying p) new → IsAt config start (and_then t c) new
wrote_on config start t c p new has read asked (front, after) = at_stage config start (and_then t c) c.left p.after new (record {
  now = has.now;
  reply = has.reply;
  comes = comes_same (record { config = config; start = start; now = has.now }) t.read (t.read ++ c.read) t.since t.since t.asked (t.asked ++ c.asked) (Some has.reply)
      (sym (append-nil t.read) ∙ ap (λ z. t.read ++ z) (sym read)) refl (sym (append-nil t.asked) ∙ ap (λ z. t.asked ++ z) (sym asked)) has.comes;
  bytes = has.bytes ∙ ap (λ z. t.written ++ z) front ∙ sym (append_assoc t.written c.written c.left);
  follows = has.follows;
}) after

-- a turn after which no reply stands
read_more : (config : Config) (start : ℕ) (t : Story) (c : Course) (f : Fed) (new : Stage) → f ≡ record { bytes = t.read; since = t.since } → t.asked ≡ [] → t.written ≡ []
    → c.asked ≡ [] → c.written ≡ [] → WantsMore config (and_then t c) → new ≡ Reading (record { bytes = f.bytes ++ c.read; since = f.since }) → IsAt config start (and_then t c) new
read_more config start t c f new is none nothing asked written wants after = subst (λ x. IsAt config start (and_then t c) x) (sym after) (
  ap (λ (x : Fed). record { bytes = x.bytes ++ c.read; since = x.since }) is,
  ap (λ z. z ++ c.asked) none ∙ asked,
  ap (λ z. z ++ c.written) nothing ∙ written,
  wants,
)

-- where nothing was read, what was wanted still is
still_wants : (config : Config) (t : Story) (c : Course) → c.read ≡ [] → WantsMore config t → WantsMore config (and_then t c)
still_wants config t c read wants = subst (λ z. (z ≡ []) ⊎ IsVerdict config.app_id z false Need) (sym (append-nil t.read) ∙ ap (λ z. t.read ++ z) (sym read)) wants

by_reply : (config : Config) (start now : ℕ) (t : Story) (c : Course) (f : Fed) (new : Stage) (result : ExTurn) (reply : Option Pending) → c.reply ≡ reply
    → f ≡ record { bytes = t.read; since = t.since } → t.asked ≡ [] → t.written ≡ [] → WantsMore config t
    → ComesTo (record { config = config; start = start; now = now }) (f.bytes ++ c.read) (is_late f.since now) c.asked reply ⊎ (CannotRead result × IsUnread c)
    → Writes c reply (Reading f) new → IsAt config start (and_then t c) new
by_reply config start now t c f new result None same is none nothing wants (inl comes) writes =
    let s : Serving = record { config = config; start = start; now = now } in
    let late : Bool = is_late f.since now in
    read_more config start t c f new is none nothing (none_asked s (f.bytes ++ c.read) late c.asked comes) writes.0
    (inr (subst (λ z. IsVerdict config.app_id z false Need) (ap (λ (x : Fed). x.bytes ++ c.read) is) (wants_more s (f.bytes ++ c.read) late c.asked comes))) writes.2
by_reply config start now t c f new result None same is none nothing wants (inr (cannot, (read, asked, gone))) writes =
    read_more config start t c f new is none nothing asked writes.0 (still_wants config t c read wants) writes.2
by_reply config start now t c f new result (Some p) same is none nothing wants (inl comes) writes = made_one config start now t c f p new is none nothing comes writes
by_reply config start now t c f new result (Some p) same is none nothing wants (inr (cannot, (read, asked, gone))) writes = cc

by_stage : (config : Config) (start now : ℕ) (t : Story) (c : Course) (old new : Stage) (result : ExTurn) → IsAt config start t old
    → Reads (record { config = config; start = start; now = now }) old c result → Writes c c.reply old new → IsAt config start (and_then t c) new
by_stage config start now t c (Reading f) new result (is, none, nothing, wants) (few, comes) writes =
    by_reply config start now t c f new result c.reply refl is none nothing wants comes writes
by_stage config start now t c (Replying p) new result has (read, asked, reply) writes =
    wrote_on config start t c p new has read asked (subst (λ r. Writes c r (Replying p) new) reply writes)
by_stage config start now t c (Finished rest) new result at reads writes = absurd reads

pub goes_on : GoesOn
goes_on config start now t c old new result at takes = by_stage config start now t c old.stage new.stage result at takes.reads takes.writes
