-- What a text comes to, by what its message comes to.
use Rattle.std.proofs.Common.{◌≡◌, ℕ, Bool, true, false, List, refl, sym, ap, ◌∙◌}
use Rattle.std.specs.Prelude.{◌||◌, Option, Some, None, option_map, IsTrue, Result, Ok, Err, IfOk, if◌then◌else◌}
use Rattle.std.proofs.lemmas.Bool.{cond-false}
use Rattle.ch_base.specs.declared.channel.ChanCall.TheVariants.{Leave}
use Rattle.ch_base.specs.declared.channel.Member.{Member}
use Rattle.ch_base.specs.declared.frame.Frame.TheVariants.{Succeeded}
use Rattle.ch_base.specs.declared.memory.Memory.{Memory}
use Rattle.ch_config.specs.declared.config.Config.{Config}
use Rattle.ch_history.specs.ChannelName.{is_good_name}
use Rattle.ch_protocol.specs.Readings.{Reading, Reads}
use Rattle.ch_protocol.specs.Sessions.{Session, judged, judged_as, subscribes, unsubscribes, ask_on, is_given}
use Rattle.ch_protocol.specs.Settling.{user_of}
use Rattle.ch_history.specs.UserChannels.{is_user_channel, is_subscribable}
use Rattle.ch_protocol.specs.declared.client_message.ClientMessage.{ClientMessage}
use Rattle.ch_protocol.specs.declared.heard.Heard.TheVariants as heard
use Rattle.ch_base.specs.declared.error_codes.TheConstants.{INVALID_SIGNATURE}
use Rattle.ch_session.specs.declared.judged.Judged.{Judged}
use Rattle.ch_session.specs.Judging.{Hears, IsReady, user_data_of}
use Rattle.ch_session.specs.Kept.{Kept}
use Rattle.ch_session.proofs.JudgingLemmas.{same_some, some_none}

first : (a b : Bool) → (a || b) ≡ true → b ≡ false → a ≡ true
first true b either fails = refl
first false b either fails = let both : false ≡ true = sym fails ∙ either in cc

-- a channel that is no user's own has a good name
pub good_if_no_user : (name : List ℕ) → IsTrue (is_subscribable name) → is_user_channel name ≡ false → IsTrue (is_good_name name)
good_if_no_user name is nobody = first (is_good_name name) (is_user_channel name) is nobody

pub own_by : (s : Session) (channel : List ℕ) (auth channel_data : Option (List ℕ)) (member : Option Member) (owner : Option (List ℕ)) (owns : Bool)
    → Some owns ≡ option_map (is_given (user_of s.asks)) owner
    → (if owns then heard.Reply (Succeeded channel) else heard.Refuse INVALID_SIGNATURE) ≡ subscribes s channel auth channel_data member owner
own_by s channel auth channel_data member None owns is = absurd (some_none owns is)
own_by s channel auth channel_data member (Some id) owns is =
    ap (λ b. if b then heard.Reply (Succeeded channel) else heard.Refuse INVALID_SIGNATURE) (same_some owns (is_given (user_of s.asks) id) is)

pub unsubscribe_by : (s : Session) (channel : List ℕ) (r : Result Judged Memory) → is_user_channel channel ≡ false
    → IfOk r (λ j. j.heard ≡ ask_on s channel (Leave s.number channel s.now)) → IfOk r (λ j. j.heard ≡ unsubscribes s channel)
unsubscribe_by s channel (Err e) nobody by = tt
unsubscribe_by s channel (Ok j) nobody by = by ∙ sym (cond-false _ _ _ nobody)

pub judged_by : (s : Session) (r : Reading) (message : ClientMessage) (res : Result Judged Memory) → r.verdict ≡ Ok message
    → IfOk res (λ j. j.heard ≡ judged_as s r.member r.user (Ok message)) → IfOk res (λ j. j.heard ≡ judged s r)
judged_by s r message (Err e) verdict by = tt
judged_by s r message (Ok j) verdict by = by ∙ sym (ap (judged_as s r.member r.user) verdict)

pub hears_by : (s : Session) (kept : Kept) (config : Config) (text : List ℕ) (r : Reading) (res : Result Judged Memory) → Reads text r
    → IfOk res (λ j. j.heard ≡ judged s r) → IfOk res (IsReady kept config (user_data_of r.verdict))
    → IfOk res (λ j. Hears s text j.waits j.heard)
hears_by s kept config text r (Err e) reads by ready = tt
hears_by s kept config text r (Ok j) reads by ready = record { reading = r; reads = reads; judged = by; holds = ready.holds }
