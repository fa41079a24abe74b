-- What a session makes of a text, and what is done about it.
use Rattle.std.proofs.Common.{◌≡◌, ◌⊎◌, inl, inr, ℕ, List, [], ◌∷◌, length, get_or, ap, sym, subst, refl, ◌∙◌}
use Rattle.std.specs.Prelude.{All}
use Rattle.std.specs.Option.{option_to_list}
use Rattle.ch_base.specs.declared.error_codes.TheConstants.{OUT_OF_MEMORY}
use Rattle.ch_config.specs.declared.config.Config.{Config}
use Rattle.ch_desk.specs.OwnEntries.{Makes}
use Rattle.ch_desk.specs.Views.{DeskView, IsDeskOf, MayAsk}
use Rattle.ch_desk.proofs.OwnEntries.{Makes-none}
use Rattle.ch_protocol.specs.Asks.{Asked}
use Rattle.ch_protocol.specs.Settling.{SettledAsk}
use Rattle.ch_protocol.specs.declared.ask.Ask.{Ask}
use Rattle.ch_protocol.specs.declared.ask.Ask.TheVariants.{Chan, User}
use Rattle.ch_protocol.specs.declared.heard.Heard.{Heard}
use Rattle.ch_protocol.specs.declared.heard.Heard.TheVariants as heard
use Rattle.ch_protocol.specs.declared.heard.Settled.{Settled}
use Rattle.ch_rate.specs.Quiet.{quiet_from}
use Rattle.ch_session.specs.Judging.{known, asks_of, user_data_of, IsSoundAsk, Hears as HearsText}
use Rattle.ch_session.specs.Kept.{Kept, HasShardsOf, IsSession}
use Rattle.ch_session.specs.Waits.{Awaits, HoldsData}
use Rattle.ch_session.specs.declared.waiting.Waiting.{Waiting}
use Rattle.ch_session.specs.declared.waiting.Waiting.TheVariants.{Nothing}
use Rattle.ch_dispatch.specs.Asking.{Responds}
use Rattle.ch_dispatch.specs.Hearing.{AtDesk, Hears}
use Rattle.ch_dispatch.specs.MadeAsks.{AreMadeFrom}
use Rattle.ch_dispatch.specs.Messages.{comes_to}
use Rattle.ch_dispatch.specs.Outcomes.{IsResponseTo, frames_in, end_in}
use Rattle.ch_dispatch.specs.declared.response.Response.{Response}

-- the asks that a session makes may be made at the desk of its configuration
pub may_ask : (config : Config) (desk : DeskView) → IsDeskOf config desk → (ask : Ask) → IsSoundAsk config ask → MayAsk desk ask
may_ask config desk is (Chan shard call) sound = rw is.chan_shards sound
may_ask config desk is (User shard call) sound = rw is.user_shards sound

pub may_all : (config : Config) (desk : DeskView) (asks : List Ask) → IsDeskOf config desk → All (IsSoundAsk config) asks → All (MayAsk desk) asks
may_all config desk asks is sound = λ i d inside. may_ask config desk is (get_or asks i d) (sound i d inside)

pub desk_after : (config : Config) (xs : List Asked) (a b : DeskView) → Makes xs a b → IsDeskOf config a → IsDeskOf config b
desk_after config xs a b calls is = record {
  chan_shards = calls.same.chan_shards ∙ is.chan_shards;
  user_shards = calls.same.user_shards ∙ is.user_shards;
}

-- ---- what is done without asks

made_none : (user_data : List ℕ) (asks : List Ask) → asks ≡ [] → AreMadeFrom user_data 0 asks []
made_none user_data [] none = refl
made_none user_data (ask ∷ asks) none = cc

pub responds_plain : (now : ℕ) (hears is : Heard) (old : AtDesk) (outcomes : List Settled) (response told : Response) → hears ≡ is → asks_of is ≡ []
    → ((user_data : List ℕ) → outcomes ≡ comes_to user_data is []) → response ≡ told → option_to_list told.reply ≡ frames_in outcomes
    → told.end ≡ end_in outcomes → Awaits old.session.waits 0 (asks_of hears) → Responds now hears old old response
responds_plain now hears is old outcomes response told same none comes tells frames ends awaits =
    let nothing : asks_of hears ≡ [] = ap asks_of same ∙ none in
    record {
      asked = [];
      outcomes = outcomes;
      made = λ user_data holds. made_none user_data (asks_of hears) nothing;
      comes = λ user_data holds. comes user_data ∙ ap (λ h. comes_to user_data h []) (sym same);
      tells = subst (λ r. IsResponseTo outcomes r) (sym tells) (record { frames = frames; ends = ends });
      calls = Makes-none old.desk;
      stands = λ start number asks is. is;
      idle = subst (λ xs. Awaits old.session.waits 0 xs) nothing awaits;
      same = refl;
      used = refl;
    }

-- ---- hearing

holds_nothing : (waits : Waiting) (asks : List Ask) (user_data : List ℕ) → asks ≡ [] → Awaits waits 0 asks → HoldsData waits user_data
holds_nothing Nothing asks user_data none awaits = tt
holds_nothing waits [] user_data none awaits = subst (λ w. HoldsData w user_data) (sym awaits) tt
holds_nothing waits (ask ∷ asks) user_data none awaits = cc

pub hears_text : (config : Config) (now : ℕ) (text : List ℕ) (old : AtDesk) (mid : Kept) (new : AtDesk) (hears : Heard) (response : Response)
    → ((start number : ℕ) (asks : List SettledAsk) → IsSession old.session start number asks
    → (hears ≡ heard.Refuse OUT_OF_MEMORY) ⊎ HearsText (known config start number asks now) text mid.waits hears)
    → Awaits mid.waits 0 (asks_of hears)
    → ((start number : ℕ) (asks : List SettledAsk) → IsSession old.session start number asks → IsSession mid start number asks)
    → mid ≡ record old.session { waits = mid.waits; quiet = quiet_from now }
    → Responds now hears (record { session = mid; desk = old.desk }) new response
    → (asked : List Asked) × Hears config now text asked old new response
hears_text config now text old mid new hears response judged awaits stands same does = (
  does.asked,
  record {
    outcomes = does.outcomes;
    answers = λ start number asks is. elim (judged start number asks is) [
      | inl refused ↦
          let holds : HoldsData mid.waits [] = holds_nothing mid.waits (asks_of hears) [] (ap asks_of refused) awaits in
          record { user_data = []; hears = hears; is_heard = inl refused; made = does.made [] holds; comes = does.comes [] holds }
      | inr h ↦ record {
        user_data = user_data_of h.reading.verdict;
        hears = hears;
        is_heard = inr (h.reading, h.reads, h.judged, refl);
        made = does.made (user_data_of h.reading.verdict) h.holds;
        comes = does.comes (user_data_of h.reading.verdict) h.holds;
      }
    ];
    tells = does.tells;
    calls = does.calls;
    settles = λ start number asks is. does.stands start number asks (stands start number asks is);
    idle = does.idle;
    same = does.same ∙ ap (λ (s : Kept). record s { told = new.session.told; waits = new.session.waits }) same
        ∙ ap (λ w. record old.session { told = new.session.told; waits = w; quiet = quiet_from now }) does.idle;
    used = does.used ∙ ap (λ (s : Kept). length s.told.used) same;
  },
)

pub over_after : (config : Config) (now : ℕ) (old mid new : Kept) → mid ≡ record old { waits = mid.waits; quiet = quiet_from now }
    → new ≡ record mid { told = new.told; waits = new.waits } → length new.told.used ≡ length mid.told.used → HasShardsOf old config → HasShardsOf new config
over_after config now old mid new before same used over = record {
  chans = ap (λ (s : Kept). s.chans) same ∙ ap (λ (s : Kept). s.chans) before ∙ over.chans;
  shards = used ∙ ap (λ (s : Kept). length s.told.used) before ∙ over.shards;
}
