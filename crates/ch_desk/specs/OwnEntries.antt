-- What a caller did at its desk: of the entries that each list gained, its own are these, in this order. What others did
-- between is left open, so own entries chain by joining lists.
use Rattle.std.specs.Prelude.{◌≡◌, ℕ, ◌==◌, Bool, true, false, List, [], ◌∷◌, ◌++◌, All, Result, Ok, Err, if◌then◌else◌}
use Rattle.std.specs.List.{filter, flat_map}
use Rattle.ch_base.specs.Growth.{entry}
use Rattle.ch_base.specs.declared.entry.Entry.{Entry}
use Rattle.ch_base.specs.declared.memory.Memory.{Memory}
use Rattle.ch_history.specs.Entries.{ChanEntry, UserEntry}
use Rattle.ch_protocol.specs.Asks.{ComesOf, Asked, asks_of, came_of}
use Rattle.ch_protocol.specs.declared.ask.Ask.{Ask}
use Rattle.ch_protocol.specs.declared.ask.Ask.TheVariants.{Chan, User}
use Rattle.ch_protocol.specs.declared.ask.Made.{Made}
use Rattle.ch_protocol.specs.declared.ask.Made.TheVariants as made
use Rattle.ch_desk.specs.Views.{DeskView, IsSameDesk, MayAsk}

module _ {C A : Type 0} where
  -- the entries of one caller
  abbrev pub entries_by : ℕ → List (Entry C A) → List (Entry C A)
  entries_by caller es = filter (λ e. e.caller == caller) es

  -- every entry is of this caller
  abbrev pub AreBy : ℕ → List (Entry C A) → Type 0
  AreBy caller [] = Unit {0}
  AreBy caller (e ∷ es) = (e.caller ≡ caller) × AreBy caller es

  -- the list gains entries, of which the caller's own are these
  abbrev pub Gains : ℕ → List (Entry C A) → List (Entry C A) → List (Entry C A) → Type 0
  Gains caller own before after =
      (gained : List (Entry C A)) × (after ≡ before ++ gained) × (entries_by caller gained ≡ own)

-- whether there was memory for what was asked
abbrev pub was_made : Made → Bool
was_made made.Memory = false
was_made _ = true

-- the ask's call was answered
abbrev pub IsAnswered : Asked → Type 0
IsAnswered x = ComesOf x.ask x.came × (was_made x.came ≡ true)

-- the entry that an ask leaves on the channel shard k; none where it found no memory, or is of another shard
abbrev pub entry_on_chan : ℕ → ℕ → Ask → Made → List ChanEntry
entry_on_chan caller k (Chan shard call) (made.Chan answer) = if shard == k then entry caller call answer ∷ [] else []
entry_on_chan caller k _ _ = []

-- the same on the user shard k
abbrev pub entry_on_user : ℕ → ℕ → Ask → Made → List UserEntry
entry_on_user caller k (User shard call) (made.User answer) = if shard == k then entry caller call answer ∷ [] else []
entry_on_user caller k _ _ = []

-- the entries that asks leave on a shard, in their order
abbrev pub entries_on_chan : ℕ → ℕ → List Asked → List ChanEntry
entries_on_chan caller k asked = flat_map (λ x. entry_on_chan caller k x.ask x.came) asked

abbrev pub entries_on_user : ℕ → ℕ → List Asked → List UserEntry
entries_on_user caller k asked = flat_map (λ x. entry_on_user caller k x.ask x.came) asked

-- these asks were made at the desk, in this order, and no others by its caller
pub record Makes (asked : List Asked) (old new : DeskView) : Type 0 where
  pub may : All (MayAsk old) (asks_of asked)
  pub same : IsSameDesk old new
  pub chans : (k : ℕ) → Gains old.caller (entries_on_chan old.caller k asked) (old.chans k) (new.chans k)
  pub users : (k : ℕ) → Gains old.caller (entries_on_user old.caller k asked) (old.users k) (new.users k)

-- all asks were made and answered, and these are their answers; or the first of them were made, and then there was no memory
abbrev pub AreMade : List Ask → List Asked → Result (List Made) Memory → Type 0
AreMade asks asked (Ok answers) = (asks_of asked ≡ asks) × (came_of asked ≡ answers) × All IsAnswered asked
AreMade asks asked (Err m) = (rest : List Ask) × (asks ≡ asks_of asked ++ rest)
