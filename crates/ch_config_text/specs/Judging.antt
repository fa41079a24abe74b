-- How a field is judged: by what its value says, where it is there.
use Rattle.std.specs.Prelude.{◌≡◌, ◌⊎◌, Option, None, Some, Result, Ok, Err}
use Rattle.serde_json.specs.Data.{Data}
use Rattle.serde_json.specs.Find.{get}
use Rattle.ch_config_text.specs.Fields.{field_name}
use Rattle.ch_config_text.specs.declared.field.Field.{Field}
use Rattle.ch_config_text.specs.declared.fault.ConfigFault.{ConfigFault}
use Rattle.ch_config_text.specs.declared.fault.ConfigFault.TheVariants.{Missing, Bad, Memory}

-- what the field's value says, where it says something
abbrev pub said : {A : Type 0} → Field → Option A → Result A ConfigFault
said field None = Err (Bad field)
said field (Some x) = Ok x

-- the same, with an answer for where there is no value
abbrev pub said_if_there : {A : Type 0} → Result A ConfigFault → Field → (Data → Option A) → Option Data → Result A ConfigFault
said_if_there absent field says None = absent
said_if_there absent field says (Some value) = said field (says value)

-- a field that has to be there
abbrev pub required : {A : Type 0} → Field → (Data → Option A) → Data → Result A ConfigFault
required field says given = said_if_there (Err (Missing field)) field says (get (field_name field) given)

-- a field with a default
abbrev pub defaulted : {A : Type 0} → Field → A → (Data → Option A) → Data → Result A ConfigFault
defaulted field default says given = said_if_there (Ok default) field says (get (field_name field) given)

-- one after another, up to the first fault
infixl 10 ◌>>=◌
abbrev pub ◌>>=◌ : {A B : Type 0} → Result A ConfigFault → (A → Result B ConfigFault) → Result B ConfigFault
Ok x >>= next = next x
Err fault >>= next = Err fault

-- the result is what is wanted, or want of memory
abbrev pub Answers : {A : Type 0} → Result A ConfigFault → Result A ConfigFault → Type 0
Answers wanted (Ok x) = wanted ≡ Ok x
Answers wanted (Err fault) = (fault ≡ Memory) ⊎ (wanted ≡ Err fault)
