-- The configuration that was read, or the line of its fault.
use Rattle.std.proofs.Common.{◌≡◌, Result, Ok, Err, IfOk, inl, inr}
use Rattle.std.specs.Prelude.{◌⊎◌}
use Rattle.ch_config.specs.declared.config.Config.{Config}
use Rattle.ch_config_text.specs.declared.fault.ConfigFault.{ConfigFault}
use Rattle.ch_config_text.specs.declared.fault.ConfigFault.TheVariants.{Memory}
use Rattle.ch_given.specs.ConfigLines.{config_or_fault}

-- what holds of the configuration that was read
pub of_config : (given : Result Config ConfigFault) (config : Config) (P : Config → Type 0) → given ≡ Ok config → P config → IfOk (config_or_fault given) P
of_config given config P is holds = rw is holds

-- there is a configuration only where there was no memory to read it
pub of_no_config : (given : Result Config ConfigFault) (fault : ConfigFault) (P : Config → Type 0) → (fault ≡ Memory) ⊎ (given ≡ Err fault)
    → (fault ≡ Memory → (config : Config) → P config) → IfOk (config_or_fault given) P
of_no_config (Err other) fault P why always = tt
of_no_config (Ok config) fault P (inl memory) always = always memory config
of_no_config (Ok config) fault P (inr is) always = absurd (cc)
