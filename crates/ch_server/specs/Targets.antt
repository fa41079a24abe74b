-- Where webhooks are posted.
use Rattle.std.specs.Prelude.{ℕ, List, ◌++◌, codes}
use Rattle.std.specs.Fmt.{decimal}
use Rattle.ch_config.specs.declared.address.Target.{Target}

-- the receiver as a request's Host field names it: its host, a colon and its port (RFC 9110, section 7.2)
abbrev pub authority : Target → List ℕ
authority target = target.host ++ codes ":" ++ decimal target.port
