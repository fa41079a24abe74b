-- IPv4 addresses with a port, as in `127.0.0.1:6001`.
use Rattle.std.specs.Prelude.{ℕ, List, [], ◌∷◌, Option, Some, None}
use Rattle.ch_config.specs.declared.address.Address.{Address}
use Rattle.ch_config_text.specs.Parts.{before, after}
use Rattle.ch_config_text.specs.Numbers.{number_in}

abbrev point : ℕ
point = 46

abbrev colon : ℕ
colon = 58

abbrev pub octet_of : List ℕ → Option ℕ
octet_of text = number_in 0 255 text

abbrev pub port_of : List ℕ → Option ℕ
port_of text = number_in 1 65535 text

abbrev pub address_with : Option ℕ → Option ℕ → Option ℕ → Option ℕ → Option ℕ → Option Address
address_with (Some a) (Some b) (Some c) (Some d) (Some port) = Some (record { host = a ∷ b ∷ c ∷ d ∷ []; port = port })
address_with _ _ _ _ _ = None

-- four octets with points between them, a colon and a port
abbrev pub address_of : List ℕ → Option Address
address_of text =
    let host = before colon text in
    let second_on = after point host in
    let third_on = after point second_on in
    address_with (octet_of (before point host)) (octet_of (before point second_on)) (octet_of (before point third_on)) (octet_of (after point third_on)) (port_of (after colon text))

-- the address where none is given
abbrev pub built_in_address : Address
built_in_address = record { host = 127 ∷ 0 ∷ 0 ∷ 1 ∷ []; port = 6001 }
