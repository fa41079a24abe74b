-- Targets of webhooks, as in `http://localhost:8080/hooks`.
use Rattle.std.specs.Prelude.{ℕ, Bool, ◌==◌, ◌&&◌, ◌||◌, nat_lt, nat_eq, List, length, drop, codes, Option, None, option_map, if◌then◌else◌}
use Rattle.std.specs.List.{list_all, starts_with}
use Rattle.std.specs.Char.{is_ascii_alphanumeric, is_ascii_graphic}
use Rattle.ch_config.specs.declared.address.Target.{Target}
use Rattle.ch_config_text.specs.Parts.{before, after, from_first}
use Rattle.ch_config_text.specs.Addresses.{port_of}

abbrev colon : ℕ
colon = 58

abbrev slash : ℕ
slash = 47

abbrev scheme : List ℕ
scheme = codes "http://"

-- letters, digits, points and hyphens
abbrev pub is_host_byte : ℕ → Bool
is_host_byte b = is_ascii_alphanumeric b || b == 46 || b == 45

abbrev pub is_host : List ℕ → Bool
is_host text = nat_lt 0 (length text) && list_all is_host_byte text

-- visible ASCII
abbrev pub is_path : List ℕ → Bool
is_path text = nat_lt 0 (length text) && list_all is_ascii_graphic text

-- the host, a colon, the port and the path, which begins with its slash
abbrev pub target_behind : List ℕ → Option Target
target_behind text =
    let host = before colon text in
    let port = before slash (after colon text) in
    let path = from_first slash (after colon text) in
    if is_host host && is_path path
    then option_map (λ n. record { host = host; port = n; path = path }) (port_of port)
    else None

abbrev pub target_of : List ℕ → Option Target
target_of text = if starts_with nat_eq text scheme then target_behind (drop (length scheme) text) else None
