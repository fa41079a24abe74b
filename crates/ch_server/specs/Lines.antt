-- What a server says of itself.
use Rattle.std.specs.Prelude.{ℕ, List, [], ◌∷◌, ◌++◌, codes}
use Rattle.std.specs.Fmt.{decimal}
use Rattle.ch_config.specs.declared.address.Address.{Address}
use Rattle.ch_transcript.specs.Printing.{line_end}

-- four numbers with dots between them
abbrev dotted : List ℕ → List ℕ
dotted [] = []
dotted (x ∷ []) = decimal x
dotted (x ∷ y ∷ xs) = decimal x ++ codes "." ++ dotted (y ∷ xs)

-- the server listens at this address
abbrev pub listening_line : Address → List ℕ
listening_line address = codes "listening " ++ dotted address.host ++ codes ":" ++ decimal address.port ++ line_end

-- the server couldn't listen
abbrev pub listen_failed_line : List ℕ
listen_failed_line = codes "listen failed" ++ line_end
