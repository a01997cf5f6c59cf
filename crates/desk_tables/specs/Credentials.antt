-- Credentials as text. (exports(5))
use Rattle.std.specs.Prelude.{ℕ, List, ◌∷◌, ◌++◌, Option, Some, None, map, length, nat_lt, if◌then◌else◌}
use Rattle.std.specs.List.{join_with_byte}
use Rattle.std.specs.Fmt.{decimal}
use Rattle.desk_tables.specs.declared.credentials.Cred.{Cred}

-- group numbers, of which there may be at most sixteen
abbrev pub at_most_16 : List ℕ → Option (List ℕ)
at_most_16 gids = if nat_lt 16 (length gids) then None else Some gids

-- group numbers as they are printed: in decimal, with colons between them
abbrev pub gids_text : List ℕ → List ℕ
gids_text gids = join_with_byte 58 (map decimal gids)

-- a credential as it is printed: the uid, a colon, and the gids with colons between them
abbrev pub cred_text : Cred → List ℕ
cred_text cred = decimal cred.uid ++ 58 ∷ gids_text cred.gids
