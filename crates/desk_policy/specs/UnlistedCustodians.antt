-- File systems that name a custodian who is not listed. (this project's own)
use Rattle.std.specs.Prelude.{ℕ, Bool, List, [], ◌∷◌, Option, Some, None, filter, is_none, map, min}
use Rattle.std.specs.List.{list_any}
use Rattle.std.specs.Option.{option_map_or}
use Rattle.desk_tables.specs.Custodians.{digest_of}
use Rattle.desk_tables.specs.declared.custodians.Custodian.{Custodian}
use Rattle.desk_tables.specs.declared.filesystems.Mount.{Mount}

-- a custodian of the mount point is not listed
abbrev pub has_unlisted : List Custodian → Mount → Bool
has_unlisted custodians mount = list_any (λ name. is_none (digest_of custodians name)) mount.custodians

-- the least of numbers
abbrev pub least : List ℕ → Option ℕ
least [] = None
least (number ∷ numbers) = Some (option_map_or (min number) (least numbers) number)

-- the first line that names a custodian who is not listed
abbrev pub unlisted_line : List Custodian → List Mount → Option ℕ
unlisted_line custodians table = least (map (λ mount. mount.line) (filter (has_unlisted custodians) table))
