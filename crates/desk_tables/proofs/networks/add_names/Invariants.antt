-- The names so far are listed.
use Rattle.std.proofs.Common.{◌≡◌, List, ℕ, take, Some, None}
use Rattle.std.specs.Prelude.{if◌then◌else◌}
use Rattle.std.specs.List.{list_any}
use Rattle.std.specs.Option.{option_or}
use Rattle.std.specs.Str.{bytes_eq}
use Rattle.desk_tables.specs.PrivateIndex.{numbered}
use Rattle.desk_tables.proofs.networks.add_names.Given as goal

abbrev pub invariant-loop-name : goal.invariant-loop-name
invariant-loop-name l =
    (q : List ℕ) → numbered l.rows l.listings.items q
    ≡ option_or (numbered l.rows l.fn.listings.items q) (if list_any (bytes_eq q) (take l.name l.row.names) then Some l.row.number else None)
