-- Why a line stands out, by its words and to how many addresses it grants something. (this project's own)
use Rattle.std.specs.Prelude.{ℕ, ◌==◌, ◌++◌, nat_lt, Bool, true, false, List, Option, Some, None, if◌then◌else◌}
use Rattle.std.specs.List.{list_any}
use Rattle.std.specs.Option.{option_to_list}
use Rattle.desk_exports.specs.declared.entry.Clients.{Clients}
use Rattle.desk_exports.specs.declared.entry.Clients.TheVariants.{Hosts, Net, Net6, World}
use Rattle.desk_policy.specs.declared.row.Row.{Row}
use Rattle.page_data.specs.Class.{keeps_root}
use Rattle.page_data.specs.declared.reasons.Level.{Level}
use Rattle.page_data.specs.declared.reasons.Level.TheVariants.{LookFirst, Check}
use Rattle.page_data.specs.declared.reasons.Reason.{Reason}
use Rattle.page_data.specs.declared.reasons.Reason.TheVariants as reasons

-- clients are everybody: neither names nor a network are written, or a network of all addresses
abbrev pub are_all : Clients → Bool
are_all (Hosts names) = false
are_all (Net net noted) = net.prefix == 0
are_all (Net6 value) = false
are_all World = true

-- clients are written by their names
abbrev pub are_names : Clients → Bool
are_names (Hosts names) = true
are_names (Net net noted) = false
are_names (Net6 value) = false
are_names World = false

-- to more addresses than these a line grants something widely
abbrev pub narrow : ℕ
narrow = 65536

-- why a line stands out by whom it is for: it is for everybody, or for more addresses than a line is narrow for
abbrev pub audience_reason : Row → ℕ → Option Reason
audience_reason row count =
    if are_all row.entry.clients then (if row.entry.terms.ro then Some reasons.ForEverybodyReadOnly else Some reasons.ForEverybodyReadWrite)
    else (if nat_lt narrow count then Some reasons.Wide else None)

-- that root is kept, for names or for others
abbrev pub root_reason : Row → Option Reason
root_reason row = if keeps_root row.entry.terms then (if are_names row.entry.clients then Some reasons.RootKeptForNames else Some reasons.RootKeptForNetworks) else None

-- Why a line stands out that grants something to so many addresses.
abbrev pub reasons_on : Row → ℕ → List Reason
reasons_on row count = option_to_list (audience_reason row count) ++ option_to_list (root_reason row)

-- what to look at first, and what to check
abbrev pub level_of : Reason → Level
level_of reasons.NoClient = Check
level_of reasons.NeverDecides = Check
level_of reasons.ForEverybodyReadOnly = Check
level_of reasons.ForEverybodyReadWrite = LookFirst
level_of reasons.Wide = Check
level_of reasons.RootKeptForNetworks = LookFirst
level_of reasons.RootKeptForNames = Check
level_of (reasons.ServerGrantsMore found) = LookFirst
level_of (reasons.RepeatedClient found) = LookFirst

-- a reason is one to look at first
abbrev pub is_first_level : Level → Bool
is_first_level LookFirst = true
is_first_level Check = false

abbrev pub is_first : Reason → Bool
is_first reason = is_first_level (level_of reason)

-- the highest level of these reasons: to look first, if one of them has it
abbrev pub level_of_all : List Reason → Level
level_of_all reasons = if list_any is_first reasons then LookFirst else Check
