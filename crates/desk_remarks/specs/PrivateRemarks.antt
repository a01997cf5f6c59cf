-- What the private contracts of remarks cite.
use Rattle.std.specs.Prelude.{◌≡◌, ℕ, List}
use Rattle.std.specs.BTreeSet.{BTreeSet, contains}
use Rattle.std.specs.Ordering.{nat_cmp}
use Rattle.desk_server.specs.declared.wider_grant.WiderGrant.{WiderGrant}
use Rattle.desk_remarks.specs.Remarks.{grants_more}

-- a set has just the lines by which the server grants this more
abbrev pub HasOthers : List WiderGrant → BTreeSet ℕ → Type 0
HasOthers wider others = (line : ℕ) → contains nat_cmp others line ≡ grants_more wider line
