-- What the private contracts of warned lines cite.
use Rattle.std.specs.Prelude.{◌≡◌, ℕ, Bool, List, not}
use Rattle.std.specs.BTreeSet.{BTreeSet, contains}
use Rattle.std.specs.Ordering.{nat_cmp}
use Rattle.desk_policy.specs.declared.warning.Warning.{Warning}
use Rattle.desk_remarks.specs.UnwarnedLines.{is_warned}
use Rattle.desk_remarks.specs.declared.remark.LineRemark.{LineRemark}

-- a set has just the lines that these warnings are of
abbrev pub HasLines : List Warning → BTreeSet ℕ → Type 0
HasLines warnings lines = (line : ℕ) → contains nat_cmp lines line ≡ is_warned warnings line

-- a remark is about none of these lines
abbrev pub is_outside : BTreeSet ℕ → LineRemark → Bool
is_outside lines remark = not (contains nat_cmp lines remark.line)
