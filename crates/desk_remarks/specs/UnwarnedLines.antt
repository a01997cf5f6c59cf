-- The remarks about lines without an odd word. (this project's own)
use Rattle.std.specs.Prelude.{ℕ, ◌==◌, Bool, List, not}
use Rattle.std.specs.List.{list_any}
use Rattle.desk_policy.specs.declared.warning.Warning.{Warning}
use Rattle.desk_remarks.specs.declared.remark.LineRemark.{LineRemark}

-- one of these warnings is of a word of this line
abbrev pub is_warned : List Warning → ℕ → Bool
is_warned warnings line = list_any (λ warning. warning.line == line) warnings

-- none is of a word of the line that is remarked on
abbrev pub is_unwarned : List Warning → LineRemark → Bool
is_unwarned warnings remark = not (is_warned warnings remark.line)
