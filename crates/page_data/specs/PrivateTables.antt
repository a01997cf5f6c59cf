-- What the private contracts of tables cite.
use Rattle.std.specs.Prelude.{ℕ, Result, if◌then◌else◌}
use Rattle.std.specs.Result.{is_ok}
use Rattle.desk_policy.specs.Verdict.{Grant}
use Rattle.desk_policy.specs.declared.verdict.Denial.{Denial}
use Rattle.desk_who.specs.Runs.{Run}
use Rattle.page_data.specs.Tables.{range_size}

-- how many addresses of a range are denied: all or none
abbrev pub denied_in : Run (Result Grant Denial) → ℕ
denied_in range = if is_ok range.value then 0 else range_size range
