-- What the private contracts of the index cite.
use Rattle.std.specs.Prelude.{ℕ, List}
use Rattle.desk_text.specs.declared.reading.ReadError.{ReadError}
use Rattle.desk_text.specs.declared.reading.ReadError.TheVariants.{Fault, Memory}
use Rattle.desk_policy.specs.Policy.{Content}
use Rattle.desk_policy.specs.View.{NamesLeast}
use Rattle.desk_policy.specs.declared.row.Row.{Row}
use Rattle.desk_policy.specs.declared.site_fault.SiteFault.{SiteFault}

-- the least contradiction of these lines is reported; out of memory says nothing
abbrev pub Refuses : Content → ℕ → List Row → ReadError SiteFault → Type 0
Refuses content fs rows (Fault fault) = NamesLeast content fs rows fault
Refuses content fs rows Memory = Unit {0}
