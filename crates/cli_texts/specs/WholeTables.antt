-- The policy that an exports text and its tables write, or their fault. (this project's own)
use Rattle.std.specs.Prelude.{◌≡◌, ℕ, List, Result, Ok, Err}
use Rattle.desk_text.specs.declared.reading.ReadError.{ReadError}
use Rattle.desk_text.specs.declared.reading.ReadError.TheVariants.{Fault, Memory}
use Rattle.desk_tables.specs.declared.filesystems.Mount.{Mount}
use Rattle.desk_exports.specs.declared.profile.Profile.TheVariants.{Two}
use Rattle.desk_policy.specs.Contradiction.{HasNoContradiction}
use Rattle.desk_policy.specs.Parsing.{read_of, read_whole_with, without_warnings}
use Rattle.desk_policy.specs.Policy.{Content}
use Rattle.desk_policy.specs.View.{IsFaultOf}
use Rattle.desk_policy.specs.declared.parsing.SiteTables.{SiteTables}
use Rattle.desk_policy.specs.declared.site_fault.SiteFault.{SiteFault}
use Rattle.desk_findings.specs.CheckText.{tables_of}
use Rattle.desk_findings.specs.declared.check_text.WholeSources.{WholeSources}

-- the policy that an exports text of profile 2 writes with these tables and file systems, or its fault; a table's fault comes
-- before it
abbrev pub policy_with : Result SiteTables SiteFault → List Mount → List ℕ → Result Content SiteFault
policy_with (Ok tables) table text = read_whole_with Two tables table text
policy_with (Err fault) table text = Err fault

-- the same of these texts; if several exports texts were read as one, the lines are of those
abbrev pub policy_of : WholeSources → List Mount → Result Content SiteFault
policy_of sources table = read_of sources.exports.origins.now (policy_with (tables_of sources.tables) table sources.exports.text.now)

-- An exports text is read as this policy, but for its warnings, and it has no contradiction.
abbrev pub Writes : Result Content SiteFault → Content → Type 0
Writes read content = (without_warnings read ≡ Ok content) × HasNoContradiction content

module _ {T : Type 0} where
  -- what comes of what a text is read as, or the text's fault; out of memory says nothing
  abbrev pub GivesOrFault : (T → Type 0) → Result Content SiteFault → Result T (ReadError SiteFault) → Type 0
  GivesOrFault Gives read (Ok given) = Gives given
  GivesOrFault Gives read (Err (Fault fault)) = IsFaultOf read fault
  GivesOrFault Gives read (Err Memory) = Unit {0}
