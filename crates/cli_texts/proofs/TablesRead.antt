-- What the tables of a text are, if none has a fault; and the fault of the first that has one, for `try_command`.
use Rattle.std.proofs.Common.{◌≡◌, ℕ, Bool, List, Option, Result, Ok, Err, inr, refl, subst, sym}
use Rattle.desk_text.specs.Reading.{Reads}
use Rattle.desk_text.specs.declared.reading.ReadError.{ReadError}
use Rattle.desk_text.specs.declared.reading.ReadError.TheVariants.{Fault, Memory}
use Rattle.desk_tables.specs.Groups.{read_groups}
use Rattle.desk_tables.specs.Rules.{TableFault}
use Rattle.desk_tables.specs.declared.credentials.Cred.{Cred}
use Rattle.desk_tables.specs.declared.filesystems.Mount.{Mount}
use Rattle.desk_tables.specs.declared.groups.Group.{Group}
use Rattle.desk_tables.specs.declared.users.User.{User}
use Rattle.desk_policy.specs.Parsing.{read_of}
use Rattle.desk_policy.specs.PerTable.{map_tables}
use Rattle.desk_policy.specs.View.{IsFaultOf}
use Rattle.desk_policy.specs.declared.parsing.SiteTables.{SiteTables}
use Rattle.desk_policy.specs.declared.site_fault.SiteFault.{SiteFault}
use Rattle.desk_findings.specs.CheckText.{tables_of}
use Rattle.desk_findings.specs.declared.check_faults.Source.{Source}
use Rattle.desk_findings.specs.declared.check_text.WholeSources.{WholeSources}
use Rattle.desk_findings.proofs.TablesRead.{people_read}
use Rattle.cli_output.specs.declared.failure.Failure.{Failure}
use Rattle.cli_output.specs.declared.printed.Printed.{Printed}
use Rattle.cli_words.specs.Values.{AnswersOwn, own_answer}
use Rattle.cli_texts.specs.FaultyTexts.{AnswersError, AnswersOrFault}
use Rattle.cli_texts.specs.TryCommand.{ReadsOwn}
use Rattle.cli_texts.specs.WholeTables.{GivesOrFault, policy_of, policy_with}

-- what CRED stands for with the tables that were read is what it stands for with their texts
pub own_read : (word : Option (List ℕ)) (sources : WholeSources) (tables : SiteTables) (own : Result (Option Cred) Failure) → tables_of sources.tables ≡ Ok tables
    → AnswersOwn word (own_answer word (Ok tables.users) (Ok tables.groups)) own → ReadsOwn word sources own
own_read word sources tables own known answers =
    let people = people_read (map_tables (λ (source : Source). source.text.now) sources.tables) tables known in
    subst (λ (users : Result (List User) TableFault). AnswersOwn word (own_answer word users (read_groups sources.tables.group.text.now)) own) (sym people.0)
    (subst (λ (groups : Result (List Group) TableFault). AnswersOwn word (own_answer word (Ok tables.users) groups) own) (sym people.1) answers)

-- the fault of a table is that of the text
pub table_fault : {T : Type 0} (Gives : T → Type 0) (sources : WholeSources) (table : List Mount) (error : ReadError SiteFault) → Reads {X = SiteTables} (Err error) (tables_of sources.tables) → GivesOrFault Gives (policy_of sources table) (Err error)
table_fault Gives sources table (Fault fault) faulty =
    subst (λ (tables : Result SiteTables SiteFault). IsFaultOf (read_of sources.exports.origins.now (policy_with tables table sources.exports.text.now)) fault) (sym faulty) refl
table_fault Gives sources table Memory faulty = tt

-- the fault of a text is printed
pub fault_told : {T : Type 0} (Gives : T → Type 0) (json : Bool) (PrintsAnswer : Printed → Type 0) (sources : WholeSources) (table : List Mount) (error : ReadError SiteFault) (result : Result Printed Failure) → GivesOrFault Gives (policy_of sources table) (Err error)
    → AnswersError json sources table error result → AnswersOrFault json PrintsAnswer sources table result
fault_told Gives json PrintsAnswer sources table (Fault fault) (Ok printed) is prints = inr (record { fault = fault; is_fault = is; prints = prints })
fault_told Gives json PrintsAnswer sources table (Fault fault) (Err failure) is prints = prints
fault_told Gives json PrintsAnswer sources table Memory result is prints = subst (AnswersOrFault json PrintsAnswer sources table) (sym prints) refl
