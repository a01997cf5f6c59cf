-- What `clients` prints, by its words and files. (this project's own)
use Rattle.std.specs.Prelude.{ℕ, Bool, List, Option, Result, codes}
use Rattle.clap.specs.Words.{Row}
use Rattle.desk_text.specs.Path.{read_path}
use Rattle.desk_tables.specs.declared.filesystems.Mount.{Mount}
use Rattle.desk_policy.specs.Policy.{Content}
use Rattle.desk_policy.specs.declared.site_fault.SiteFault.{SiteFault}
use Rattle.desk_findings.specs.declared.check_text.WholeSources.{WholeSources}
use Rattle.cli_output.specs.declared.bad_argument.ArgumentFault.TheVariants as fault
use Rattle.cli_output.specs.declared.failure.Failure.{Failure}
use Rattle.cli_output.specs.declared.printed.Printed.{Printed}
use Rattle.cli_words.specs.Values.{AnswersArgument}
use Rattle.cli_verdict.specs.Ranges.{PrintsRanges}
use Rattle.cli_words.specs.Words.{After, AnswersBy, is_set}
use Rattle.cli_texts.specs.FaultyTexts.{AnswersOrFault}
use Rattle.cli_sources.specs.Subject.{ReadsSubject, places, word_at}
use Rattle.cli_sources.specs.declared.subject.Subject.{Subject}
use Rattle.cli_sources.specs.WholeQuestion.{AnswersWhole}
use Rattle.cli_texts.specs.WholeTables.{Writes, policy_of}

-- The ranges that a path has under the policy that an exports text is read as are printed, by the rule of mountd(8) if that is asked, and
-- as JSON if that is asked.
pub record PrintsClients (read : Result Content SiteFault) (mountd json : Bool) (path : List (List ℕ)) (printed : Printed) : Type 0 where
  pub policy : Content
  pub written : Writes read policy
  pub prints : PrintsRanges mountd json policy path printed

-- the answer about a path by the texts of the files
abbrev pub AnswersPath : Bool → Bool → List (List ℕ) → List Mount → WholeSources → Result Printed Failure → Type 0
AnswersPath mountd json path table sources result = AnswersOrFault json (PrintsClients (policy_of sources table) mountd json path) sources table result

-- the path that DIR writes, or why it writes none; with `--site` it is the first word
abbrev pub ReadsDir : Subject → List Row → Result (List (List ℕ)) Failure → Type 0
ReadsDir subject rows result =
    AnswersBy (codes "DIR") (word_at subject (codes "FILE") (codes "DIR") rows) (λ dir. AnswersArgument (λ path. path) fault.Path (codes "DIR") dir (read_path dir)) result

-- the answer about a path: all files are read after it
abbrev pub AnswersDir : List Row → Option (List ℕ) → Subject → List (List ℕ) → Result Printed Failure → Type 0
AnswersDir rows known subject path result =
    let json = is_set (codes "json") rows in AnswersWhole (AnswersPath (is_set (codes "mountd") rows) json path) json rows known subject result

-- the answer about what is asked of
abbrev pub AnswersSubject : List Row → Option (List ℕ) → Subject → Result Printed Failure → Type 0
AnswersSubject rows known subject result = After (ReadsDir subject rows) (AnswersDir rows known subject) result

-- the answer of `clients` to its words
abbrev pub AnswersClients : List Row → Option (List ℕ) → Result Printed Failure → Type 0
AnswersClients rows known result = After (ReadsSubject (places (codes "FILE") (codes "DIR") (codes "FILE or MOUNT")) rows) (AnswersSubject rows known) result
