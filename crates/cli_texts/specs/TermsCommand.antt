-- What `terms` prints, by its words and files. (this project's own)
use Rattle.std.specs.Prelude.{ℕ, false, List, Option, Result, codes}
use Rattle.clap.specs.Words.{Row}
use Rattle.desk_tables.specs.declared.filesystems.Mount.{Mount}
use Rattle.desk_policy.specs.ListingPrints.{all_terms}
use Rattle.desk_policy.specs.Policy.{Content}
use Rattle.desk_policy.specs.declared.site_fault.SiteFault.{SiteFault}
use Rattle.desk_findings.specs.declared.check_text.WholeSources.{WholeSources}
use Rattle.cli_output.specs.declared.failure.Failure.{Failure}
use Rattle.cli_output.specs.declared.printed.Printed.{Printed}
use Rattle.cli_words.specs.Words.{After}
use Rattle.cli_texts.specs.FaultyTexts.{AnswersOrFault}
use Rattle.cli_texts.specs.Printing.{PrintsAlone}
use Rattle.cli_sources.specs.Subject.{ReadsSubject, places}
use Rattle.cli_sources.specs.WholeQuestion.{AnswersWhole}
use Rattle.cli_texts.specs.WholeTables.{Writes, policy_of}

-- all exports of the policy that an exports text is read as are printed with their terms, with the status 0, and standard error says
-- nothing
pub record PrintsTerms (read : Result Content SiteFault) (printed : Printed) : Type 0 where
  pub policy : Content
  pub written : Writes read policy
  pub prints : PrintsAlone 0 (all_terms policy) printed

-- the answer by the texts of the files
abbrev pub AnswersTexts : List Mount → WholeSources → Result Printed Failure → Type 0
AnswersTexts table sources result = AnswersOrFault false (PrintsTerms (policy_of sources table)) sources table result

-- the answer of `terms` to its words
abbrev pub AnswersTerms : List Row → Option (List ℕ) → Result Printed Failure → Type 0
AnswersTerms rows known result = After (ReadsSubject (places (codes "FILE") (codes "FILE") (codes "FILE")) rows) (AnswersWhole AnswersTexts false rows known) result
