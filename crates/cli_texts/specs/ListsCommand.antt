-- What `lists` prints, by its words and files. (this project's own)
use Rattle.std.specs.Prelude.{ℕ, false, List, Option, Result, codes}
use Rattle.clap.specs.Words.{Row}
use Rattle.desk_text.specs.Address.{number_of, read_addr}
use Rattle.desk_text.specs.declared.address.Addr.{Addr}
use Rattle.desk_tables.specs.declared.filesystems.Mount.{Mount}
use Rattle.desk_policy.specs.ListingPrints.{listing_text}
use Rattle.desk_policy.specs.Listings.{listing_of}
use Rattle.desk_policy.specs.Policy.{Content}
use Rattle.desk_policy.specs.declared.site_fault.SiteFault.{SiteFault}
use Rattle.desk_findings.specs.declared.check_text.WholeSources.{WholeSources}
use Rattle.cli_output.specs.declared.bad_argument.ArgumentFault.TheVariants as fault
use Rattle.cli_output.specs.declared.failure.Failure.{Failure}
use Rattle.cli_output.specs.declared.printed.Printed.{Printed}
use Rattle.cli_words.specs.Values.{AnswersArgument}
use Rattle.cli_words.specs.Words.{After, AnswersBy}
use Rattle.cli_texts.specs.FaultyTexts.{AnswersOrFault}
use Rattle.cli_texts.specs.Printing.{PrintsAlone}
use Rattle.cli_sources.specs.Subject.{ReadsSubject, places, word_at}
use Rattle.cli_sources.specs.declared.subject.Subject.{Subject}
use Rattle.cli_sources.specs.WholeQuestion.{AnswersWhole}
use Rattle.cli_texts.specs.WholeTables.{Writes, policy_of}

-- the listing of a client by the policy that an exports text is read as is printed, with the status 0, and standard error says nothing
pub record PrintsListing (read : Result Content SiteFault) (address : ℕ) (printed : Printed) : Type 0 where
  pub policy : Content
  pub written : Writes read policy
  pub prints : PrintsAlone 0 (listing_text policy (listing_of policy address)) printed

-- the answer about a client by the texts of the files
abbrev pub AnswersHost : ℕ → List Mount → WholeSources → Result Printed Failure → Type 0
AnswersHost address table sources result = AnswersOrFault false (PrintsListing (policy_of sources table) address) sources table result

-- the address that HOST writes, or why it writes none; with `--site` it is the first word
abbrev pub ReadsHost : Subject → List Row → Result Addr Failure → Type 0
ReadsHost subject rows result =
    AnswersBy (codes "HOST") (word_at subject (codes "FILE") (codes "HOST") rows)
    (λ host. AnswersArgument number_of fault.Address (codes "HOST") host (read_addr host)) result

-- the answer about a client: all files are read after its address
abbrev pub AnswersClient : List Row → Option (List ℕ) → Subject → Addr → Result Printed Failure → Type 0
AnswersClient rows known subject address result = AnswersWhole (AnswersHost (number_of address)) false rows known subject result

-- the answer about what is asked of
abbrev pub AnswersSubject : List Row → Option (List ℕ) → Subject → Result Printed Failure → Type 0
AnswersSubject rows known subject result = After (ReadsHost subject rows) (AnswersClient rows known subject) result

-- the answer of `lists` to its words
abbrev pub AnswersLists : List Row → Option (List ℕ) → Result Printed Failure → Type 0
AnswersLists rows known result = After (ReadsSubject (places (codes "FILE") (codes "HOST") (codes "FILE or MOUNT")) rows) (AnswersSubject rows known) result
