-- What `try` prints, by its words and files. (this project's own)
use Rattle.std.specs.Prelude.{◌≡◌, ℕ, Bool, List, Option, Result, Ok, Err, MatchResult, codes}
use Rattle.std.specs.Option.{option_map}
use Rattle.clap.specs.Words.{Row, first_of}
use Rattle.desk_text.specs.Address.{number_of, read_addr}
use Rattle.desk_text.specs.Path.{read_path}
use Rattle.desk_tables.specs.Groups.{read_groups}
use Rattle.desk_tables.specs.Users.{read_users}
use Rattle.desk_tables.specs.declared.credentials.Cred.{Cred}
use Rattle.desk_tables.specs.declared.filesystems.Mount.{Mount}
use Rattle.desk_policy.specs.declared.parsing.SiteTables.{SiteTables}
use Rattle.desk_findings.specs.CheckText.{tables_of}
use Rattle.desk_findings.specs.declared.check_text.WholeSources.{WholeSources}
use Rattle.cli_output.specs.declared.failure.Failure.{Failure}
use Rattle.cli_output.specs.declared.printed.Printed.{Printed}
use Rattle.cli_words.specs.Values.{AnswersOwn, IsBadArgument, IsRequest, own_answer}
use Rattle.cli_words.specs.Words.{After, AnswersBy, is_set}
use Rattle.cli_words.specs.declared.values.Request.{Request}
use Rattle.cli_texts.specs.FaultyTexts.{AnswersOrFault}
use Rattle.cli_sources.specs.Subject.{ReadsSubject, places, word_at}
use Rattle.cli_sources.specs.declared.subject.Subject.{Subject}
use Rattle.cli_texts.specs.declared.try_command.Asked as code
use Rattle.cli_texts.specs.declared.try_command.TryQuestion.{TryQuestion}
use Rattle.cli_verdict.specs.Asking.{asking_in}
use Rattle.cli_verdict.specs.TryText.{IsAnswerBy, MountQuestion, PrintsTried}
use Rattle.cli_verdict.specs.declared.asking.Asking.{Asking}
use Rattle.cli_verdict.specs.declared.try_text.Tried.{Tried}
use Rattle.cli_sources.specs.WholeQuestion.{AnswersWhole}
use Rattle.cli_texts.specs.WholeTables.{policy_of}

-- the question of a request, of a client with this credential, if it is given, by the rule that is asked, and as JSON, if that is asked
abbrev pub question_in : Request → Option Cred → Asking → Bool → MountQuestion
question_in request own asking json = record { address = number_of request.address; path = request.path; own = own; asking = asking; json = json }

-- the answer to a question by what these texts are read as, with their tables, is printed
pub record PrintsVerdict (sources : WholeSources) (table : List Mount) (question : MountQuestion) (printed : Printed) : Type 0 where
  pub tables : SiteTables
  pub tables_are : tables_of sources.tables ≡ Ok tables
  pub tried : Tried
  pub answers : IsAnswerBy tables (policy_of sources table) question tried
  pub prints : PrintsTried tried printed

-- a request as it is asked: with the word of a credential, if it is given, and the file systems
pub record Asked : Type 0 where
  pub word : Option (List ℕ)
  pub asking : Asking
  pub json : Bool
  pub request : Request
  pub filesystems : List Mount

abbrev pub asked_of : code.Asked → Asked
asked_of asked = record { word = option_map (λ word. word.now) asked.word; asking = asked.asking; json = asked.json; request = asked.request.now; filesystems = asked.filesystems.now }

-- a question with these file systems
abbrev pub asked_in : TryQuestion → List Mount → Asked
asked_in question table = record { word = option_map (λ word. word.now) question.word; asking = question.asking; json = question.json; request = question.request.now; filesystems = table }

-- the answer to a request of a client with this credential, if it is given
abbrev pub AnswersAs : Asked → WholeSources → Option Cred → Result Printed Failure → Type 0
AnswersAs asked sources own result =
    AnswersOrFault asked.json (PrintsVerdict sources asked.filesystems (question_in asked.request own asked.asking asked.json)) sources asked.filesystems result

-- the credential that CRED stands for with these tables, or why it stands for none
abbrev pub ReadsOwn : Option (List ℕ) → WholeSources → Result (Option Cred) Failure → Type 0
ReadsOwn word sources result = AnswersOwn word (own_answer word (read_users sources.tables.passwd.text.now) (read_groups sources.tables.group.text.now)) result

-- the answer to a request by the texts of its files; a bad credential comes before any fault of them
abbrev pub AnswersRequest : Asked → WholeSources → Result Printed Failure → Type 0
AnswersRequest asked sources result = After (ReadsOwn asked.word sources) (AnswersAs asked sources) result

-- the request that these words write; or which of them is the first, from left to right, that cannot be parsed
abbrev pub ReadsWords : List ℕ → List ℕ → Result Request Failure → Type 0
ReadsWords host dir result = MatchResult result (IsRequest host dir) (IsBadArgument host (read_addr host) dir (read_path dir))

-- the same of the words HOST and DIR; with `--site` they are the first two
abbrev pub ReadsRequest : Subject → List Row → Result Request Failure → Type 0
ReadsRequest subject rows result =
    AnswersBy (codes "HOST") (word_at subject (codes "FILE") (codes "HOST") rows)
    (λ host. AnswersBy (codes "DIR") (word_at subject (codes "HOST") (codes "DIR") rows) (ReadsWords host)) result

-- the answer to a request: all files are read after it
abbrev pub AnswersAsked : Asking → List Row → Option (List ℕ) → Subject → Request → Result Printed Failure → Type 0
AnswersAsked asking rows known subject request result =
    let json = is_set (codes "json") rows in
    AnswersWhole (λ table. AnswersRequest (record { word = first_of (codes "as") rows; asking = asking; json = json; request = request; filesystems = table })) json rows known subject result

-- the answer about what is asked of
abbrev pub AnswersSubject : Asking → List Row → Option (List ℕ) → Subject → Result Printed Failure → Type 0
AnswersSubject asking rows known subject result = After (ReadsRequest subject rows) (AnswersAsked asking rows known subject) result

-- the answer of `try` to its words, by the rule that is asked
abbrev pub AnswersTryAs : Asking → List Row → Option (List ℕ) → Result Printed Failure → Type 0
AnswersTryAs asking rows known result = After (ReadsSubject (places (codes "FILE") (codes "DIR") (codes "FILE or MOUNT")) rows) (AnswersSubject asking rows known) result

-- the same, or why nothing is asked
abbrev pub AnswersTryIf : Result Asking Failure → List Row → Option (List ℕ) → Result Printed Failure → Type 0
AnswersTryIf (Ok asking) rows known result = AnswersTryAs asking rows known result
AnswersTryIf (Err failure) rows known result = result ≡ Err failure

-- the answer of `try` to its words
abbrev pub AnswersTry : List Row → Option (List ℕ) → Result Printed Failure → Type 0
AnswersTry rows known result = AnswersTryIf (asking_in rows) rows known result
