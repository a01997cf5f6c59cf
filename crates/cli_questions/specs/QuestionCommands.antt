-- The answers of the commands that ask a database, by their words. (this project's own)
use Rattle.std.specs.Prelude.{◌≡◌, ℕ, Bool, true, false, codes, List, [], Option, Some, None, Result, Ok, Err, IsErrAnd, if◌then◌else◌}
use Rattle.clap.specs.Words.{Row, first_of}
use Rattle.desk_text.specs.Address.{number_of, read_addr}
use Rattle.desk_text.specs.Path.{read_path}
use Rattle.desk_text.specs.declared.address.Addr.{Addr}
use Rattle.desk_tables.specs.Groups.{read_groups}
use Rattle.desk_tables.specs.Users.{read_users}
use Rattle.desk_tables.specs.declared.credentials.Cred.{Cred}
use Rattle.desk_service.specs.Questions.{Exports, Files, Foresee, ForeseeProposal, Listing, OfFile, Question, Site, Text, Why}
use Rattle.desk_service.specs.declared.questions.FileQuestion.{FileQuestion}
use Rattle.cli_output.specs.declared.bad_argument.ArgumentFault.TheVariants as fault
use Rattle.cli_output.specs.declared.failure.Failure.{Failure}
use Rattle.cli_output.specs.declared.failure.Failure.TheVariants.{BesideProposal}
use Rattle.cli_output.specs.declared.printed.Printed.{Printed}
use Rattle.cli_output.specs.Failure.{IsMissing}
use Rattle.cli_words.specs.Values.{AnswersArgument, AnswersOwn, IsBadNumber, own_answer, revision_number}
use Rattle.cli_words.specs.Words.{After, ByWord, is_set}
use Rattle.cli_files.specs.Files.{HasText, LacksText}
use Rattle.cli_verdict.specs.Asking.{asking_in}
use Rattle.cli_verdict.specs.TryText.{MountQuestion}
use Rattle.cli_verdict.specs.declared.asking.Asking.{Asking}
use Rattle.cli_verdict.specs.declared.asking.Asking.TheVariants.{Reasons, Server, Verdict}
use Rattle.cli_questions.specs.Questions.{AnswersQuestion, Asked, Changes, Mounts, Plain, Printer, Ranges, Terms}

-- HOST is parsed as an address, or refused
abbrev pub ParsesHost : List ℕ → Result Addr Failure → Type 0
ParsesHost word step = AnswersArgument number_of fault.Address (codes "HOST") word (read_addr word) step

-- DIR is parsed as a path, or refused
abbrev pub ParsesDir : List ℕ → Result (List (List ℕ)) Failure → Type 0
ParsesDir word step = AnswersArgument (λ path. path) fault.Path (codes "DIR") word (read_path word) step

-- CRED is parsed without users and groups, if it is given, or refused
abbrev pub ParsesOwn : Option (List ℕ) → Result (Option Cred) Failure → Type 0
ParsesOwn word step = AnswersOwn word (own_answer word (read_users []) (read_groups [])) step

-- the word writes this number of a revision
abbrev pub IsRevision : List ℕ → Option ℕ → Type 0
IsRevision word (Some rev) = revision_number word ≡ Some rev
IsRevision word None = ⊥

-- the number of a revision is parsed, if it is given, or refused
abbrev pub ParsesRevision : Option (List ℕ) → Result (Option ℕ) Failure → Type 0
ParsesRevision None step = step ≡ Ok None
ParsesRevision (Some word) (Ok rev) = IsRevision word rev
ParsesRevision (Some word) (Err failure) = (revision_number word ≡ None) × IsBadNumber (codes "--rev") word failure

-- a question whose answer is printed as it is, or as one object
abbrev pub plainly : Question → Bool → Asked
plainly question json = record { question = question; printer = Plain; json = json }

-- a question on what would change, with the changes that matter to no client or without
abbrev pub changes : Question → Bool → Bool → Asked
changes question all json = record { question = question; printer = Changes all; json = json }

-- a question on the whole site, which is printed so
abbrev pub of_site : Printer → Bool → Asked
of_site printer json = record { question = Site; printer = printer; json = json }

-- the answer is to be printed as one object of JSON
abbrev pub asks_json : List Row → Bool
asks_json rows = is_set (codes "json") rows

-- the question that is asked of a mount: with why, if that is asked; and else of the whole site
abbrev pub asked_by : Asking → ℕ → List (List ℕ) → Question
asked_by Reasons address path = Why address path
asked_by Verdict address path = Site
asked_by Server address path = Site

abbrev pub mounting : MountQuestion → Asked
mounting question = record { question = asked_by question.asking question.address question.path; printer = Mounts question; json = question.json }

-- `ask DB HOST DIR [--as CRED] [--json]`, by the rule that is asked: the words are parsed from left to right
abbrev pub AnswersAskAs : Asking → List Row → Result Printed Failure → Type 0
AnswersAskAs asking rows =
    ByWord (codes "DB") rows (λ db. ByWord (codes "HOST") rows (λ host. ByWord (codes "DIR") rows (λ dir.
    After (ParsesHost host) (λ address. After (ParsesDir dir) (λ path. After (ParsesOwn (first_of (codes "as") rows)) (λ own.
    AnswersQuestion db (mounting (record { address = number_of address; path = path; own = own; asking = asking; json = asks_json rows }))))))))

-- the same, or why nothing is asked
abbrev pub AnswersAskIf : Result Asking Failure → List Row → Result Printed Failure → Type 0
AnswersAskIf (Ok asking) rows result = AnswersAskAs asking rows result
AnswersAskIf (Err failure) rows result = result ≡ Err failure

-- `ask DB HOST DIR [--as CRED] [--json]`, and `--why` or `--mountd`
abbrev pub AnswersAsk : List Row → Result Printed Failure → Type 0
AnswersAsk rows result = AnswersAskIf (asking_in rows) rows result

-- `show DB HOST [--json]`
abbrev pub AnswersShow : List Row → Result Printed Failure → Type 0
AnswersShow rows =
    ByWord (codes "DB") rows (λ db. ByWord (codes "HOST") rows (λ host.
    After (ParsesHost host) (λ address. AnswersQuestion db (plainly (Listing (number_of address)) (asks_json rows)))))

-- a question on all exports, which are printed with their terms or without, or as one object
abbrev pub of_exports : Bool → Bool → Asked
of_exports terms json = record { question = Exports; printer = if terms then Terms else Plain; json = json }

-- `exports DB [--terms] [--json]`
abbrev pub AnswersExports : List Row → Result Printed Failure → Type 0
AnswersExports rows = ByWord (codes "DB") rows (λ db. AnswersQuestion db (of_exports (is_set (codes "terms") rows) (asks_json rows)))

-- `who DB DIR [--mountd] [--json]`
abbrev pub AnswersWho : List Row → Result Printed Failure → Type 0
AnswersWho rows =
    ByWord (codes "DB") rows (λ db. ByWord (codes "DIR") rows (λ dir.
    After (ParsesDir dir) (λ path. AnswersQuestion db (of_site (Ranges path (is_set (codes "mountd") rows)) (asks_json rows)))))

-- `log DB NAME [--json]` or `proposal DB NAME [--json]`: what is asked of a file by its name alone
abbrev pub AnswersOfFile : FileQuestion → List Row → Result Printed Failure → Type 0
AnswersOfFile what rows = ByWord (codes "DB") rows (λ db. ByWord (codes "NAME") rows (λ name. AnswersQuestion db (plainly (OfFile name what) (asks_json rows))))

-- `cat DB NAME [--rev N] [--json]`
abbrev pub AnswersCat : List Row → Result Printed Failure → Type 0
AnswersCat rows =
    ByWord (codes "DB") rows (λ db. ByWord (codes "NAME") rows (λ name.
    After (ParsesRevision (first_of (codes "rev") rows)) (λ rev. AnswersQuestion db (plainly (Text name rev) (asks_json rows)))))

-- `files DB [--json]`
abbrev pub AnswersFiles : List Row → Result Printed Failure → Type 0
AnswersFiles rows = ByWord (codes "DB") rows (λ db. AnswersQuestion db (plainly Files (asks_json rows)))

-- FILE has this text, or it is said why it has none
abbrev pub ReadsFile : List ℕ → Option (List ℕ) → Result (List ℕ) Failure → Type 0
ReadsFile file known (Ok text) = HasText (codes "FILE") file known text
ReadsFile file known (Err failure) = LacksText (codes "FILE") file known failure

-- the answer of `impact` by FILE, and by whether the proposal stands in its place: FILE is read before the database is
abbrev pub AnswersImpactBy : List ℕ → List ℕ → Bool → Bool → Option (List ℕ) → Bool → Option (List ℕ) → Result Printed Failure → Type 0
AnswersImpactBy db name all json (Some file) true known result = result ≡ Err BesideProposal
AnswersImpactBy db name all json (Some file) false known result =
    After (ReadsFile file known) (λ text. AnswersQuestion db (changes (Foresee name text) all json)) result
AnswersImpactBy db name all json None true known result = AnswersQuestion db (changes (ForeseeProposal name) all json) result
AnswersImpactBy db name all json None false known result = IsErrAnd result (IsMissing (codes "FILE"))

-- `impact DB NAME FILE [--all] [--json]`, or `--proposal` in the place of FILE
abbrev pub AnswersImpact : List Row → Option (List ℕ) → Result Printed Failure → Type 0
AnswersImpact rows known =
    ByWord (codes "DB") rows (λ db. ByWord (codes "NAME") rows (λ name.
    AnswersImpactBy db name (is_set (codes "all") rows) (asks_json rows) (first_of (codes "FILE") rows) (is_set (codes "proposal") rows) known))
