-- What `try` answers over an exports text. (this project's own)
use Rattle.std.specs.Prelude.{◌≡◌, ◌++◌, ℕ, Bool, true, false, List, [], ◌∷◌, Option, None, Some, Result, Ok, Err, if◌then◌else◌, is_ok}
use Rattle.std.specs.String.{string_bytes}
use Rattle.serde_json.specs.Data.{Data}
use Rattle.desk_text.specs.Address.{number_of}
use Rattle.desk_text.specs.declared.reading.ReadError.{ReadError}
use Rattle.desk_text.specs.declared.reading.ReadError.TheVariants.{Fault, Memory}
use Rattle.desk_tables.specs.declared.credentials.Cred.{Cred}
use Rattle.desk_policy.specs.Contradiction.{HasNoContradiction}
use Rattle.desk_policy.specs.Policy.{Content}
use Rattle.desk_policy.specs.Prints.{acting_text, verdict_line}
use Rattle.desk_policy.specs.Verdict.{Grant, verdict_of}
use Rattle.desk_policy.specs.View.{IsFaultOf}
use Rattle.desk_policy.specs.declared.parsing.SiteTables.{SiteTables}
use Rattle.desk_policy.specs.declared.site_fault.SiteFault.{SiteFault}
use Rattle.desk_policy.specs.declared.verdict.Denial.{Denial}
use Rattle.desk_server.specs.Server.{server_verdict_of}
use Rattle.desk_server_prints.specs.LeftOutNote.{TellsLeftOut}
use Rattle.desk_server_prints.specs.GrantingLine.{wider_line, wider_note}
use Rattle.desk_why.specs.WhyPrints.{why_text}
use Rattle.desk_json.specs.Named.{named_verdict}
use Rattle.desk_json.specs.Why.{why_data}
use Rattle.cli_output.specs.Printed.{Prints}
use Rattle.cli_output.specs.ShownLines.{shown_lines}
use Rattle.cli_output.specs.declared.printed.Printed.{Printed}
use Rattle.cli_verdict.specs.ObjectLine.{data_line}
use Rattle.cli_verdict.specs.declared.asking.Asking.{Asking}
use Rattle.cli_verdict.specs.declared.asking.Asking.TheVariants.{Reasons, Server, Verdict}
use Rattle.cli_verdict.specs.declared.try_text.MountQuestion.{MountQuestion as LentQuestion}
use Rattle.cli_verdict.specs.declared.try_text.Tried.{Tried}

-- A question of a client: whether the client with this address, and with this credential, if it is given, may mount this path; by
-- which rule this is asked, and whether with reasons; and whether the answer is printed as JSON.
pub record MountQuestion : Type 0 where
  pub address : ℕ
  pub path : List (List ℕ)
  pub own : Option Cred
  pub asking : Asking
  pub json : Bool

-- the same by value
abbrev pub mount_question_of : LentQuestion → MountQuestion
mount_question_of question = record { address = number_of question.address; path = question.path.now; own = question.own.now; asking = question.asking; json = question.json }

-- whether the mount is granted, and what is printed, in whole lines
pub record Answer : Type 0 where
  pub granted : Bool
  pub text : List ℕ

-- an answer by value
abbrev pub answer_of : Tried → Answer
answer_of tried = record { granted = tried.granted; text = string_bytes tried.text }

-- these reasons as they are shown, if there are any
abbrev pub shown_reasons : Option (List ℕ) → List ℕ
shown_reasons None = []
shown_reasons (Some reasons) = shown_lines reasons

-- A verdict in a line, which says as whom the client acts if its credential is given, and these reasons below it.
abbrev pub lines_text : Option (List ℕ) → Content → Option Cred → Result Grant Denial → List ℕ
lines_text reasons content own verdict = verdict_line content verdict ++ acting_text verdict own ++ 10 ∷ shown_reasons reasons

-- a verdict as an object, with these reasons as a member of it
abbrev pub object_of : Option (List ℕ) → Content → Option Cred → Result Grant Denial → Data
object_of None content own verdict = named_verdict content own verdict
object_of (Some reasons) content own verdict = why_data content own verdict reasons

-- a verdict with these reasons: in lines, or as one object, if JSON is asked
abbrev pub answer_text : Bool → Option (List ℕ) → Content → Option Cred → Result Grant Denial → List ℕ
answer_text false reasons content own verdict = lines_text reasons content own verdict
answer_text true reasons content own verdict = data_line (object_of reasons content own verdict)

-- the answer that tells a verdict with these reasons: granted just where the verdict grants
abbrev pub answer_with : Bool → Option (List ℕ) → Content → Option Cred → Result Grant Denial → Answer
answer_with json reasons content own verdict = record { granted = is_ok verdict; text = answer_text json reasons content own verdict }

-- the answer that tells a verdict alone, in a line
abbrev pub answer_on : Content → Option Cred → Result Grant Denial → Answer
answer_on content own verdict = answer_with false None content own verdict

-- the reasons of the verdict by a policy, if they are asked, with the names that these tables know
abbrev pub reasons_if : Asking → SiteTables → Content → ℕ → List (List ℕ) → Option (List ℕ)
reasons_if Verdict tables content address path = None
reasons_if Reasons tables content address path = Some (why_text tables.netgroups tables.hosts content address path)
reasons_if Server tables content address path = None

abbrev pub reasons_of : SiteTables → Content → MountQuestion → Option (List ℕ)
reasons_of tables content question = reasons_if question.asking tables content question.address question.path

-- The answer to a question by the rule of this desk, by a policy, with these reasons; and beside it by which line the server grants what
-- is denied.
pub record TellsVerdict (reasons : Option (List ℕ)) (content : Content) (question : MountQuestion) (tried : Tried) : Type 0 where
  pub answer : answer_of tried ≡ answer_with question.json reasons content question.own (verdict_of content question.address question.path)
  pub beside : string_bytes tried.note
      ≡ wider_note content.origins (wider_line (verdict_of content question.address question.path) (server_verdict_of content question.address question.path))

-- the same by a policy and the tables that it was read with: with the reasons, if they are asked
abbrev pub AnswersHere : SiteTables → Content → MountQuestion → Tried → Type 0
AnswersHere tables content question tried = TellsVerdict (reasons_of tables content question) content question tried

-- the answer by the rule of mountd(8), and beside it the lines that it may leave out
pub record AnswersThere (content : Content) (question : MountQuestion) (tried : Tried) : Type 0 where
  pub answer : answer_of tried ≡ answer_with question.json None content question.own (server_verdict_of content question.address question.path)
  pub beside : TellsLeftOut content (string_bytes tried.note)

-- the answer by the rule that is asked
abbrev pub AnswersBy : Asking → SiteTables → Content → MountQuestion → Tried → Type 0
AnswersBy Verdict tables content question tried = AnswersHere tables content question tried
AnswersBy Reasons tables content question tried = AnswersHere tables content question tried
AnswersBy Server tables content question tried = AnswersThere content question tried

abbrev pub Answers : SiteTables → Content → MountQuestion → Tried → Type 0
Answers tables content question tried = AnswersBy question.asking tables content question tried

-- the answer is that by the policy that a text writes, which has no contradiction
abbrev pub IsAnswerBy : SiteTables → Result Content SiteFault → MountQuestion → Tried → Type 0
IsAnswerBy tables (Ok policy) question tried = HasNoContradiction policy × Answers tables policy question tried
IsAnswerBy tables (Err fault) question tried = ⊥

-- What `try` answers to a question by what a text is read as, with these tables: the verdict, or the text's fault, which is that of its
-- first faulty line or else its least contradiction. Out of memory says nothing.
abbrev pub Tries : SiteTables → Result Content SiteFault → MountQuestion → Result Tried (ReadError SiteFault) → Type 0
Tries tables read question (Ok tried) = IsAnswerBy tables read question tried
Tries tables read question (Err (Fault fault)) = IsFaultOf read fault
Tries tables read question (Err Memory) = Unit {0}

-- the same by the rule of this desk, and by that of mountd(8), of what a text is read as
abbrev pub TriesHere : SiteTables → Content → MountQuestion → Result Tried (ReadError SiteFault) → Type 0
TriesHere tables policy question (Ok tried) = HasNoContradiction policy × AnswersHere tables policy question tried
TriesHere tables policy question (Err (Fault fault)) = IsFaultOf (Ok policy) fault
TriesHere tables policy question (Err Memory) = Unit {0}

abbrev pub TriesThere : Content → MountQuestion → Result Tried (ReadError SiteFault) → Type 0
TriesThere policy question (Ok tried) = HasNoContradiction policy × AnswersThere policy question tried
TriesThere policy question (Err (Fault fault)) = IsFaultOf (Ok policy) fault
TriesThere policy question (Err Memory) = Unit {0}

-- the answer is printed: status 0 if it grants the mount, else 1; and what is said beside it
pub record PrintsTried (tried : Tried) (printed : Printed) : Type 0 where
  pub prints : Prints (if tried.granted then 0 else 1) (string_bytes tried.text) printed
  pub beside : string_bytes printed.note ≡ string_bytes tried.note
