-- What the program answers to the words of a command, and how it ends. (this project's own)
use Rattle.std.specs.Prelude.{◌≡◌, ◌≢◌, ◌⊎◌, ℕ, List, [], ◌∷◌, take, Option, Some, None, IfSome, Result, Ok, Err, IsErrAnd, codes}
use Rattle.std.specs.Io.BufRead.{take_through}
use Rattle.std.specs.Io.KnownBytes.{Consumes}
use Rattle.clap.specs.Words.{Row}
use Rattle.clap.specs.declared.error.ErrorKind.{ErrorKind}
use Rattle.clap.specs.declared.error.ErrorKind.TheVariants.{DisplayHelp, DisplayVersion, OutOfMemory}
use Rattle.desk_service.specs.declared.questions.FileQuestion.TheVariants as of_file
use Rattle.cli_output.specs.Failure.{IsMissing, IsUnreadLine}
use Rattle.cli_output.specs.Printed.{PrintsAtFour, status_of, text_of}
use Rattle.cli_output.specs.declared.failure.Failure.{Failure}
use Rattle.cli_output.specs.declared.failure.Failure.TheVariants.{FirstLine, Memory, Usage}
use Rattle.cli_output.specs.declared.failure.ReadFailure.TheVariants.{Text}
use Rattle.cli_output.specs.declared.failure.TextFault.{TextFault}
use Rattle.cli_output.specs.declared.printed.Printed.{Printed}
use Rattle.cli_words.specs.Commands.{AskForHelp, command_found, faults_of}
use Rattle.cli_words.specs.LineWords.{IsBadWord, words_of}
use Rattle.cli_words.specs.declared.commands.Subcommand.{Subcommand}
use Rattle.cli_words.specs.declared.commands.Subcommand.TheVariants as subcommand
use Rattle.cli_files.specs.Input.{first_line}
use Rattle.cli_texts.specs.CheckCommand.{AnswersCheck}
use Rattle.cli_texts.specs.ClientsCommand.{AnswersClients}
use Rattle.cli_texts.specs.CompareCommand.{AnswersCompare}
use Rattle.cli_texts.specs.ListsCommand.{AnswersLists}
use Rattle.cli_texts.specs.SplitCommand.{AnswersSplit}
use Rattle.cli_texts.specs.TermsCommand.{AnswersTerms}
use Rattle.cli_texts.specs.TestCommand.{AnswersTest}
use Rattle.cli_texts.specs.TryCommand.{AnswersTry}
use Rattle.cli_questions.specs.AuditCommand.{AnswersAudit}
use Rattle.cli_questions.specs.QuestionCommands.{AnswersAsk, AnswersCat, AnswersExports, AnswersFiles, AnswersImpact, AnswersOfFile, AnswersShow, AnswersWho}
use Rattle.cli_questions.specs.ReportCommand.{AnswersReport}
use Rattle.cli_edits.specs.InitCommand.{AnswersInit}
use Rattle.cli_edits.specs.PutCommand.{AnswersPut}
use Rattle.cli_serve.specs.ServeCommand.{AnswersServe}
use Rattle.cli_write.specs.CopyCommand.{AnswersCopy}
use Rattle.cli_write.specs.WriteCommand.{AnswersWrite}

-- an error of clap is help, with the status 0, for the two kinds that are asked for, and else a failure; out of memory says nothing
abbrev pub IsSaid : ErrorKind → Result Printed Failure → Type 0
IsSaid kind (Ok printed) = ((kind ≡ DisplayHelp) ⊎ (kind ≡ DisplayVersion)) × (printed.status ≡ 0)
IsSaid kind (Err (Usage text)) = kind ≢ OutOfMemory
IsSaid kind (Err Memory) = Unit {0}
IsSaid kind result = ⊥

-- Help is printed, with the status 0, only if the words ask for it, and words are refused only if clap or UTF-8 refuses them; out of memory
-- says nothing.
abbrev pub IsNoCommand : List (List ℕ) → Result Printed Failure → Type 0
IsNoCommand words (Ok printed) = AskForHelp words × (printed.status ≡ 0)
IsNoCommand words (Err (Usage text)) = faults_of words ≢ []
IsNoCommand words (Err failure) = IsBadWord words failure

-- the answer to a command with these words over an input that has these bytes, if a contract can name them
abbrev pub AnswersGiven : Subcommand → List Row → Option (List ℕ) → Result Printed Failure → Type 0
AnswersGiven subcommand.Try rows known result = AnswersTry rows known result
AnswersGiven subcommand.Split rows known result = AnswersSplit rows known result
AnswersGiven subcommand.Check rows known result = AnswersCheck rows known result
AnswersGiven subcommand.Clients rows known result = AnswersClients rows known result
AnswersGiven subcommand.Lists rows known result = AnswersLists rows known result
AnswersGiven subcommand.Terms rows known result = AnswersTerms rows known result
AnswersGiven subcommand.Compare rows known result = AnswersCompare rows known result
AnswersGiven subcommand.Test rows known result = AnswersTest rows known result
AnswersGiven subcommand.Init rows known result = AnswersInit rows known result
AnswersGiven subcommand.Ask rows known result = AnswersAsk rows result
AnswersGiven subcommand.Show rows known result = AnswersShow rows result
AnswersGiven subcommand.Exports rows known result = AnswersExports rows result
AnswersGiven subcommand.Who rows known result = AnswersWho rows result
AnswersGiven subcommand.Put rows known result = AnswersPut rows known result
AnswersGiven subcommand.Impact rows known result = AnswersImpact rows known result
AnswersGiven subcommand.Audit rows known result = AnswersAudit rows known result
AnswersGiven subcommand.Log rows known result = AnswersOfFile of_file.Revisions rows result
AnswersGiven subcommand.Cat rows known result = AnswersCat rows result
AnswersGiven subcommand.Proposal rows known result = AnswersOfFile of_file.Proposal rows result
AnswersGiven subcommand.Files rows known result = AnswersFiles rows result
AnswersGiven subcommand.Report rows known result = AnswersReport rows result
AnswersGiven subcommand.Write rows known result = AnswersWrite rows result
AnswersGiven subcommand.Copy rows known result = AnswersCopy rows result
AnswersGiven subcommand.Serve rows known result = AnswersServe rows result

-- the answer to what clap finds: that to the command, or that there is none
abbrev pub AnswersFound : Option (Subcommand × List Row) → Option (List ℕ) → Result Printed Failure → Type 0
AnswersFound (Some found) known result = AnswersGiven found.0 found.1 known result
AnswersFound None known result = IsErrAnd result (IsMissing (codes "the command"))

-- the answer to words: that they are no command, or that to the command which they are
abbrev pub AnswersCommand : List (List ℕ) → Option (List ℕ) → Result Printed Failure → Type 0
AnswersCommand words known result = IsNoCommand words result ⊎ AnswersFound (command_found words) known result

-- the answer to the first line: that to its words, over the rest of the input; or its fault
abbrev pub AnswersLine : Result (List ℕ) TextFault → Option (List ℕ) → Result Printed Failure → Type 0
AnswersLine (Ok line) rest result = (result ≡ Err Memory) ⊎ AnswersCommand (words_of line) rest result
AnswersLine (Err fault) rest result = result ≡ Err (FirstLine (Text fault))

-- the answer to the first line of an input, over all that stands behind that line
pub record AnswersInput (known : Option (List ℕ)) (result : Result Printed Failure) : Type 0 where
  pub line : List ℕ
  pub first : IfSome known (λ given. line ≡ take_through 10 (take 16777218 given))
  pub rest : Option (List ℕ)
  pub left : Consumes known rest line
  pub answers : AnswersLine (first_line line) rest result

abbrev pub AnswersFirstLine : Option (List ℕ) → Result Printed Failure → Type 0
AnswersFirstLine known result = IsErrAnd result IsUnreadLine ⊎ AnswersInput known result

-- the answer to the words of the program; without words the input's first line has them
abbrev pub AnswersProgram : List (List ℕ) → Option (List ℕ) → Result Printed Failure → Type 0
AnswersProgram [] known result = AnswersFirstLine known result
AnswersProgram (word ∷ words) known result = AnswersCommand (word ∷ words) known result

-- A run: some answer to the words, whose status is returned, and of which just this is printed; or the status 4, at which nothing else is
-- printed than a front of that answer or of the line that memory ran out.
pub record Runs (words : List (List ℕ)) (known : Option (List ℕ)) (exit : ℕ) (Prints : List ℕ → Type 0) : Type 0 where
  pub answer : Result Printed Failure
  pub answers : AnswersProgram words known answer
  pub status : (exit ≡ status_of answer) ⊎ (exit ≡ 4)
  pub prints : exit ≢ 4 → Prints (text_of answer)
  pub at_four : exit ≡ 4 → PrintsAtFour answer Prints
