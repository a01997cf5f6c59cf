-- That what is written of files is the answer of the command, for `write_command`.
use Rattle.std.proofs.Common.{◌≡◌, ◌∙◌, ap, List, Option, None, Some, Result, Err, subst, sym, ℕ, inr, refl}
use Rattle.clap.specs.Words.{Row, first_of}
use Rattle.sqlite.specs.Effect.{Database}
use Rattle.desk_tables.specs.declared.filesystems.Mount.{Mount}
use Rattle.desk_policy.specs.Policy.{Content}
use Rattle.desk_core.specs.Head.{Newest, newest_in}
use Rattle.desk_core.specs.History.{newest_of, standing_of}
use Rattle.desk_core.specs.Judging.{table_in}
use Rattle.desk_store.specs.Desk.{History}
use Rattle.desk_store.specs.Open.{IsOurs, IsProject}
use Rattle.desk_service.specs.Files.{AreListed, ListedFiles}
use Rattle.desk_service.specs.Questions.{AreFiles, answer_of}
use Rattle.desk_service.specs.declared.questions.Answer.{Answer}
use Rattle.desk_service.specs.declared.questions.Answer.TheVariants.{Files}
use Rattle.cli_output.specs.Failure.{IsMissing}
use Rattle.cli_output.specs.declared.failure.Failure.{Failure}
use Rattle.cli_output.specs.declared.failure.Failure.TheVariants.{Memory}
use Rattle.cli_output.specs.declared.printed.Printed.{Printed}
use Rattle.cli_words.specs.Words.{AnswersBy, ByWord}
use Rattle.cli_write.specs.TextsBack.{texts_back}
use Rattle.cli_write.specs.WriteCommand.{WritesReadable, WritesStored}

module _ (name : List ℕ) (rows : List Row) (Answers : List ℕ → Result Printed Failure → Type 0) where
  -- the word of an argument is there
  pub by_word : (word : List ℕ) (result : Result Printed Failure) → first_of name rows ≡ Some word → Answers word result → ByWord name rows Answers result
  by_word word result found answers = subst (λ (f : Option (List ℕ)). AnswersBy name f Answers result) (sym found) answers

  -- it is missing
  pub no_word : (failure : Failure) → first_of name rows ≡ None → IsMissing name failure → ByWord name rows Answers (Err failure)
  no_word failure none missing = subst (λ (f : Option (List ℕ)). AnswersBy name f Answers (Err failure)) (sym none) missing

-- memory ran out
pub no_memory : (db : Database) (ours : IsOurs db) (newest : Newest) (folder : List ℕ) → ((history : History) → IsProject db history → newest ≡ newest_of history) → WritesStored folder (Err Memory)
no_memory db ours newest folder each = (db, newest, record { ours = ours; each = each }, inr (inr refl))

-- the files of a desk on a database are those of each history that it holds
pub are_stored : (db : Database) (ours : IsOurs db) (folder : List ℕ) (listed : ListedFiles) (result : Result Printed Failure)
    → ((history : History) → IsProject db history → AreListed (standing_of history) listed)
    → WritesReadable folder (newest_in listed.heads) (texts_back listed.table (newest_in listed.heads)) result → WritesStored folder result
are_stored db ours folder listed result are writes =
    let newest = newest_in listed.heads in
    let first = are ours.0 ours.1 in (
      db,
      newest,
      record { ours = ours; each = λ history is. (are history is).newest },
      subst (λ (table : List Mount). WritesReadable folder newest (texts_back table newest) result) (first.table ∙ ap table_in (sym first.newest)) writes,
    )

-- the answer to the question about files is their list
pub only_files : {V : Type 0} (in_force : V → Content) (history : History) (answer : Answer V) → ((listed : _) → answer ≡ Files listed → ⊥) → AreFiles history (answer_of in_force answer) → ⊥
only_files in_force history (Files listed) other are = other listed refl
only_files in_force history answer other are = absurd are
