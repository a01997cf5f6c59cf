-- What `copy` answers. (this project's own)
use Rattle.std.specs.Prelude.{◌≡◌, ◌⊎◌, ℕ, List, Result, Ok, Err, codes}
use Rattle.clap.specs.Words.{Row}
use Rattle.sqlite_trees.specs.Tree.{Trees}
use Rattle.desk_service.specs.declared.refused.Refused.TheVariants.{Store}
use Rattle.cli_output.specs.Printed.{Prints}
use Rattle.cli_output.specs.declared.failure.Failure.{Failure}
use Rattle.cli_output.specs.declared.failure.Failure.TheVariants.{Memory}
use Rattle.cli_output.specs.declared.printed.Printed.{Printed}
use Rattle.cli_words.specs.Words.{ByWord}
use Rattle.cli_desk.specs.Desks.{HasNoCopiedDesk}
use Rattle.cli_desk.specs.RefusalLines.{Says}
use Rattle.cli_write.specs.CheckedCopy.{IsCheckedCopy}

-- the line of a copy that is made
abbrev pub copied_line : List ℕ
copied_line = codes "copied\n"

-- a file is made, or it cannot be; out of memory says nothing
abbrev pub TellsCopied : Result Printed Failure → Type 0
TellsCopied (Ok printed) = Prints 0 copied_line printed ⊎ Says Store printed
TellsCopied (Err failure) = failure ≡ Memory

-- a copy of a database of this project, in one file, is made, or its file cannot be
abbrev pub CopiesStored : Result Printed Failure → Type 0
CopiesStored result = (trees : Trees) × (bytes : List ℕ) × IsCheckedCopy trees bytes × TellsCopied result

-- that of the database at a path; or there is no desk on it
abbrev pub CopiesDatabase : List ℕ → Result Printed Failure → Type 0
CopiesDatabase path result = HasNoCopiedDesk path result ⊎ CopiesStored result

-- DB is copied into the new file FILE; or one of these words is missing. Which file is made, only the system can say.
abbrev pub AnswersCopy : List Row → Result Printed Failure → Type 0
AnswersCopy rows = ByWord (codes "DB") rows (λ db. ByWord (codes "FILE") rows (λ file. CopiesDatabase db))
