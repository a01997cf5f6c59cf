-- By which rule a verdict is asked for, and whether with its reasons. (this project's own)
use Rattle.std.specs.Prelude.{Bool, true, false, List, Result, Ok, Err, codes}
use Rattle.clap.specs.Words.{Row}
use Rattle.cli_output.specs.declared.failure.Failure.{Failure}
use Rattle.cli_output.specs.declared.failure.Failure.TheVariants.{BesideWhy}
use Rattle.cli_words.specs.Words.{is_set}
use Rattle.cli_verdict.specs.declared.asking.Asking.{Asking}
use Rattle.cli_verdict.specs.declared.asking.Asking.TheVariants.{Reasons, Server, Verdict}

-- what is asked for, by whether `--why` is given, and `--mountd`; both cannot be
abbrev pub asking_by : Bool → Bool → Result Asking Failure
asking_by false false = Ok Verdict
asking_by true false = Ok Reasons
asking_by false true = Ok Server
asking_by true true = Err BesideWhy

-- the same by the words
abbrev pub asking_in : List Row → Result Asking Failure
asking_in rows = asking_by (is_set (codes "why") rows) (is_set (codes "mountd") rows)
