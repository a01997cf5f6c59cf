-- Files that are read in turn, for `files::read_if_given`.
use Rattle.std.proofs.Common.{ℕ, List, Option, None, Ok, Err, String}
use Rattle.std.specs.String.{string_bytes}
use Rattle.cli_files.specs.Files.{HasText, LacksText, ReadsText}
use Rattle.cli_output.specs.declared.failure.Failure.{Failure}

module _ {A : Type 0} where
  pub has_text : (argument : List ℕ) (word : List ℕ) (known : Option (List ℕ)) (text : String A) → ReadsText {A = A} argument word known (Ok text) → HasText argument word known (string_bytes text)
  has_text argument word known text read = record { bytes = read.bytes; contents = read.contents; read = read.text }

  pub lacks_text : (argument : List ℕ) (word : List ℕ) (known : Option (List ℕ)) (failure : Failure) → ReadsText {A = A} argument word known (Err failure) → LacksText argument word known failure
  lacks_text argument word known failure read = record { bytes = read.bytes; contents = read.contents; says = read.text }

-- what a file has is said without what an input has
pub text_unknown : (argument : List ℕ) (word : List ℕ) (known : Option (List ℕ)) (text : List ℕ) → HasText argument word known text → HasText argument word None text
text_unknown argument word known text has = record { bytes = has.bytes; contents = λ _. tt; read = has.read }

pub lacks_unknown : (argument : List ℕ) (word : List ℕ) (known : Option (List ℕ)) (failure : Failure) → LacksText argument word known failure → LacksText argument word None failure
lacks_unknown argument word known failure lacks = record { bytes = lacks.bytes; contents = λ _. tt; says = lacks.says }
