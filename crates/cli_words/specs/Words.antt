-- The words that `clap` finds for a command, by their names. (this project's own)
use Rattle.std.specs.Prelude.{◌≡◌, ℕ, Bool, false, codes, List, Option, Some, None, Result, Ok, Err, IsErrAnd}
use Rattle.std.specs.Option.{option_map_or}
use Rattle.std.specs.Str.{bytes_eq}
use Rattle.clap.specs.Words.{Row, first_of, found_of, rows_of}
use Rattle.clap.specs.declared.parser.ArgMatches.{ArgMatches}
use Rattle.cli_output.specs.Failure.{IsMissing}
use Rattle.cli_output.specs.declared.failure.Failure.{Failure}

-- the rows of what clap found: each an argument with its words
abbrev pub rows_in : ArgMatches → List Row
rows_in found = rows_of (found_of found)

-- an option without a value is given
abbrev pub is_set : List ℕ → List Row → Bool
is_set name rows = option_map_or (λ value. bytes_eq value (codes "true")) (first_of name rows) false

module _ {T X : Type 0} where
  -- this was found of an argument, or the argument is missing
  abbrev pub Finds : (T → X) → List ℕ → Option X → Result T Failure → Type 0
  Finds view name found (Ok value) = found ≡ Some (view value)
  Finds view name found (Err failure) = (found ≡ None) × IsMissing name failure

module _ {X T : Type 0} where
  -- the answer by what was found of an argument, or that the argument is missing
  abbrev pub AnswersBy : List ℕ → Option X → (X → Result T Failure → Type 0) → Result T Failure → Type 0
  AnswersBy name (Some value) Answers result = Answers value result
  AnswersBy name None Answers result = IsErrAnd result (IsMissing name)

module _ {T : Type 0} where
  -- the answer by the word of an argument that has to be given
  abbrev pub ByWord : List ℕ → List Row → (List ℕ → Result T Failure → Type 0) → Result T Failure → Type 0
  ByWord name rows Answers result = AnswersBy name (first_of name rows) Answers result

module _ {A T : Type 0} where
  -- what comes after a step: the answer of what it gives, or its failure
  abbrev pub Continues : Result A Failure → (A → Result T Failure → Type 0) → Result T Failure → Type 0
  Continues (Ok value) Next result = Next value result
  Continues (Err failure) Next result = result ≡ Err failure

  -- a step is taken first, and then what comes after it
  pub record After (IsStep : Result A Failure → Type 0) (Next : A → Result T Failure → Type 0) (result : Result T Failure) : Type 0 where
    pub step : Result A Failure
    pub is : IsStep step
    pub next : Continues step Next result
