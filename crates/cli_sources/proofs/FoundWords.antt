-- A word that is found, for the commands.
use Rattle.std.proofs.Common.{◌≡◌, ℕ, List, Option, Some, Result, subst, sym}
use Rattle.cli_output.specs.declared.failure.Failure.{Failure}
use Rattle.cli_words.specs.Words.{AnswersBy}

-- a word is found, and the answer is by it
pub by_found : {X T : Type 0} (name : List ℕ) (Answers : X → Result T Failure → Type 0) (found : Option X) (value : X) (result : Result T Failure) → found ≡ Some value → Answers value result → AnswersBy name found Answers result
by_found name Answers found value result is answers = subst (λ o. AnswersBy name o Answers result) (sym is) answers
