-- What clap's answer is for the program, for `commands::run_words`.
use Rattle.std.proofs.Common.{◌≡◌, ◌⊎◌, ℕ, List, Result, Ok, Err, subst, inl, inr}
use Rattle.clap.specs.Words.{IsAmong, Kinds}
use Rattle.clap.specs.declared.error.kind.ErrorKind.{ErrorKind}
use Rattle.clap.specs.declared.error.kind.ErrorKind.TheVariants.{OutOfMemory}
use Rattle.cli_output.specs.declared.failure.Failure.{Failure}
use Rattle.cli_output.specs.declared.failure.Failure.TheVariants.{Memory, Usage}
use Rattle.cli_output.specs.declared.printed.Printed.{Printed}
use Rattle.cli_words.specs.Commands.{AskForHelp, faults_of}
use Rattle.cli.specs.Commands.{IsNoCommand, IsSaid}

-- help is asked for by the words
asked : (words : List (List ℕ)) (kind : ErrorKind) (printed : Printed) → IsSaid kind (Ok printed) → (kind ≡ OutOfMemory) ⊎ IsAmong kind (faults_of words) → AskForHelp words
asked words kind printed (inl help, status) (inl memory) = absurd (cc)
asked words kind printed (inr version, status) (inl memory) = absurd (cc)
asked words kind printed (inl help, status) (inr among) = inl (subst (λ (k : ErrorKind). IsAmong k (faults_of words)) help among)
asked words kind printed (inr version, status) (inr among) = inr (subst (λ (k : ErrorKind). IsAmong k (faults_of words)) version among)

-- an error of clap is an answer to the words
pub said : (words : List (List ℕ)) (kind : ErrorKind) (result : Result Printed Failure) → IsSaid kind result → (kind ≡ OutOfMemory) ⊎ IsAmong kind (faults_of words) → IsNoCommand words result
said words kind (Ok printed) says fails = (asked words kind printed says fails, says.1)
said words kind (Err (Usage text)) says (inl memory) = absurd (says memory)
said words kind (Err (Usage text)) says (inr among) = λ none. subst (λ (kinds : Kinds). IsAmong kind kinds) none among
said words kind (Err Memory) says fails = tt
said words kind (Err failure) says fails = absurd says
