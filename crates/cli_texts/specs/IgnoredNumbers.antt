-- The numbers of the warnings that `check` ignores. (this project's own)
use Rattle.std.specs.Prelude.{◌≡◌, ℕ, Bool, true, false, List, Option, Some, None, Result, Ok, Err, codes}
use Rattle.desk_check.specs.IgnoredWarnings.{are_warnings, numbers_in}
use Rattle.cli_output.specs.Failure.{IsRefusal}
use Rattle.cli_output.specs.declared.bad_argument.ArgumentFault.TheVariants as fault
use Rattle.cli_output.specs.declared.failure.Failure.{Failure}
use Rattle.cli_output.specs.declared.failure.Failure.TheVariants.{Memory}

-- the failure names `--ignore`, whose word does not list numbers of warnings, each once; out of memory says nothing
abbrev pub IsNotIgnored : List ℕ → Bool → Failure → Type 0
IsNotIgnored word true failure = failure ≡ Memory
IsNotIgnored word false failure = IsRefusal (codes "--ignore") word fault.Warnings failure

-- the numbers that the word lists; or it does not list numbers of warnings, each once
abbrev pub ReadsNumbers : List ℕ → Result (List ℕ) Failure → Type 0
ReadsNumbers word (Ok numbers) = (are_warnings (numbers_in word) ≡ true) × (numbers ≡ numbers_in word)
ReadsNumbers word (Err failure) = IsNotIgnored word (are_warnings (numbers_in word)) failure

-- the numbers of the warnings that are ignored, if some are; or why the word lists none
abbrev pub ReadsIgnored : Option (List ℕ) → Result (Option (List ℕ)) Failure → Type 0
ReadsIgnored None result = result ≡ Ok None
ReadsIgnored (Some word) (Ok None) = ⊥
ReadsIgnored (Some word) (Ok (Some numbers)) = ReadsNumbers word (Ok numbers)
ReadsIgnored (Some word) (Err failure) = ReadsNumbers word (Err failure)
