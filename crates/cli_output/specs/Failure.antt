-- Why a command has no answer. (this project's own)
use Rattle.std.specs.Prelude.{◌≡◌, ℕ, List}
use Rattle.std.specs.String.{string_bytes}
use Rattle.cli_output.specs.declared.bad_argument.ArgumentFault.{ArgumentFault}
use Rattle.cli_output.specs.declared.failure.Failure.{Failure}
use Rattle.cli_output.specs.declared.failure.Failure.TheVariants.{Argument, File, FirstLine, Memory, Missing}
use Rattle.cli_output.specs.declared.failure.ReadFailure.{ReadFailure}
use Rattle.cli_output.specs.declared.failure.ReadFailure.TheVariants.{System, Text, Mounts}

-- the failure names this argument, as the usage does, with its word and the fault; out of memory says nothing
abbrev pub IsRefusal : List ℕ → List ℕ → ArgumentFault → Failure → Type 0
IsRefusal argument word found (Argument bad) = (bad.argument.now ≡ argument) × (string_bytes bad.word ≡ word) × (bad.fault ≡ found)
IsRefusal argument word found Memory = Unit {0}
IsRefusal argument word found failure = ⊥

-- the failure says that this argument is missing
abbrev pub IsMissing : List ℕ → Failure → Type 0
IsMissing argument (Missing named) = named.now ≡ argument
IsMissing argument failure = ⊥

-- the failure names this file, by the argument that names it, and why it could not be read; out of memory says nothing
abbrev pub IsFileFailure : List ℕ → List ℕ → ReadFailure → Failure → Type 0
IsFileFailure argument word reason (File named name found) = (named.now ≡ argument) × (string_bytes name ≡ word) × (found ≡ reason)
IsFileFailure argument word reason Memory = Unit {0}
IsFileFailure argument word reason failure = ⊥

-- why the system could not read
abbrev pub IsSystem : ReadFailure → Type 0
IsSystem (System error) = Unit {0}
IsSystem (Text fault) = ⊥
IsSystem (Mounts fault) = ⊥

-- the failure says that the system could not read the first line; out of memory says nothing
abbrev pub IsUnreadLine : Failure → Type 0
IsUnreadLine (FirstLine reason) = IsSystem reason
IsUnreadLine Memory = Unit {0}
IsUnreadLine failure = ⊥

-- the failure says that the system could not read the file of this argument and word; out of memory says nothing
abbrev pub IsUnread : List ℕ → List ℕ → Failure → Type 0
IsUnread argument word (File named name reason) = (named.now ≡ argument) × (string_bytes name ≡ word) × IsSystem reason
IsUnread argument word Memory = Unit {0}
IsUnread argument word failure = ⊥
