-- What is printed of a rule, or of a kind of warning. (this project's own)
use Rattle.std.specs.Prelude.{ℕ, List}

-- its number in a list of such, its name, and what is said of the slice that is at fault or odd, or of a line
pub record Said : Type 0 where
  pub number : ℕ
  pub name : List ℕ
  pub sentence : List ℕ

abbrev pub row : ℕ → List ℕ → List ℕ → Said
row number name sentence = record { number = number; name = name; sentence = sentence }
