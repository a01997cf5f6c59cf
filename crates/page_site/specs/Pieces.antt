-- Texts that a page gains, one after the other. (this project's own)
use Rattle.std.specs.Prelude.{◌≡◌, ℕ, ◌++◌, List}

-- just these words
abbrev pub Just : List ℕ → List ℕ → Type 0
Just words text = text ≡ words

-- the words of some value of which this holds
pub record Told {A : Type 0} (Is : A → Type 0) (words : A → List ℕ) (text : List ℕ) : Type 0 where
  pub value : A
  pub is : Is value
  pub text_is : text ≡ words value

-- one text, and another behind it
pub record Then (First Second : List ℕ → Type 0) (text : List ℕ) : Type 0 where
  pub first : List ℕ
  pub second : List ℕ
  pub is_first : First first
  pub is_second : Second second
  pub text_is : text ≡ first ++ second

-- a page gains a text of which this holds
pub record Gains (Is : List ℕ → Type 0) (old new : List ℕ) : Type 0 where
  pub text : List ℕ
  pub is : Is text
  pub added : new ≡ old ++ text
