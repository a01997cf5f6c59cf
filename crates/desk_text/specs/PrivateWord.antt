-- What the private contracts of the words cite: how far the first atom of a text goes, and its first word.
use Rattle.std.specs.Prelude.{◌≡◌, ℕ, ◌<◌, ◌≤◌, ◌==◌, Bool, Option, None, Some, true, false, List, ◌∷◌, ◌++◌, length, take, drop, slice_index}
use Rattle.std.specs.List.{flat_map, AllByRecursion}
use Rattle.desk_text.specs.Bytes.{is_blank}
use Rattle.desk_text.specs.Word.{Atom, atoms, atom_text, is_quote, is_separator, is_unclosed}

-- the first n bytes of a text are its first atom
pub record IsAtomLen (text : List ℕ) (n : ℕ) : Type 0 where
  pub atom : Atom
  pub reads : atoms text ≡ atom ∷ atoms (drop n text)
  pub written : atom_text atom ≡ take n text
  pub closed : is_unclosed atom ≡ false
  pub joined : is_blank (slice_index text 0) ≡ false → is_separator atom ≡ false
  pub some : 0 < n
  pub within : n ≤ length text

-- an atom of a word
pub record IsOfWord (atom : Atom) : Type 0 where
  pub closed : is_unclosed atom ≡ false
  pub joined : is_separator atom ≡ false

-- the first n bytes of a text are atoms of one word
pub record IsRun (text : List ℕ) (n : ℕ) : Type 0 where
  pub run : List Atom
  pub reads : atoms text ≡ run ++ atoms (drop n text)
  pub written : flat_map atom_text run ≡ take n text
  pub each : AllByRecursion IsOfWord run
  pub within : n ≤ length text

-- and the word ends there
pub record IsWordLen (text : List ℕ) (n : ℕ) : Type 0 where
  pub is_run : IsRun text n
  pub some : 0 < n
  pub ends : n < length text → is_blank (slice_index text n) ≡ true

-- a bare character that ends the quote that is open, or opens one
abbrev pub is_mark : Option ℕ → ℕ → Bool
is_mark None c = is_quote c
is_mark (Some p) c = c == p
