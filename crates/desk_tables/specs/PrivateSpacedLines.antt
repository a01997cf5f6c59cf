-- What the private contracts of the words of a line cite.
use Rattle.std.specs.Prelude.{ℕ, ◌==◌, not, List, length, filter}
use Rattle.std.specs.List.{slice_split}

-- the words of a text without spaces: what is between its tabs
abbrev pub words_between_tabs : List ℕ → List (List ℕ)
words_between_tabs text = filter (λ word. not (length word == 0)) (slice_split (λ b. b == 9) text)
