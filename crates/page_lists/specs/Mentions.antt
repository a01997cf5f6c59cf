-- What a cell of a table names. (this project's own)
use Rattle.std.specs.Prelude.{ℕ, ◌==◌, List, [], ◌∷◌, ◌++◌, codes, drop, length, take, if◌then◌else◌}
use Rattle.std.specs.List.{flat_map}
use Rattle.page_html.specs.Items.{AndMore, Item, Nothing, Words, Own, Code, System, SystemLine}
use Rattle.page_lists.specs.Uses.{MentionValue, OfGroup, OfHost, OfLine, OfSystem}

-- what is said before the name: that it is one of a netgroup which is a member of another one
abbrev pub kind : MentionValue → Item (List ℕ)
kind (OfSystem fs name) = Own Nothing
kind (OfLine fs name line) = Own Nothing
kind (OfHost name) = Own Nothing
kind (OfGroup name) = Own (Words (codes "group "))

-- the name, with a link to a file system or to a line of it
abbrev pub named : MentionValue → Item (List ℕ)
named (OfSystem fs name) = System fs name
named (OfLine fs name line) = SystemLine fs name line
named (OfHost name) = Code name
named (OfGroup name) = Code name

-- one that is named, and one behind another
abbrev pub mention : MentionValue → List (Item (List ℕ))
mention one = kind one ∷ named one ∷ []

abbrev pub later : MentionValue → List (Item (List ℕ))
later one = Own (Words (codes ", ")) ∷ mention one

-- all that are, with commas between
abbrev pub all_of : List MentionValue → List (Item (List ℕ))
all_of [] = []
all_of (first ∷ others) = mention first ++ flat_map later others

-- so many of them at the most, and how many more there are
abbrev pub some_of : ℕ → List MentionValue → List (Item (List ℕ))
some_of most mentions = all_of (take most mentions) ++ Own (AndMore (length (drop most mentions))) ∷ []

-- the same, or what is said if none are
abbrev pub some_or : ℕ → Item (List ℕ) → List MentionValue → List (Item (List ℕ))
some_or most nothing mentions = if length mentions == 0 then nothing ∷ [] else some_of most mentions
