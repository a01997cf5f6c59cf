-- What is said of a line beside the text of a file. (this project's own)
use Rattle.std.specs.Prelude.{ℕ, ◌==◌, Bool, false, List, [], ◌∷◌, Option, Some, None, codes, find, if◌then◌else◌}
use Rattle.page_html.specs.Items.{Item, Nothing, Number, Own, Strong, Words, Zero}
use Rattle.page_findings.specs.Badges.{badge_item}
use Rattle.page_filesystem.specs.declared.gutter.Note.{Note}
use Rattle.page_filesystem.specs.declared.gutter.Said.{Said}
use Rattle.page_filesystem.specs.declared.gutter.Told.{Told}
use Rattle.page_filesystem.specs.declared.gutter.Said.TheVariants.{Grants, MatchesNobody, NeverDecides}

-- whether a line is for everybody
abbrev pub everybody : Bool → List (Item (List ℕ))
everybody for_everybody = if for_everybody then Own (Words (codes " ")) ∷ Own (Strong (codes "everybody")) ∷ [] else Own Nothing ∷ Own Nothing ∷ []

-- what a line does
abbrev pub does : Said → List (Item (List ℕ))
does (Grants class for_everybody count) = badge_item class ∷ everybody for_everybody
does MatchesNobody = Own (Strong (codes "matches nobody")) ∷ everybody false
does NeverDecides = Own (Strong (codes "never decides")) ∷ everybody false

-- the same of a logical line, which may be not read
abbrev pub told_items : Option Told → List (Item (List ℕ))
told_items None = Own (Zero (codes "not read")) ∷ everybody false
told_items (Some told) = does told.said

-- to how many addresses a line grants something, if it does
abbrev pub granted_to : Said → Item (List ℕ)
granted_to (Grants class for_everybody count) = Own (Number count)
granted_to MatchesNobody = Own Nothing
granted_to NeverDecides = Own Nothing

-- what a physical line does: nothing is said of those that begin no logical line
abbrev pub said_items : Option Note → List (Item (List ℕ))
said_items None = Own Nothing ∷ everybody false
said_items (Some note) = told_items note.told

-- what is told of a physical line, if it begins a logical line that is read
abbrev pub told_of : Option Note → Option Told
told_of None = None
told_of (Some note) = note.told

-- a part on a line of which something is told
abbrev pub if_told : (Told → Item (List ℕ)) → Option Told → Item (List ℕ)
if_told item None = Own Nothing
if_told item (Some told) = item told

abbrev pub count_item : Option Told → Item (List ℕ)
count_item told = if_told (λ one. granted_to one.said) told

-- a line stands out if its note says so
abbrev pub stands_out : Option Told → Bool
stands_out None = false
stands_out (Some told) = told.stands_out

-- the note on a line
abbrev pub note_on : List Note → ℕ → Option Note
note_on notes line = find (λ note. note.line == line) notes
