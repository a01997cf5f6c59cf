-- The names of directories that are granted alike. (this project's own)
use Rattle.std.specs.Prelude.{ℕ, ◌==◌, Bool, true, false, List, [], ◌∷◌, ◌++◌, codes, drop, fold, length, map, not, take, if◌then◌else◌}
use Rattle.std.specs.Borrow.{Bor}
use Rattle.std.specs.List.{flat_map}
use Rattle.desk_text.specs.Path.{path_text}
use Rattle.desk_impact.specs.Places.{Directory, Others, Place}
use Rattle.desk_impact.specs.Sections.{PlaceBreaches}
use Rattle.page_html.specs.Blocks.{element_html, tag_html}
use Rattle.page_html.specs.Items.{AndMore, Code, Item, Own, Plural, Words}
use Rattle.page_html.specs.Titles.{Further, Named, Said, Title}
use Rattle.page_html.specs.declared.blocks.Element.TheVariants.{Fold, Names, PlaceHeading}
use Rattle.page_html.specs.declared.blocks.Tag.TheVariants.{FoldEnd}
use Rattle.page_places.specs.declared.names.Members.{Members}

-- directories, and whether the other directories of their file system are with them
pub record MembersValue : Type 0 where
  pub directories : List (List (List ℕ))
  pub has_others : Bool

-- what is in a group, with one more place: no number counts the other directories
abbrev pub with_place : MembersValue → Place → MembersValue
with_place members (Directory path) = record { directories = members.directories ++ path ∷ []; has_others = members.has_others }
with_place members (Others mount) = record { directories = members.directories; has_others = true }

-- what is in a group with these places
abbrev pub members_of : List Place → MembersValue
members_of places = fold with_place (record { directories = []; has_others = false }) places

-- and with all verdicts at each of them
abbrev pub members_in : List PlaceBreaches → MembersValue
members_in sections = members_of (map (λ section. section.place) sections)

-- the name of a place
abbrev pub place_item : Place → Item (List ℕ)
place_item (Directory path) = Code (path_text path)
place_item (Others mount) = Own (Words (codes "other directories"))

-- names with commas between them
abbrev pub later : List (List ℕ) → List (Title (List ℕ))
later path = Said (codes ", ") ∷ Named (path_text path) ∷ []

abbrev pub names : List (List (List ℕ)) → List (Title (List ℕ))
names [] = []
names (first ∷ others) = Named (path_text first) ∷ flat_map later others

-- the other directories, if they are in a group, behind other names or alone
abbrev pub others_words : Bool → Bool → List ℕ
others_words has_others is_alone =
    if not has_others then [] else if is_alone then codes "other directories" else codes ", other directories"

-- what is in a group: so many of its directories, how many it has more, and the other directories, if they are in it
abbrev pub group_words : ℕ → MembersValue → List (Title (List ℕ))
group_words most members =
    names (take most members.directories) ++ Further (length (drop most members.directories))
    ∷ Said (others_words members.has_others (length members.directories == 0)) ∷ []

-- what the table of a group is called
abbrev pub caption : MembersValue → List (Title (List ℕ))
caption members = Said (codes "Who may mount ") ∷ group_words 3 members

-- the same words in an element
abbrev pub shown : Title (List ℕ) → Item (List ℕ)
shown (Said words) = Own (Words words)
shown (Named name) = Code name
shown (Further count) = Own (AndMore count)

-- names that are folded
abbrev pub more_directories : ℕ → Item (List ℕ)
more_directories count = Own (Plural count (codes "more directory") (codes "more directories"))

abbrev pub folded : List (List (List ℕ)) → List ℕ
folded paths =
    element_html Fold (more_directories (length paths) ∷ []) ++ element_html Names (map shown (names paths)) ++ tag_html FoldEnd

abbrev pub left_out : List (List (List ℕ)) → List ℕ
left_out [] = []
left_out (first ∷ others) = folded (first ∷ others)

-- the heading of a group, and the names that it leaves out
abbrev pub heading : MembersValue → List ℕ
heading members = element_html PlaceHeading (map shown (group_words 8 members)) ++ left_out (drop 8 members.directories)

-- lent paths by value
abbrev pub paths_in : List (Bor (List (List ℕ))) → List (List (List ℕ))
paths_in paths = map (λ path. path.now) paths

-- what is in a group, by value
abbrev pub members_value : Members → MembersValue
members_value members = record { directories = paths_in members.directories; has_others = members.has_others }
