-- What stands around the groups of directories. (this project's own)
use Rattle.std.specs.Prelude.{ℕ, ◌==◌, ◌&&◌, Bool, List, [], ◌∷◌, ◌++◌, codes, nat_lt, not, if◌then◌else◌}
use Rattle.page_html.specs.Blocks.{element_html}
use Rattle.page_html.specs.Items.{Item, Number, Own, Word, Words}
use Rattle.page_html.specs.declared.blocks.Element.TheVariants.{Cut, PlacesHeading}
use Rattle.page_places.specs.Names.{more_directories}

-- groups have no maps of their own, if there are more than twelve
abbrev pub not_drawn : ℕ → List ℕ
not_drawn count =
    if nat_lt 12 count
    then element_html Cut (Own (Words (codes "Maps of the single directories are not drawn: there are ")) ∷ Own (Number count) ∷ Own (Words (codes " lists.")) ∷ [])
    else []

abbrev pub groups_start : ℕ → List ℕ
groups_start count = element_html PlacesHeading (Own (Words (codes "Who may mount which directory")) ∷ []) ++ not_drawn count

-- how many directories are not listed, and whether the other directories are
abbrev pub directories : ℕ → Item (List ℕ)
directories count = if count == 0 then Own (Words (codes "other directories")) else more_directories count

abbrev pub and_others : ℕ → Bool → List ℕ
and_others count has_others = if count == 0 then [] else if has_others then codes " and other directories" else []

abbrev pub unlisted : ℕ → Bool → List (Item (List ℕ))
unlisted count has_others =
    Own (Words (codes "Not listed here: ")) ∷ directories count ∷ Own (Words (and_others count has_others)) ∷ Own (Words (codes "; "))
    ∷ Own (Word (codes "exportdesk who")) ∷ Own (Words (codes " answers for each.")) ∷ []

abbrev pub not_listed : ℕ → Bool → List ℕ
not_listed count has_others = if count == 0 && not has_others then [] else element_html Cut (unlisted count has_others)
