-- What the server grants of directories that are denied here. (this project's own)
use Rattle.std.specs.Prelude.{ℕ, ◌==◌, List, [], ◌∷◌, ◌++◌, codes, drop, length, take, if◌then◌else◌}
use Rattle.desk_text.specs.Address.{number_of}
use Rattle.desk_impact.specs.Places.{Place, place_of}
use Rattle.page_html.specs.Blocks.{element_html}
use Rattle.page_html.specs.Items.{AndMore, Item, LineLink, Own, Range, Words}
use Rattle.page_html.specs.declared.blocks.Element.TheVariants.{Paragraph}
use Rattle.page_findings.specs.Joining.{comma, joined}
use Rattle.page_places.specs.Names.{place_item}
use Rattle.page_places.specs.declared.openings.PlaceOpening.{PlaceOpening}

-- at a place the server grants the client of an address by a line what is denied, and the denial names another line
pub record OpeningValue : Type 0 where
  pub place : Place
  pub address : ℕ
  pub denied : ℕ
  pub line : ℕ

abbrev pub opening_value : PlaceOpening → OpeningValue
opening_value one = record { place = place_of one.place; address = number_of one.address; denied = one.denied; line = one.line }

-- the place, the client and the lines in words
abbrev pub opening_items : ℕ → PlaceOpening → List (Item (List ℕ))
opening_items fs one =
    place_item (place_of one.place) ∷ Own (Words (codes " to ")) ∷ Own (Range (record { first = one.address; last = one.address }))
    ∷ Own (Words (codes " by ")) ∷ Own (LineLink fs one.line) ∷ Own (Words (codes " (denied here by ")) ∷ Own (LineLink fs one.denied)
    ∷ Own (Words (codes ")")) ∷ []

-- some with commas between them: 6 at the most, and how many more there are
abbrev pub opening_list : ℕ → List PlaceOpening → List (Item (List ℕ))
opening_list fs openings = joined (opening_items fs) comma openings

abbrev pub told_items : ℕ → List PlaceOpening → List (Item (List ℕ))
told_items fs openings =
    Own (Words (codes "mountd(8) grants more: ")) ∷ opening_list fs (take 6 openings) ++ Own (AndMore (length (drop 6 openings))) ∷ []

-- What the server grants of the directories of a group, if it grants something.
abbrev pub openings_text : ℕ → List PlaceOpening → List ℕ
openings_text fs openings = if length openings == 0 then [] else element_html Paragraph (told_items fs openings)
