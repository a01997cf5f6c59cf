-- The parts of a page by value, and what they come to. (this project's own, over HTML)
use Rattle.std.specs.Prelude.{ℕ, List, [], codes}
use Rattle.std.specs.Fmt.{decimal}
use Rattle.std.specs.List.{flat_map}
use Rattle.desk_exports.specs.declared.entry.Flavour.{Flavour}
use Rattle.desk_exports.specs.declared.entry.Terms.{Terms as MountTerms}
use Rattle.page_html.specs.Escaping.{attribute, escaped}
use Rattle.page_html.specs.Numbers.{number}
use Rattle.page_html.specs.Pieces.{code, code_list, line_link, system_link}
use Rattle.page_html.specs.Ranges.{ends_of, network_text, range_text, ranges_text}
use Rattle.page_html.specs.Terms.{flavour_names, flavours_words, terms_words}
use Rattle.page_html.specs.declared.ranges.Span.{Span}
use Rattle.page_html.specs.PartAmounts.{more, part_of, plural}
use Rattle.page_html.specs.PartPieces.{badge, code_line, digest, level, link, small, small_count, small_percent, small_plural, some_codes, strong, system_line, word, zero}

-- a part that has no text of a site: words of the page's own, numbers, and what is made of them
pub data OwnPart : Type 0 where
  Words : List ℕ → OwnPart
  Strong : List ℕ → OwnPart
  Zero : List ℕ → OwnPart
  Small : List ℕ → OwnPart
  Word : List ℕ → OwnPart
  Badge : List ℕ → List ℕ → OwnPart
  Level : List ℕ → List ℕ → OwnPart
  Link : List ℕ → List ℕ → OwnPart
  Nothing : OwnPart
  Space : OwnPart
  Break : OwnPart
  NewLine : OwnPart
  Number : ℕ → OwnPart
  Digits : ℕ → OwnPart
  Plural : ℕ → List ℕ → List ℕ → OwnPart
  PartOf : ℕ → ℕ → OwnPart
  AndMore : ℕ → OwnPart
  SmallCount : ℕ → List ℕ → OwnPart
  SmallPlural : ℕ → List ℕ → List ℕ → OwnPart
  SmallPercent : ℕ → ℕ → OwnPart
  LineLink : ℕ → ℕ → OwnPart
  Drawn : List ℕ → OwnPart
  Network : ℕ → ℕ → OwnPart
  Range : Span → OwnPart
  Ranges : List Span → OwnPart
  Terms : MountTerms → OwnPart
  Flavours : List Flavour → OwnPart
  FlavourNames : List Flavour → OwnPart

-- A part, in which a site's texts are of a type. What is said for every such type does not look into a text.
pub data Item (T : Type 0) : Type 0 where
  Own : OwnPart → Item T
  Text : T → Item T
  Code : T → Item T
  Digest : T → Item T
  Codes : List T → Item T
  SomeCodes : ℕ → List T → Item T
  Line : T → Item T
  System : ℕ → T → Item T
  SystemLine : ℕ → T → ℕ → Item T

abbrev pub own_html : OwnPart → List ℕ
own_html (Words words) = attribute words
own_html (Strong words) = strong words
own_html (Zero words) = zero words
own_html (Small words) = small words
own_html (Word words) = word words
own_html (Badge class words) = badge class words
own_html (Level class words) = level class words
own_html (Link place words) = link place words
own_html Nothing = []
own_html Space = codes "&nbsp;"
own_html Break = codes "<br>"
own_html NewLine = codes "\n"
own_html (Number n) = number n
own_html (Digits n) = decimal n
own_html (Plural count one several) = plural count one several
own_html (PartOf count whole) = part_of count whole
own_html (AndMore count) = more count
own_html (SmallCount count words) = small_count count words
own_html (SmallPlural count one several) = small_plural count one several
own_html (SmallPercent count whole) = small_percent count whole
own_html (LineLink fs line) = line_link fs line
own_html (Drawn image) = image
own_html (Network first prefix) = network_text first prefix
own_html (Range span) = range_text (ends_of span)
own_html (Ranges spans) = ranges_text spans
own_html (Terms terms) = terms_words terms
own_html (Flavours flavours) = flavours_words flavours
own_html (FlavourNames flavours) = flavour_names flavours

-- a text of a site stands in `code`, alone only where all around it is in `code`
abbrev pub item_html : Item (List ℕ) → List ℕ
item_html (Own own) = own_html own
item_html (Text text) = escaped text
item_html (Code text) = code text
item_html (Digest text) = digest text
item_html (Codes texts) = code_list texts
item_html (SomeCodes most texts) = some_codes most texts
item_html (Line line) = code_line line
item_html (System fs name) = system_link fs name
item_html (SystemLine fs name line) = system_line fs name line

-- parts, one behind the other
unfoldable pub items_html : List (Item (List ℕ)) → List ℕ
items_html items = flat_map item_html items
