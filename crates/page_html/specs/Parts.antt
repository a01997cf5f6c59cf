-- The parts as the program lends them: `&'static str` is a word of the page's own, and each other text is a site's. (this project's own)
use Rattle.std.specs.Prelude.{ℕ, List, map}
use Rattle.desk_text.specs.Address.{number_of}
use Rattle.page_html.specs.Images.{image_html}
use Rattle.page_html.specs.Items.{Item, Words, Strong, Zero, Small, Word, Badge, Level, Link, Nothing, Space, Break, NewLine, Number, Digits, Plural, PartOf, AndMore, SmallCount, SmallPlural, SmallPercent, LineLink, Drawn, Network, Range, Ranges, Terms, Flavours, FlavourNames, Own, Text, Code, Digest, Codes, SomeCodes, Line, System, SystemLine}
use Rattle.page_html.specs.declared.parts.Part.{Part}
use Rattle.page_html.specs.declared.parts.Part.TheVariants as lent

-- a part by value
abbrev pub item_of : Part → Item (List ℕ)
item_of (lent.Words words) = Own (Words words.now)
item_of (lent.Strong words) = Own (Strong words.now)
item_of (lent.Zero words) = Own (Zero words.now)
item_of (lent.Small words) = Own (Small words.now)
item_of (lent.Word words) = Own (Word words.now)
item_of (lent.Badge class words) = Own (Badge class.now words.now)
item_of (lent.Level class words) = Own (Level class.now words.now)
item_of (lent.Link place words) = Own (Link place.now words.now)
item_of lent.Nothing = Own Nothing
item_of lent.Space = Own Space
item_of lent.Break = Own Break
item_of lent.NewLine = Own NewLine
item_of (lent.Number n) = Own (Number n)
item_of (lent.Digits n) = Own (Digits n)
item_of (lent.Plural count one more) = Own (Plural count one.now more.now)
item_of (lent.PartOf count whole) = Own (PartOf count whole)
item_of (lent.AndMore count) = Own (AndMore count)
item_of (lent.SmallCount count words) = Own (SmallCount count words.now)
item_of (lent.SmallPlural count one more) = Own (SmallPlural count one.now more.now)
item_of (lent.SmallPercent count whole) = Own (SmallPercent count whole)
item_of (lent.LineLink fs line) = Own (LineLink fs.0 line)
item_of (lent.Drawn drawn) = Own (Drawn (image_html drawn.now))
item_of (lent.Network first prefix) = Own (Network (number_of first) prefix)
item_of (lent.Range span) = Own (Range span)
item_of (lent.Ranges spans) = Own (Ranges spans.now)
item_of (lent.Terms terms) = Own (Terms terms.now)
item_of (lent.Flavours flavours) = Own (Flavours flavours.now)
item_of (lent.FlavourNames flavours) = Own (FlavourNames flavours.now)
item_of (lent.Text text) = Text text.now
item_of (lent.Code text) = Code text.now
item_of (lent.Digest text) = Digest text.now
item_of (lent.Codes texts) = Codes texts.now
item_of (lent.SomeCodes most texts) = SomeCodes most texts.now
item_of (lent.Line line) = Line line.now
item_of (lent.System fs name) = System fs.0 name.now
item_of (lent.SystemLine fs name line) = SystemLine fs.0 name.now line

abbrev pub items_of : List Part → List (Item (List ℕ))
items_of parts = map item_of parts
