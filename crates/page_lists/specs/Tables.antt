-- What the tables of the lists have alike. (this project's own)
use Rattle.std.specs.Prelude.{ℕ, List, [], ◌∷◌, nat_le, if◌then◌else◌}
use Rattle.page_html.specs.Blocks.{element_html, tag_html}
use Rattle.page_html.specs.Items.{Item, Number, Plural, Own}
use Rattle.page_html.specs.declared.blocks.Element.TheVariants.{Fold}
use Rattle.page_html.specs.declared.blocks.Tag.TheVariants.{FoldEnd}

-- what stands before what is folded if there are more than so many, with how many there are, and behind it
abbrev pub long_start : ℕ → ℕ → List ℕ → List ℕ → List ℕ
long_start most count one more = if nat_le count most then [] else element_html Fold (Own (Plural count one more) ∷ [])

abbrev pub long_end : ℕ → ℕ → List ℕ
long_end most count = if nat_le count most then [] else tag_html FoldEnd

-- the number of a line or of a revision
abbrev pub number : ℕ → Item (List ℕ)
number n = Own (Number n)
