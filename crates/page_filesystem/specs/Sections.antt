-- The headings in the part on a file system. (this project's own)
use Rattle.std.specs.Prelude.{ℕ, List, [], ◌∷◌}
use Rattle.page_html.specs.Blocks.{element_html}
use Rattle.page_html.specs.Items.{Own, Words}
use Rattle.page_html.specs.declared.blocks.Element.TheVariants.{Subheading}

-- a heading of words
abbrev pub heading : List ℕ → List ℕ
heading words = element_html Subheading (Own (Words words) ∷ [])
