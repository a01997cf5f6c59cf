-- What comes of a proposal. (this project's own)
use Rattle.std.specs.Prelude.{ℕ, List, [], ◌∷◌, codes}
use Rattle.page_html.specs.Blocks.{element_html}
use Rattle.page_html.specs.Items.{Code, Item, Own, Words}
use Rattle.page_html.specs.declared.blocks.Element.TheVariants.{Paragraph}
use Rattle.page_places.specs.ChangeRows.{changes_block}
use Rattle.page_filesystem.specs.declared.outcomes.Outcome.{Outcome}
use Rattle.page_filesystem.specs.declared.outcomes.Outcome.TheVariants.{Changes, Refused}

-- why a proposal cannot be put in force: the fault of the site with it
abbrev pub refused : List ℕ → List (Item (List ℕ))
refused fault = Own (Words (codes "It cannot be put in force now: ")) ∷ Code fault ∷ Own (Words (codes ".")) ∷ []

-- What a proposal would change, or why it cannot be put in force.
abbrev pub outcome_text : Outcome → List ℕ
outcome_text (Changes rows silent) = changes_block rows.now silent
outcome_text (Refused fault) = element_html Paragraph (refused fault.now)
