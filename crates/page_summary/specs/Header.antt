-- The header of the page. (this project's own)
use Rattle.std.specs.Prelude.{ℕ, List, [], ◌∷◌, ◌++◌, codes}
use Rattle.page_html.specs.Blocks.{element_html, tag_html}
use Rattle.page_html.specs.Items.{Code, Own, Plural, Words}
use Rattle.page_html.specs.declared.blocks.Element.TheVariants.{Paragraph, State, Title}
use Rattle.page_html.specs.declared.blocks.Tag.TheVariants.{HeaderStart}
use Rattle.page_summary.specs.declared.header.Header.{Header}
use Rattle.page_summary.specs.declared.header.TheConstants.{LINKS}

-- the title, with the word for the database, and what the page is made of
abbrev pub title : List ℕ → List ℕ
title database = element_html Title (Own (Words (codes "Who may mount what: ")) ∷ Code database ∷ [])

abbrev pub scope : List ℕ
scope =
    element_html Paragraph
    (Own (Words (codes "By the newest revisions in the database, for each of the 4,294,967,296 IPv4 addresses and every directory.")) ∷ [])

-- how many revisions and files the database has, and the digest of its state
abbrev pub state : Header → List ℕ
state told =
    element_html State
    (Own (Plural told.revisions (codes "revision") (codes "revisions")) ∷ Own (Words (codes " in "))
    ∷ Own (Plural told.files (codes "file") (codes "files")) ∷ Own (Words (codes ". State ")) ∷ Code told.state.now ∷ [])

-- the end of the header, and the links to the parts of the page
unfoldable pub links : List ℕ
links = LINKS.now

-- the header, and the links
abbrev pub header : Header → List ℕ
header told = tag_html HeaderStart ++ title told.database.now ++ scope ++ state told ++ links
