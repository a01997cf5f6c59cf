-- How the page can be made again. (this project's own)
use Rattle.std.specs.Prelude.{ℕ, List, [], ◌∷◌, ◌++◌, codes}
use Rattle.page_html.specs.Blocks.{element_html}
use Rattle.page_html.specs.Items.{NewLine, Words, Own, Text}
use Rattle.page_html.specs.declared.blocks.Element.TheVariants.{Commands, Heading, Paragraph}
use Rattle.page_lists.specs.Shell.{shell_word}

abbrev pub heading : List ℕ
heading = element_html Heading (Own (Words (codes "Make it again, and compare")) ∷ [])

-- the command that makes the page, the one that compares it, and the one that gives the digest of a text
abbrev pub commands : List ℕ → List ℕ
commands word =
    element_html Commands
    (Own (Words (codes "exportdesk report ")) ∷ Text word ∷ Own (Words (codes " >report.html")) ∷ Own NewLine
    ∷ Own (Words (codes "exportdesk report ")) ∷ Text word ∷ Own (Words (codes " | cmp - report.html")) ∷ Own NewLine
    ∷ Own (Words (codes "exportdesk cat ")) ∷ Text word ∷ Own (Words (codes " exports:MOUNT | sha256sum")) ∷ [])

-- what is said of them
abbrev pub same : List ℕ
same =
    element_html Paragraph
    (Own (Words (codes "The page has no date and no name of a machine: one version of exportdesk makes the same page, to the byte, of the same state and the same name of the database.")) ∷ [])

abbrev pub again : List ℕ → List ℕ
again word = heading ++ commands word ++ same

-- with the word that a shell takes for that of the database
abbrev pub make_again : List ℕ → List ℕ
make_again database = again (shell_word database)
