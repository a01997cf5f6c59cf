-- What stands out of the lines of a file system. (this project's own)
use Rattle.std.specs.Prelude.{ℕ, ◌==◌, List, [], ◌∷◌, ◌++◌, codes, length, if◌then◌else◌}
use Rattle.std.specs.List.{flat_map}
use Rattle.page_html.specs.Blocks.{element_html, tag_html}
use Rattle.page_html.specs.Items.{Item, LineLink, Own, Words}
use Rattle.page_html.specs.declared.blocks.Element.TheVariants.{Entry}
use Rattle.page_html.specs.declared.blocks.Tag.TheVariants.{FindingsStart, ListEnd}
use Rattle.page_findings.specs.Badges.{level_item}
use Rattle.page_findings.specs.FindingWords.{FindingValue, finding_items, finding_value}
use Rattle.page_findings.specs.declared.finding_words.Finding.{Finding}

-- the entry of a line: its level, a link to it, and why it stands out
abbrev pub entry_items : FindingValue → List (Item (List ℕ))
entry_items finding =
    level_item finding.level ∷ Own (Words (codes " ")) ∷ Own (LineLink finding.fs finding.line) ∷ Own (Words (codes ": "))
    ∷ finding_items finding

abbrev pub entry : FindingValue → List ℕ
entry finding = element_html Entry (entry_items finding)

unfoldable pub entries : List Finding → List ℕ
entries findings = flat_map (λ finding. entry (finding_value finding)) findings

-- The lines that stand out, if there are any.
abbrev pub findings_list : List Finding → List ℕ
findings_list findings = if length findings == 0 then [] else tag_html FindingsStart ++ entries findings ++ tag_html ListEnd
