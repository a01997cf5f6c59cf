-- The key figures of a site. (this project's own)
use Rattle.std.specs.Prelude.{ℕ, List, [], ◌∷◌, ◌++◌, codes, false}
use Rattle.page_html.specs.Blocks.{facts_html, tag_html}
use Rattle.page_html.specs.Items.{Item, Number, Own, OwnPart, Small, SmallCount, SmallPlural, Words}
use Rattle.page_html.specs.Tables.{Fact, Frame}
use Rattle.page_html.specs.declared.blocks.Tag.TheVariants.{SummaryStart}
use Rattle.page_summary.specs.declared.figures.KeyFigures.{KeyFigures}

-- the terms
abbrev pub figures_frame : Frame
figures_frame = record {
  class = codes "big";
  is_titled = false;
  columns =
      Fact (codes "File systems") ∷ Fact (codes "Lines") ∷ Fact (codes "Lines for everybody") ∷ Fact (codes "Lines that keep root")
      ∷ Fact (codes "Lines without effect") ∷ Fact (codes "Warnings") ∷ Fact (codes "Proposals") ∷ [];
}

-- a figure, and small words behind it
abbrev pub figure : ℕ → OwnPart → List (Item (List ℕ))
figure count small = Own (Number count) ∷ Own (Words (codes " ")) ∷ Own small ∷ []

-- how large the site is; what is granted to everybody, and where root is kept; and what else is counted
abbrev pub facts : KeyFigures → List (List (Item (List ℕ)))
facts counted =
    figure counted.systems (SmallCount counted.guarded (codes "guarded"))
    ∷ figure counted.lines (SmallPlural counted.directories (codes "directory written") (codes "directories written"))
    ∷ figure counted.for_everybody (SmallCount counted.writable (codes "without -ro"))
    ∷ figure counted.root_kept (SmallCount counted.root_for_many (codes "for networks or everybody"))
    ∷ figure counted.idle (Small (codes "they grant nothing; not counted in the two before"))
    ∷ figure counted.warnings (Small (codes "about words"))
    ∷ figure counted.proposals (Small (codes "not in force")) ∷ []

-- the beginning of the summary: all of them
abbrev pub figures : KeyFigures → List ℕ
figures counted = tag_html SummaryStart ++ facts_html figures_frame (facts counted)
