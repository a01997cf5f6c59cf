-- The key figures that the page says of a site. (this project's own)
use Rattle.std.specs.Prelude.{◌≡◌, ℕ, List, count_by, length}
use Rattle.desk_policy.specs.Policy.{Content}
use Rattle.desk_core.specs.declared.proposal.Proposal.{Proposal}
use Rattle.page_findings.specs.Figures.{HasDirectories, grants_nothing, is_for_everybody, is_writable_by_everybody, keeps_root_for_networks, keeps_root_for_some}
use Rattle.page_findings.specs.Lines.{LineValue}
use Rattle.page_summary.specs.declared.figures.KeyFigures.{KeyFigures}

-- How many file systems there are, and how many of them are guarded; how many lines, and directories that they write; how many lines that
-- grant something are for everybody, and let them write; how many keep root, and not for names; how many grant nothing; and how many
-- words have a warning, and proposals wait, given the number of these.
pub record AreFiguresWith (content : Content) (lines : List LineValue) (proposals : ℕ) (figures : KeyFigures) : Type 0 where
  pub systems : figures.systems ≡ length content.table
  pub guarded : figures.guarded ≡ count_by (λ mount. mount.guarded) content.table
  pub all : figures.lines ≡ length lines
  pub directories : HasDirectories lines figures.directories
  pub for_everybody : figures.for_everybody ≡ count_by is_for_everybody lines
  pub writable : figures.writable ≡ count_by is_writable_by_everybody lines
  pub root_kept : figures.root_kept ≡ count_by keeps_root_for_some lines
  pub root_for_many : figures.root_for_many ≡ count_by keeps_root_for_networks lines
  pub idle : figures.idle ≡ count_by grants_nothing lines
  pub warnings : figures.warnings ≡ length content.warnings
  pub waiting : figures.proposals ≡ proposals

-- The same, given the proposals themselves.
abbrev pub AreKeyFigures : Content → List LineValue → List Proposal → KeyFigures → Type 0
AreKeyFigures content lines proposals figures = AreFiguresWith content lines (length proposals) figures
