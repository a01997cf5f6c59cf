-- The summary of the page is told in one way: each part depends on values alone.
use Rattle.std.proofs.Common.{◌≡◌, ℕ, ◌++◌, ◌∙◌, List, [], ◌∷◌, ap, codes, map, refl, sym}
use Rattle.std.specs.Prelude.{All}
use Rattle.desk_core.specs.Listing.{HeldFile}
use Rattle.desk_core.specs.Standing.{Standing}
use Rattle.desk_core.specs.declared.proposal.Proposal.{Proposal}
use Rattle.desk_policy.specs.Policy.{Content}
use Rattle.desk_tables.specs.declared.filesystems.Mount.{Mount}
use Rattle.page_data.specs.Unique.{WhatIsFoundIsUnique}
use Rattle.page_html.specs.Blocks.{tag_html}
use Rattle.page_html.specs.Tables.{rows_html, table_start}
use Rattle.page_html.specs.Titles.{Said}
use Rattle.page_html.specs.declared.blocks.Tag.TheVariants.{TableEnd}
use Rattle.page_findings.specs.Figures.{grants_nothing, is_for_everybody, is_writable_by_everybody, keeps_root_for_networks, keeps_root_for_some}
use Rattle.page_findings.specs.Flavours.{UseValue}
use Rattle.page_findings.specs.Lines.{LineValue}
use Rattle.page_findings.specs.UniqueLaws.{AreAlike, HasFewFlavours, LinesAreToldInOneWay}
use Rattle.page_findings.proofs.Alike.{as_many_alike, counted_alike}
use Rattle.page_findings.proofs.Mapped.{map_twice}
use Rattle.page_lists.specs.Digests.{text_digest}
use Rattle.page_lists.specs.UniqueLaws.{ListsAreToldInOneWay}
use Rattle.page_lists.proofs.Lent.{lend}
use Rattle.page_summary.specs.FlavoursRows.{AreFlavoursRows, row_of, row_value}
use Rattle.page_summary.specs.FlavoursTable.{cells, flavours_frame, flavours_table, row_cells}
use Rattle.page_summary.specs.Header as of_header
use Rattle.page_summary.specs.KeyFigures.{AreKeyFigures}
use Rattle.page_summary.specs.State.{IsStateDigest, state_text}
use Rattle.page_summary.specs.UniqueLaws.{SummaryIsToldInOneWay}
use Rattle.page_summary.specs.declared.figures.KeyFigures.{KeyFigures}
use Rattle.page_summary.specs.declared.flavours.FlavoursRow.{FlavoursRow}
use Rattle.page_summary.specs.declared.header.Header.{Header}
use Rattle.page_summary.proofs.UniqueFindings.{one_text_of_findings}
use Rattle.page_summary.proofs.UniqueOverview.{one_overview}

-- ---- the state, and the header

one_digest : ListsAreToldInOneWay → (standing : Standing) (digest other : List ℕ) → IsStateDigest standing digest → IsStateDigest standing other → digest ≡ other
one_digest lists standing digest other is its =
    is.digest_is ∙ ap (λ (files : List HeldFile). text_digest (state_text files)) (lists.held standing is.files its.files is.are its.are) ∙ sym its.digest_is

one_header : (told other : Header) → told.database.now ≡ other.database.now → told.revisions ≡ other.revisions → told.files ≡ other.files
    → told.state.now ≡ other.state.now → of_header.header told ≡ of_header.header other
one_header told other database revisions files state =
    λ i. of_header.header (record { database = lend (database i); revisions = revisions i; files = files i; state = lend (state i) })

-- ---- key figures

one_list_of_figures : LinesAreToldInOneWay → (content : Content) (lines others : List LineValue) (proposals : List Proposal) (counted other : KeyFigures) → AreAlike lines others
    → AreKeyFigures content lines proposals counted → AreKeyFigures content others proposals other → counted ≡ other
one_list_of_figures law content lines others proposals counted other alike are its =
    λ i. record {
      systems = (are.systems ∙ sym its.systems) i;
      guarded = (are.guarded ∙ sym its.guarded) i;
      lines = (are.all ∙ as_many_alike lines others alike ∙ sym its.all) i;
      directories = law.directories lines others counted.directories other.directories alike are.directories its.directories i;
      for_everybody = (are.for_everybody ∙ counted_alike is_for_everybody lines others (λ line. refl) alike ∙ sym its.for_everybody) i;
      writable = (are.writable ∙ counted_alike is_writable_by_everybody lines others (λ line. refl) alike ∙ sym its.writable) i;
      root_kept = (are.root_kept ∙ counted_alike keeps_root_for_some lines others (λ line. refl) alike ∙ sym its.root_kept) i;
      root_for_many = (are.root_for_many ∙ counted_alike keeps_root_for_networks lines others (λ line. refl) alike ∙ sym its.root_for_many) i;
      idle = (are.idle ∙ counted_alike grants_nothing lines others (λ line. refl) alike ∙ sym its.idle) i;
      warnings = (are.warnings ∙ sym its.warnings) i;
      proposals = (are.waiting ∙ sym its.waiting) i;
    }

-- ---- flavours

cells_of : (rows : List FlavoursRow) (table : List Mount) (uses : List UseValue) → map row_value rows ≡ map (row_of table) uses
    → map row_cells rows ≡ map cells (map (row_of table) uses)
cells_of rows table uses told = sym (map_twice row_value cells rows) ∙ ap (map cells) told

one_flavours_table : LinesAreToldInOneWay → (table : List Mount) (lines others : List LineValue) (rows other_rows : List FlavoursRow) → AreAlike lines others
    → All HasFewFlavours lines → AreFlavoursRows table lines rows → AreFlavoursRows table others other_rows → flavours_table rows ≡ flavours_table other_rows
one_flavours_table law table lines others rows other_rows alike few are its =
    let uses = law.flavours lines others are.uses its.uses alike few are.are its.are in
    let same : map row_cells rows ≡ map row_cells other_rows =
    cells_of rows table are.uses are.told ∙ ap (λ some. map cells (map (row_of table) some)) uses ∙ sym (cells_of other_rows table its.uses its.told) in
    λ i. table_start flavours_frame (Said (codes "Security flavours of the lines that grant") ∷ []) ++ rows_html flavours_frame (same i) ++ tag_html TableEnd

pub summary_is_told_in_one_way : WhatIsFoundIsUnique → LinesAreToldInOneWay → ListsAreToldInOneWay → SummaryIsToldInOneWay
summary_is_told_in_one_way unique law lists = record {
  state = one_digest lists;
  heading = one_header;
  figures = one_list_of_figures law;
  findings = one_text_of_findings law;
  flavours = one_flavours_table law;
  overview = one_overview unique;
}
