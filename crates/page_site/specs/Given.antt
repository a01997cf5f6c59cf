-- What a page is given, by value. (this project's own)
use Rattle.std.specs.Prelude.{map}
use Rattle.desk_text.specs.Lines.{IsReadable}
use Rattle.desk_policy.specs.Policy.{Content}
use Rattle.page_data.specs.Opening.{opening_section}
use Rattle.page_site.specs.FoundInSite.{Source}
use Rattle.page_site.specs.WaitingProposals.{Waiting, waiting_value}
use Rattle.page_site.specs.declared.page.ReportedSite.{ReportedSite}

-- what a page is made of
abbrev pub site_source : {V : Type 0} → (V → Content) → ReportedSite V → Source
site_source in_force site = record {
  content = in_force site.view.now;
  tables = site.tables.now;
  heads = site.heads.now;
  proposals = site.proposals.now;
  waiting = map (waiting_value in_force) site.waiting.now;
  openings = map opening_section site.openings.now;
}

-- the text of a proposal that waits is not too long to be read
abbrev pub HasReadableText : Waiting → Type 0
HasReadableText waiting = IsReadable waiting.proposal.body
