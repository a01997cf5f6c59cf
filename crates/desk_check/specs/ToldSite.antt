-- The finding that standard error tells beside the fault of a site: the one that `check` prints. (this project's own)
use Rattle.std.specs.Prelude.{◌≡◌, ℕ, false, List, [], ◌∷◌, Option, Some, slice_get}
use Rattle.desk_text.specs.declared.address.Addr.{Addr}
use Rattle.desk_exports.specs.declared.profile.Profile.{Profile}
use Rattle.desk_policy.specs.declared.site_fault.SiteFault.{SiteFault}
use Rattle.desk_policy.specs.declared.site_fault.SiteRule.{SiteRule}
use Rattle.desk_policy.specs.declared.site_fault.SiteRule.TheVariants as site_rule
use Rattle.desk_findings.specs.CheckOdd.{TellInOrder}
use Rattle.desk_findings.specs.CheckSite.{GathersSite}
use Rattle.desk_findings.specs.OneSiteFault.{TellLine, odd_of_clash}
use Rattle.desk_findings.specs.declared.check_faults.Source.{Source}
use Rattle.desk_findings.specs.declared.check_site.SiteSources.{SiteSources}
use Rattle.desk_findings.specs.declared.check_text.Gathered.{Gathered}
use Rattle.desk_check.specs.ToldFault.{TellsFirst, told_text}

-- The first finding of a site's files, as `check` prints it.
pub record TellsOfTables (sources : SiteSources) (text : List ℕ) : Type 0 where
  pub gathered : Gathered
  pub gathers : GathersSite false sources gathered
  pub are : text ≡ told_text (slice_get gathered.findings 0)

-- a contradiction is told on its line
abbrev pub TellsOfClash : Source → ℕ → Option ℕ → Option Addr → List ℕ → Type 0
TellsOfClash source line (Some other) (Some address) text = TellsFirst (TellInOrder source (odd_of_clash line other address ∷ [])) text
TellsOfClash source line other address text = text ≡ []

abbrev pub TellsByRule : SiteRule → Profile → SiteSources → SiteFault → List ℕ → Type 0
TellsByRule (site_rule.Table rule) profile sources fault text = TellsOfTables sources text
TellsByRule (site_rule.Group rule) profile sources fault text = TellsOfTables sources text
TellsByRule (site_rule.Line rule) profile sources fault text = TellsFirst (TellLine profile sources (record { line = fault.line; rule = rule })) text
TellsByRule site_rule.Contradiction profile sources fault text = TellsOfClash sources.whole.exports fault.line fault.other fault.address text

-- What is told of the fault of a site: of a table's the first finding of the site's files, of a line that of this fault of its
-- exports file, which is read by this profile, and of a contradiction that of its line.
abbrev pub TellsOfSite : Profile → SiteSources → SiteFault → List ℕ → Type 0
TellsOfSite profile sources fault text = TellsByRule fault.rule profile sources fault text
