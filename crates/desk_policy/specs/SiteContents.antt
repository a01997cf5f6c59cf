-- What the texts of a site write: custodians, tables and policy. (this project's own)
use Rattle.std.specs.Prelude.{◌≡◌, Result, Ok, Err}
use Rattle.desk_text.specs.declared.reading.ReadError.{ReadError}
use Rattle.desk_text.specs.declared.reading.ReadError.TheVariants.{Fault, Memory}
use Rattle.desk_tables.specs.Custodians.{read_custodians}
use Rattle.desk_policy.specs.Parsing.{read_site, read_site_tables}
use Rattle.desk_policy.specs.Site.{SiteTexts}
use Rattle.desk_policy.specs.declared.parsing.SiteContents.{SiteContents}
use Rattle.desk_policy.specs.declared.site_fault.SiteFault.{SiteFault}

-- the texts of a site write these custodians, these tables and this policy
pub record AreWritten (texts : SiteTexts) (contents : SiteContents) : Type 0 where
  pub custodians : read_custodians texts.files.custodians ≡ Ok contents.custodians
  pub tables : read_site_tables texts ≡ Ok contents.tables
  pub policy : read_site texts ≡ Ok contents.policy

-- what the texts write was read, or the fault of the first faulty file; out of memory says nothing
abbrev pub ReadsSite : Result SiteContents (ReadError SiteFault) → SiteTexts → Type 0
ReadsSite (Ok contents) texts = AreWritten texts contents
ReadsSite (Err (Fault fault)) texts = read_site texts ≡ Err fault
ReadsSite (Err Memory) texts = Unit {0}
