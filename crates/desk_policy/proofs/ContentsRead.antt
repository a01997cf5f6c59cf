-- What was read of a site, or why it is refused.
use Rattle.std.proofs.Common.{List}
use Rattle.std.specs.Prelude.{Err}
use Rattle.desk_text.specs.Reading.{Reads}
use Rattle.desk_text.specs.declared.reading.ReadError.{ReadError}
use Rattle.desk_text.specs.declared.reading.ReadError.TheVariants.{Fault, Memory}
use Rattle.desk_tables.specs.declared.filesystems.Mount.{Mount}
use Rattle.desk_policy.specs.Parsing.{read_after_filesystems, read_site}
use Rattle.desk_policy.specs.Policy.{Content}
use Rattle.desk_policy.specs.PrivateParsing.{ReadsAfter}
use Rattle.desk_policy.specs.Site.{SiteTexts}
use Rattle.desk_policy.specs.SiteContents.{ReadsSite}
use Rattle.desk_policy.specs.declared.site_fault.SiteFault.{SiteFault}

-- the fault of a site is that of its policy
pub site_refused : (texts : SiteTexts) (error : ReadError SiteFault) → Reads {X = Content} (Err error) (read_site texts) → ReadsSite (Err error) texts
site_refused texts (Fault fault) told = told
site_refused texts Memory told = tt

-- so it is after the file systems
pub after_refused : (texts : SiteTexts) (table : List Mount) (error : ReadError SiteFault) → ReadsAfter (Err error) texts table → Reads {X = Content} (Err error) (read_after_filesystems texts table)
after_refused texts table (Fault fault) told = told
after_refused texts table Memory told = tt
