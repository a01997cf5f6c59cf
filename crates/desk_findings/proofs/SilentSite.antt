-- What is found in a site's files without a fault is what is found in its exports text.
use Rattle.std.proofs.Common.{◌≡◌, ℕ, Bool, List, Option, Some, None, Result, Ok, Err, subst}
use Rattle.desk_tables.specs.FileSystemsText.{read_filesystems}
use Rattle.desk_tables.specs.Rules.{TableFault}
use Rattle.desk_tables.specs.declared.custodians.Custodian.{Custodian}
use Rattle.desk_tables.specs.declared.filesystems.Mount.{Mount}
use Rattle.desk_policy.specs.Parsing.{if_listed, unless_unlisted}
use Rattle.desk_policy.specs.Policy.{Content}
use Rattle.desk_policy.specs.UnlistedCustodians.{unlisted_line}
use Rattle.desk_findings.specs.CheckSite.{GathersBy, GathersFrom, GathersIfListed, GathersSite}
use Rattle.desk_findings.specs.CheckText.{Gathers}
use Rattle.desk_findings.specs.Silence.{OfFaultless, OfFaultlessSite, SilentFindingsAreTheServers, SilentSitesAreTheServers, WriteSite}
use Rattle.desk_findings.specs.declared.check_site.SiteSources.{SiteSources}
use Rattle.desk_findings.specs.declared.check_text.Gathered.{Gathered}
use Rattle.desk_findings.specs.declared.finding.Finding.{Finding}

by_line : (opinions : Bool) (sources : SiteSources) (gathered : Gathered) (custodians : List Custodian) (table own : List Mount) (line : Option ℕ) → unless_unlisted own line ≡ Ok table
    → GathersIfListed line opinions sources custodians own gathered → Gathers opinions sources.whole table gathered
by_line opinions sources gathered custodians table own None e found =
    let same : own ≡ table = cc in
    subst (λ (mounts : List Mount). Gathers opinions sources.whole mounts gathered) same found
by_line opinions sources gathered custodians table own (Some line) e found = absurd (cc)

by_table : (opinions : Bool) (sources : SiteSources) (gathered : Gathered) (custodians : List Custodian) (table : List Mount) (read : Result (List Mount) TableFault) → if_listed custodians read ≡ Ok table
    → GathersBy read opinions sources custodians gathered → Gathers opinions sources.whole table gathered
by_table opinions sources gathered custodians table (Ok own) e found =
    by_line opinions sources gathered custodians table own (unlisted_line custodians own) e found
by_table opinions sources gathered custodians table (Err fault) e found = absurd (cc)

gathers_whole : (opinions : Bool) (sources : SiteSources) (gathered : Gathered) (content : Content) → GathersSite opinions sources gathered → (write : WriteSite sources content) → Gathers opinions sources.whole write.table gathered
gathers_whole opinions sources gathered content found write =
    by_table opinions sources gathered write.custodians write.table (read_filesystems sources.filesystems.text.now) write.reads_filesystems
    (subst (λ (read : Result (List Custodian) TableFault). GathersFrom read opinions sources gathered) write.reads_custodians found)

-- what holds of texts without a fault holds of those of a site
pub of_site : (Holds : List ℕ → List Finding → Content → Type 0) → OfFaultless Holds → OfFaultlessSite Holds
of_site Holds law opinions sources gathered content found none write =
    law opinions sources.whole write.table gathered content (gathers_whole opinions sources gathered content found write) none write.writes

pub silent_sites_are_the_servers : SilentFindingsAreTheServers → SilentSitesAreTheServers
silent_sites_are_the_servers law opinions sources gathered content found silent write =
    law opinions sources.whole write.table gathered content (gathers_whole opinions sources gathered content found write) silent write.writes
