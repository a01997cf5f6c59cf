-- A site is not read of several texts as one: each exports file numbers its own lines.
use Rattle.std.proofs.Common.{◌≡◌, [], Ok, ap, sym}
use Rattle.desk_policy.specs.Laws.{custodians_in, filesystems_in}
use Rattle.desk_policy.specs.Parsing.{content_with, read_after_filesystems, read_files, read_site, read_site_tables, then_read}
use Rattle.desk_policy.specs.Policy.{Content}
use Rattle.desk_policy.specs.Site.{SiteTexts}
use Rattle.desk_policy.proofs.SiteLaws.{was_read}

pub no_origins : (texts : SiteTexts) (content : Content) → read_site texts ≡ Ok content → content.origins ≡ []
unfolding read_site
no_origins texts content is =
    let custodians = was_read (custodians_in texts) (λ rows. then_read (filesystems_in texts rows) (read_after_filesystems texts)) content is in
    let table = was_read (filesystems_in texts custodians.0) (read_after_filesystems texts) content custodians.2 in
    let tables = was_read (read_site_tables texts) (λ found. then_read (read_files texts table.0 found 0 table.0) (λ files. Ok (content_with table.0 found files))) content table.2 in
    let files = was_read (read_files texts table.0 tables.0 0 table.0) (λ all. Ok (content_with table.0 tables.0 all)) content tables.2 in
    let same : content_with table.0 tables.0 files.0 ≡ content = cc in
    sym (ap (λ (c : Content). c.origins) same)
