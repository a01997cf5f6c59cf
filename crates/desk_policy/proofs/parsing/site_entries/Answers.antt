use Rattle.std.proofs.Common.{List, subst, ℕ}
use Rattle.desk_text.specs.Reading.{Reads}
use Rattle.desk_exports.specs.declared.profile.Profile.{Profile}
use Rattle.desk_policy.specs.Parsing.{entries_in}
use Rattle.desk_policy.specs.Site.{texts_of}
use Rattle.desk_policy.specs.declared.site.ExportsText.{ExportsText}
use Rattle.desk_policy.proofs.parsing.site_entries.Goals as goal

pub returns-clause-read : goal.returns-clause-read
returns-clause-read c =
    let own : ExportsText = (texts_of c.args.site.now).exports c.text-printed.result.now in
    let A : Profile → List ℕ → _ = λ profile body. entries_in (record { profile = profile; body = body }) c.args.filesystems.now c.args.site_tables.now c.args.fs in
    let by_text = subst (λ t. Reads c.file_entries.result (A c.exports_profile-profile.result t)) c.exports_text-text.ensures c.file_entries.ensures.read in
    let by_profile = subst (λ (p : Profile). Reads c.file_entries.result (A p own.body)) c.exports_profile-profile.ensures by_text in
    subst (λ m. Reads c.file_entries.result (entries_in ((texts_of c.args.site.now).exports m) c.args.filesystems.now c.args.site_tables.now c.args.fs)) c.text-printed.ensures.printed by_profile
