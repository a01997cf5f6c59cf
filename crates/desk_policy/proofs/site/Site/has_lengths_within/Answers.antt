use Rattle.std.proofs.Common.{◌∙◌, sym}
use Rattle.desk_policy.proofs.SiteLengths.{by_exports, too_long}
use Rattle.desk_policy.proofs.site.Site.has_lengths_within.Goals as goal

pub returns-then-are_files_within : goal.returns-then-are_files_within
returns-then-are_files_within c =
    let files = sym c.are_files_within.ensures ∙ c.if-are_files_within.true in
    let exports = c.are_exports_within.ensures in
    by_exports c.args.limit c.args.self.now c.are_exports_within.result files exports.each exports.ordered

pub returns-else-are_files_within : goal.returns-else-are_files_within
returns-else-are_files_within c = too_long c.args.limit c.args.self.now c.are_files_within.result c.are_files_within.ensures c.if-are_files_within.false
