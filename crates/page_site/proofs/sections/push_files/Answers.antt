use Rattle.std.proofs.Common.{subst}
use Rattle.std.specs.String.{string_bytes}
use Rattle.std.proofs.lemmas.Result.{on_ok_weaker}
use Rattle.desk_core.specs.Standing.{standing_in}
use Rattle.page_lists.specs.MakingAgain.{make_again}
use Rattle.page_lists.specs.Files.{AddsFiles}
use Rattle.page_site.proofs.Pieces.{gains_files, gains_just, gains_then}
use Rattle.page_site.proofs.sections.push_files.Goals as goal

pub returns : goal.returns
returns c =
    let listed = c.args.listed.now in
    let standing = standing_in listed.heads.now listed.proposals.now in
    let old = string_bytes c.args.page.now in
    let told = string_bytes c.push_files_of.new.page in
    let files = subst (λ table. AddsFiles table standing old told) c.filesystems-table.ensures c.in_ok-push_files_of.ensures in
    on_ok_weaker c.push_make_again.result
    (λ ended.
    gains_then (gains_files listed.policy.now.table standing old told files)
    (gains_just (make_again c.args.database.now) told (string_bytes c.push_make_again.new.page) ended))
    c.push_make_again.ensures
