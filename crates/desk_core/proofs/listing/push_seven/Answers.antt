use Rattle.std.proofs.Common.{map}
use Rattle.desk_core.specs.Listing.{file_of}
use Rattle.desk_core.proofs.FileLists.{seven_added}
use Rattle.desk_core.proofs.listing.push_seven.Goals as goal

pub returns : goal.returns
returns c =
    seven_added (map file_of c.args.files.now.items) _ _ _ _ _ _ _ _ _ _ _ _ _ _
    c.in_ok-push_one.ensures c.in_ok-push_one-2.ensures c.in_ok-push_one-3.ensures c.in_ok-push_one-4.ensures c.in_ok-push_one-5.ensures c.in_ok-push_one-6.ensures c.in_ok-push_one-7.ensures
