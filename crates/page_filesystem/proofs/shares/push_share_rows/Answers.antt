use Rattle.std.specs.String.{string_bytes}
use Rattle.page_html.proofs.Gathered.{writes_values}
use Rattle.page_html.specs.Tables.{row_html}
use Rattle.page_filesystem.specs.Shares.{cells, frame}
use Rattle.page_filesystem.proofs.shares.push_share_rows.Goals as goal

pub loop-share-preserved : goal.loop-share-preserved
loop-share-preserved c =
    writes_values cells c.args.shares.now c.loop-share.share-index _ (row_html frame) (string_bytes c.args.page.now) (string_bytes c.loop-share.page)
    (string_bytes c.push_share.new.page) c.loop-share-test.true c.loop-share.invariant
    c.in_ok-push_share.ensures
