use Rattle.std.specs.String.{string_bytes}
use Rattle.page_html.proofs.Gathered.{writes_values}
use Rattle.page_summary.specs.Proposals.{entry, proposal_value}
use Rattle.page_summary.proofs.proposals.push_entries.Goals as goal

pub loop-row-preserved : goal.loop-row-preserved
loop-row-preserved c =
    writes_values proposal_value c.args.rows.now c.loop-row.row-index _ (entry c.args.table.now) (string_bytes c.args.page.now) (string_bytes c.loop-row.page)
    (string_bytes c.push_entry.new.page) c.loop-row-test.true c.loop-row.invariant
    c.in_ok-push_entry.ensures
