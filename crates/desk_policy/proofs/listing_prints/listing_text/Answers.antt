use Rattle.std.proofs.Common.{[]}
use Rattle.std.specs.String.{string_bytes}
use Rattle.desk_policy.specs.ListingPrints.{shown_text}
use Rattle.desk_policy.proofs.Gathered.{writes}
use Rattle.desk_policy.proofs.listing_prints.listing_text.Goals as goal

pub loop-shown-preserved : goal.loop-shown-preserved
loop-shown-preserved c =
    writes c.args.listing.now c.loop-shown.shown-index c.shown-item.result c.loop-shown-test.true c.shown-item.is
    (shown_text c.args.policy.now) [] (string_bytes c.loop-shown.text) (string_bytes c.push_shown.new.text) c.loop-shown.invariant c.in_ok-push_shown.ensures
