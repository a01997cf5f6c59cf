-- The runs of the server's verdicts, which change at these addresses alone.
use Rattle.std.proofs.Common.{map, rules}
use Rattle.std.proofs.lemmas.Result.{IfOk-weaker}
use Rattle.desk_who.specs.Who.{range_value}
use Rattle.desk_server.specs.Server.{server_verdict_of}
use Rattle.desk_server_prints.specs.Listing.{IsServerWho}
use Rattle.desk_server_prints.proofs.listing.server_who.Goals as goal

pub longest_runs-requires-clause-behind : goal.longest_runs-requires-clause-behind
longest_runs-requires-clause-behind c = c.in_ok-starts.ensures.server.behind

pub returns : goal.returns
returns c =
    let content = c.args.index.now in
    let path = c.args.path.now in
    IfOk-weaker c.longest_runs.result _ (λ ranges. IsServerWho content path (map range_value ranges.items))
    (λ ranges found. found (λ address. server_verdict_of content address path) (λ address verdict asked gives. search rules) c.in_ok-starts.ensures.server) c.longest_runs.ensures
