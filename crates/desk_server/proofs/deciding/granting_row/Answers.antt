use Rattle.std.proofs.Common.{◌≡◌, ◌≤◌, subst, sym}
use Rattle.std.specs.List.{All}
use Rattle.desk_text.specs.Address.{number_of}
use Rattle.desk_policy.specs.Keys.{HasBlock}
use Rattle.desk_policy.specs.Policy.{Content, rows_of}
use Rattle.desk_policy.specs.Verdict.{lists_here}
use Rattle.desk_policy.specs.declared.row.Row.{Row}
use Rattle.desk_index.specs.Lighter.{weighing}
use Rattle.desk_server.proofs.ByGroups.{all_asked, first_grants, lighter_asked, none_asked, none_for_everybody, some_line}
use Rattle.desk_server.proofs.Lighter.{weighing_has}
use Rattle.desk_server.proofs.deciding.granting_row.Goals as goal
use Rattle.desk_server.proofs.deciding.granting_row.Goals.{else-group-eq0-via-then-group-eq0+else-below-lt35, else-group-eq0-via-else-group-eq0}

pub loop-group-init : goal.loop-group-init
loop-group-init c =
    let fs = c.args.fs.0 in
    let rows = rows_of c.args.index.now fs in
    let blocks : All (λ (row : Row). HasBlock row.entry.clients) rows = subst (λ (content : Content). All (λ (row : Row). HasBlock row.entry.clients) (rows_of content fs)) c.new-probes.ensures.index (c.new-probes.ensures.networks fs) in
    all_asked (lists_here c.args.path.now) rows (number_of c.args.address) blocks

pub returns-then-below-lt35 : goal.returns-then-below-lt35
returns-then-below-lt35 c =
    none_for_everybody (lists_here c.args.path.now) (rows_of c.args.index.now c.args.fs.0) (number_of c.args.address) c.loop-group.below c.loop-group.invariant c.in-Some.group c.in-Some.ensures.heaviest
    c.if-group-eq0.true c.if-below-lt35.true

pub returns-in-Some-first_listing : goal.returns-in-Some-first_listing
returns-in-Some-first_listing c =
    let fs = c.args.fs.0 in
    let rows = rows_of c.args.index.now fs in
    let address = number_of c.args.address in
    let listing = lists_here c.args.path.now in
    let group = c.in-Some.group in
    let below = c.loop-group.below in
    let is = c.in-Some.ensures.heaviest in
    let chosen = weighing rows address group.weight in
    let blocks : All (λ (row : Row). HasBlock row.entry.clients) rows = subst (λ (content : Content). All (λ (row : Row). HasBlock row.entry.clients) (rows_of content fs)) c.new-probes.ensures.index (c.new-probes.ensures.networks fs) in
    let first : group.weight ≡ 0 → 35 ≤ below = elim c.else-group-eq0.branch [
      | else-group-eq0-via-then-group-eq0+else-below-lt35 w ↦ λ e. w.if-below-lt35.false
      | else-group-eq0-via-else-group-eq0 w ↦ λ e. absurd (w.if-group-eq0.false e)
    ] in
    first_grants listing rows address below c.loop-group.invariant group is blocks first c.in-Some-first_listing.row.now
    (sym (c.in-Some-first_listing.ensures chosen is.lines (weighing_has rows address group.weight)))

pub loop-group-preserved : goal.loop-group-preserved
loop-group-preserved c =
    let fs = c.args.fs.0 in
    let rows = rows_of c.args.index.now fs in
    let address = number_of c.args.address in
    let listing = lists_here c.args.path.now in
    let group = c.in-Some.group in
    let below = c.loop-group.below in
    let is = c.in-Some.ensures.heaviest in
    let chosen = weighing rows address group.weight in
    let blocks : All (λ (row : Row). HasBlock row.entry.clients) rows = subst (λ (content : Content). All (λ (row : Row). HasBlock row.entry.clients) (rows_of content fs)) c.new-probes.ensures.index (c.new-probes.ensures.networks fs) in
    let first : group.weight ≡ 0 → 35 ≤ below = elim c.else-group-eq0.branch [
      | else-group-eq0-via-then-group-eq0+else-below-lt35 w ↦ λ e. w.if-below-lt35.false
      | else-group-eq0-via-else-group-eq0 w ↦ λ e. absurd (w.if-group-eq0.false e)
    ] in
    let some = some_line listing rows address below c.loop-group.invariant group is in
    lighter_asked listing rows address below c.loop-group.invariant group is blocks first some.0 some.1
    (sym (c.in_default-first_listing.ensures chosen is.lines (weighing_has rows address group.weight)))

pub returns : goal.returns
returns c =
    none_asked (lists_here c.args.path.now) (rows_of c.args.index.now c.args.fs.0) (number_of c.args.address) c.loop-group.below c.loop-group.invariant c.in_default.ensures.heaviest
