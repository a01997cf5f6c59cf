use Rattle.std.proofs.Common.{◌∙◌, ap}
use Rattle.desk_policy.specs.Policy.{Content, rows_of}
use Rattle.desk_server.proofs.OneDirectory.{none_of_alike}
use Rattle.desk_server.proofs.wider_grant.wider_grants_by.Goals as goal

pub returns-then-list_alike : goal.returns-then-list_alike
returns-then-list_alike c =
    let fs = c.args.fs.0 in
    none_of_alike c.args.index.now fs c.requires.lines c.rows.result.now (c.rows.ensures ∙ ap (λ (content : Content). rows_of content fs) c.policy.ensures) (c.list_alike.ensures c.if-list_alike.true)
    c.new.result.items c.new.ensures.items
