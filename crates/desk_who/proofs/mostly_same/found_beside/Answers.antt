use Rattle.std.proofs.Common.{map, rules}
use Rattle.std.proofs.lemmas.Result.{IfOk-weaker}
use Rattle.desk_who.specs.MostlySame.{AreFoundBeside}
use Rattle.desk_who.specs.Runs.{run_value}
use Rattle.desk_who.specs.Searching.{ByRule, found_at}
use Rattle.desk_who.proofs.mostly_same.found_beside.Goals as goal

pub returns : goal.returns
returns g c =
    let meaning = g.T.Alike.meaning in
    let sought = c.args.search.now in
    let path = c.args.path.now in
    let content = g.S.Search.in_force sought in
    let others = map (run_value meaning) c.args.others.now in
    let decided = c.args.decided.now in
    IfOk-weaker c.runs_beside.result _
    (λ runs. ByRule meaning (g.S.Search.found sought) content (g.S.Search.turns sought) (λ rule. AreFoundBeside (found_at rule content path) others decided (map (run_value meaning) runs.items)))
    (λ runs beside rule of other_at are go. beside (found_at rule content path) other_at (λ address value asked gives. of.finds address path value (search rules)) are go)
    c.runs_beside.ensures
