use Rattle.std.proofs.Common.{map, rules}
use Rattle.std.proofs.lemmas.Result.{IfOk-weaker}
use Rattle.desk_who.specs.Who.{range_value}
use Rattle.page_data.specs.Class.{class_of}
use Rattle.page_data.specs.Classes.{AreClassesFrom, class_run}
use Rattle.page_data.proofs.Mostly.{made_starts}
use Rattle.page_data.proofs.classes.classes_from.Goals as goal

pub longest_runs-requires-clause-behind : goal.longest_runs-requires-clause-behind
longest_runs-requires-clause-behind c = c.in_ok-starts.ensures.behind

pub returns : goal.returns
returns c =
    IfOk-weaker c.longest_runs.result _ (λ runs. AreClassesFrom (map range_value c.args.ranges.now) (map class_run runs.items))
    (λ runs found verdict_at are. found (λ address. class_of (verdict_at address)) (λ address class asked gives. search (rules, are))
    (made_starts class_of verdict_at c.in_ok-starts.starts (c.in_ok-starts.ensures.starts verdict_at are)))
    c.longest_runs.ensures
