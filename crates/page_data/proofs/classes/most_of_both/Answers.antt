use Rattle.std.proofs.Common.{map, rules}
use Rattle.std.proofs.lemmas.Result.{IfOk-weaker}
use Rattle.page_data.specs.Class.{most_of}
use Rattle.page_data.specs.Classes.{AreMostOfBoth, class_run}
use Rattle.page_data.proofs.Mostly.{both_starts}
use Rattle.page_data.proofs.classes.most_of_both.Goals as goal

pub longest_runs-requires-clause-behind : goal.longest_runs-requires-clause-behind
longest_runs-requires-clause-behind c = c.in_ok-starts.ensures.behind c.in_ok-own.ensures.behind c.in_ok-other.ensures.behind

pub returns : goal.returns
returns c =
    IfOk-weaker c.longest_runs.result _ (λ both. AreMostOfBoth (map class_run c.args.runs.now) (map class_run c.args.others.now) (map class_run both.items))
    (λ both found class_at other_at are are'. found (λ address. most_of (class_at address) (other_at address)) (λ address class asked gives. search (rules, are, are'))
    (both_starts class_at other_at c.in_ok-own.own c.in_ok-other.other c.in_ok-starts.starts (c.in_ok-own.ensures.starts class_at are) (c.in_ok-other.ensures.starts other_at are') c.in_ok-starts.ensures))
    c.longest_runs.ensures
