use Rattle.std.proofs.Common.{◌≡◌, ℕ, List, map, rules, subst, sym}
use Rattle.std.specs.Prelude.{Result, Some}
use Rattle.std.proofs.lemmas.Result.{IfOk-weaker}
use Rattle.desk_tables.specs.FileSystems.{fs_of}
use Rattle.desk_policy.specs.Policy.{AreAscending}
use Rattle.desk_policy.specs.Verdict.{Grant, verdict_of}
use Rattle.desk_policy.specs.declared.verdict.Denial.{Denial}
use Rattle.desk_who.specs.Runs.{AreRuns}
use Rattle.desk_who.specs.Who.{IsWho, range_value}
use Rattle.page_data.specs.Classes.{AreClassesIn, class_run}
use Rattle.page_data.specs.PrivateClasses.{class_named}
use Rattle.page_data.proofs.Mostly.{made_starts}
use Rattle.page_data.proofs.Selecting.{most_named}
use Rattle.page_data.proofs.classes.classes_in.Goals as goal

pub longest_runs-requires-clause-behind : goal.longest_runs-requires-clause-behind
longest_runs-requires-clause-behind c = c.in_ok-starts.ensures.behind

pub returns : goal.returns
returns c =
    let content = c.args.policy.now in
    let fs = c.args.fs.0 in
    let rows = c.rows-rows.result.now in
    let given = map range_value c.args.ranges.now in
    let ascending = subst AreAscending (sym c.rows-rows.ensures) c.requires.ascending in
    IfOk-weaker c.longest_runs.result _
    (λ runs. (mount : List (List ℕ)) → fs_of content.table mount ≡ Some fs → IsWho content mount given → AreClassesIn content fs (map class_run runs.items))
    (λ runs found mount e are.
    let made : (verdict_at : ℕ → Result Grant Denial) → AreRuns verdict_at given → AreRuns (λ address. class_named rows (verdict_at address)) (map class_run runs.items) = (λ verdict_at own.
    found (λ address. class_named rows (verdict_at address)) (λ address class asked gives. search (rules, ascending, own)) (made_starts (class_named rows) verdict_at c.in_ok-starts.starts (c.in_ok-starts.ensures.starts verdict_at own))) in
    record {
      class_at = λ address. class_named rows (verdict_of content address mount);
      most = λ address fits. most_named c.verdicts_are_discrete.ensures content fs c.requires address fits mount e rows c.rows-rows.ensures;
      are = made (λ address. verdict_of content address mount) are;
    })
    c.longest_runs.ensures
