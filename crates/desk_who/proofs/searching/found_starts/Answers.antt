use Rattle.std.proofs.Common.{◌≡◌, ◌∙◌, false, ap, subst, sym}
use Rattle.std.specs.Prelude.{List, None, Some}
use Rattle.std.proofs.lemmas.Result.{IfOk-weaker}
use Rattle.desk_text.specs.AddrSet.{is_among}
use Rattle.desk_tables.specs.FileSystems.{fs_of}
use Rattle.desk_policy.specs.Policy.{Content, rows_of}
use Rattle.desk_policy.specs.declared.row.Row.{Row}
use Rattle.desk_who.specs.Searching.{AreFoundStarts, AreRuleStarts, ByRule}
use Rattle.desk_who.specs.PrivateSearching.{AreSought}
use Rattle.desk_who.specs.Starts.{AreJoined}
use Rattle.desk_who.proofs.Sought.{found_sought}
use Rattle.desk_who.proofs.Steady.{found_nowhere, none_found, number_found}
use Rattle.desk_who.proofs.searching.found_starts.Goals as goal

pub returns-in_ok-sought_among-in-Some-clause-behind : goal.returns-in_ok-sought_among-in-Some-clause-behind
returns-in_ok-sought_among-in-Some-clause-behind g c =
    let own = c.in_ok-sought_among-in-Some.field-0 in
    IfOk-weaker c.joined.result (AreJoined own c.starts.result.now) (λ starts. is_among 0 starts ≡ false)
    (λ all joined. joined.behind c.in_ok-sought_among-in-Some.ensures.behind c.starts.ensures.behind) c.joined.ensures

pub returns-in_ok-sought_among-in-Some-clause-starts : goal.returns-in_ok-sought_among-in-Some-clause-starts
returns-in_ok-sought_among-in-Some-clause-starts g c =
    let sought = c.args.search.now in
    let content = g.S.Search.in_force sought in
    let turns = g.S.Search.turns sought in
    let path = c.args.path.now in
    let own = c.in_ok-sought_among-in-Some.field-0 in
    let fs = c.in-Some.fs in
    let home : fs_of content.table path ≡ Some fs.0 =
    ap (λ (one : Content). fs_of one.table path) (sym c.policy-policy.ensures) ∙ ap (λ table. fs_of table path) (sym c.filesystems.ensures) ∙ number_found _ fs c.in-Some.ensures in
    let Sought : List Row → Type 0 = λ rows. AreSought (g.S.Search.found sought) turns rows own in
    let left : Sought (rows_of content fs.0) =
    subst (λ (one : Content). Sought (rows_of one fs.0)) c.policy-policy.ensures (subst Sought c.rows.ensures c.in_ok-sought_among-in-Some.ensures) in
    IfOk-weaker c.joined.result (AreJoined own c.starts.result.now)
    (λ starts. ByRule g.T.Alike.meaning (g.S.Search.found sought) content turns (λ rule. AreFoundStarts rule content path starts))
    (λ all joined rule of other same.
    found_sought g.T.Alike.meaning (g.S.Search.found sought) content turns own all rule of (subst (λ others. AreJoined own others all) c.starts.ensures.turns joined) other fs.0 (same ∙ home) left)
    c.joined.ensures

pub returns-in-None-clause-behind : goal.returns-in-None-clause-behind
returns-in-None-clause-behind g c =
    IfOk-weaker c.joined-in-None.result (AreJoined c.new.result c.starts-in-None.result.now) (λ starts. is_among 0 starts ≡ false)
    (λ all joined. joined.behind (ap (is_among 0) c.new.ensures) c.starts-in-None.ensures.behind) c.joined-in-None.ensures

pub returns-in-None-clause-starts : goal.returns-in-None-clause-starts
returns-in-None-clause-starts g c =
    let sought = c.args.search.now in
    let content = g.S.Search.in_force sought in
    let turns = g.S.Search.turns sought in
    let path = c.args.path.now in
    let home : fs_of content.table path ≡ None =
    ap (λ (one : Content). fs_of one.table path) (sym c.policy-policy.ensures) ∙ ap (λ table. fs_of table path) (sym c.filesystems.ensures) ∙ none_found _ c.in-None.ensures in
    IfOk-weaker c.joined-in-None.result (AreJoined c.new.result c.starts-in-None.result.now)
    (λ starts. ByRule g.T.Alike.meaning (g.S.Search.found sought) content turns (λ rule. AreFoundStarts rule content path starts))
    (λ all joined rule of other same.
    found_nowhere rule content c.new.result c.starts-in-None.result.now all joined (subst (AreRuleStarts rule) (sym c.starts-in-None.ensures.turns) of.starts) other (same ∙ home) c.new.ensures)
    c.joined-in-None.ensures
