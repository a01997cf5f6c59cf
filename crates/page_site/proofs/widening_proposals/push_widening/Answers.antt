use Rattle.std.proofs.Common.{◌∙◌, [], ap, map, refl, subst, sym}
use Rattle.std.specs.Prelude.{◌==◌, IfSome, OnOk, option_map}
use Rattle.std.specs.Option.{option_copied}
use Rattle.std.proofs.lemmas.List.{append-nil}
use Rattle.std.proofs.lemmas.Result.{on_ok_weaker}
use Rattle.desk_core.specs.Head.{newest_in}
use Rattle.page_summary.specs.Proposals.{proposal_value}
use Rattle.page_site.specs.PrivateWidening.{GainsTold}
use Rattle.page_site.specs.WaitingProposals.{IsWaiting, waiting_value}
use Rattle.page_site.specs.WideningProposals.{row_if_any}
use Rattle.page_site.proofs.Finding.{found_is}
use Rattle.page_site.proofs.Parts.{found_value}
use Rattle.page_site.proofs.widening_proposals.push_widening.Goals as goal

pub count_of-requires-clause-waiting : goal.count_of-requires-clause-waiting
count_of-requires-clause-waiting g c =
    let in_force = g.V.PolicyView.in_force in
    let site = c.args.site.now in
    let fs = c.args.fs.0 in
    let IsSo = IsWaiting (newest_in site.heads.now) (in_force site.view.now) in
    let is = found_value in_force site.waiting.now fs (option_copied c.waiting_for.result) c.waiting_for.ensures ∙ ap (λ o. option_map (waiting_value in_force) (option_copied o)) c.in-Some.is in
    subst (λ some. IfSome some IsSo) is (found_is IsSo (λ one. one.fs == fs) (map (waiting_value in_force) site.waiting.now) c.requires.is.are_waiting.each)

pub returns-in_ok-count-in-Some : goal.returns-in_ok-count-in-Some
returns-in_ok-count-in-Some g c =
    let in_force = g.V.PolicyView.in_force in
    let site = c.args.site.now in
    let content = in_force site.view.now in
    let old = map proposal_value c.args.rows.now.items in
    let new = map proposal_value c.push_if_any.new.rows.items in
    let one = waiting_value in_force c.in-Some.waiting.now in
    let count = c.in_ok-count-in-Some.count in
    let is = found_value in_force site.waiting.now c.args.fs.0 (option_copied c.waiting_for.result) c.waiting_for.ensures ∙ ap (λ o. option_map (waiting_value in_force) (option_copied o)) c.in-Some.is in
    subst (λ some. OnOk c.push_if_any.result (GainsTold content some old new)) (sym is)
    (on_ok_weaker c.push_if_any.result
    (λ gained. record { rows = row_if_any one count; told = record { count = count; are = c.in_ok-count-in-Some.ensures; rows_are = refl }; gained = gained })
    c.push_if_any.ensures)

pub returns-in-None : goal.returns-in-None
returns-in-None g c =
    let in_force = g.V.PolicyView.in_force in
    let site = c.args.site.now in
    let old = map proposal_value c.args.rows.now.items in
    let is = found_value in_force site.waiting.now c.args.fs.0 (option_copied c.waiting_for.result) c.waiting_for.ensures ∙ ap (λ o. option_map (waiting_value in_force) (option_copied o)) c.in-None.is in
    subst (λ some. GainsTold (in_force site.view.now) some old old) (sym is) (record { rows = []; told = refl; gained = sym (append-nil old) })
