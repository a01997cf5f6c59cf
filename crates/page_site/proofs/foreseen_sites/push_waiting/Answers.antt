use Rattle.std.proofs.Common.{◌≡◌, ◌≤◌, ◌∙◌, [], ◌∷◌, Some, ap, arith, cond, length, map, rules, sym}
use Rattle.std.specs.Prelude.{is_some}
use Rattle.std.proofs.lemmas.List.{map-append}
use Rattle.std.proofs.lemmas.List.Elements.{All-push}
use Rattle.desk_core.specs.Head.{newest_in}
use Rattle.desk_policy.specs.SiteFile.{exports_place}
use Rattle.page_site.specs.Given.{HasReadableText}
use Rattle.page_site.specs.WaitingProposals.{IsWaiting, Waiting, outcome_value, waiting_value}
use Rattle.page_site.proofs.foreseen_sites.push_waiting.Goals as goal

pub returns-in_ok-push-in-Some : goal.returns-in_ok-push-in-Some
returns-in_ok-push-in-Some g c =
    let in_force = g.V.PolicyView.in_force in
    let newest = newest_in c.args.state.now.heads in
    let content = in_force c.args.state.now.view in
    let proposal = c.args.proposal.now in
    let one : Waiting = record { fs = c.in-Some.fs.0; proposal = proposal; outcome = outcome_value in_force c.in_ok-outcome-in-Some.outcome } in
    let place : exports_place content.table proposal.file ≡ Some c.in-Some.fs.0 = search rules in
    let short : length proposal.body ≤ 4294967294 = search (rules, arith) in
    record {
      more = one ∷ [];
      gained = ap (map (waiting_value in_force)) c.in_ok-push-in-Some.ensures.items ∙ map-append (waiting_value in_force) c.args.waiting.now.items _;
      of_proposal = ap (λ found. cond (is_some found) (proposal ∷ []) []) (sym place);
      each = All-push (IsWaiting newest content) [] one (λ k d below. absurd (omega arith)) (record { place = place; outcome = c.in_ok-outcome-in-Some.ensures });
      readable = All-push HasReadableText [] one (λ k d below. absurd (omega arith)) short;
    }
