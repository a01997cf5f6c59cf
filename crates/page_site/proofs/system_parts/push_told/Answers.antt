use Rattle.std.proofs.Common.{◌∙◌, None, ap, subst, sym}
use Rattle.std.specs.Prelude.{IfSome, OnOk, option_map}
use Rattle.std.specs.Option.{option_copied}
use Rattle.std.specs.String.{string_bytes}
use Rattle.std.proofs.lemmas.Result.{on_ok_weaker}
use Rattle.page_site.specs.SystemParts.{TellsIfAny, waiting_for}
use Rattle.page_site.specs.Pieces.{Gains}
use Rattle.page_site.specs.PrivateSystemParts.{CanWait, IsTextFor, telling_value}
use Rattle.page_site.specs.WaitingProposals.{waiting_value}
use Rattle.page_site.proofs.Parts.{for_is, found_value, waits}
use Rattle.page_site.proofs.system_parts.push_told.Goals as goal

pub push_waiting-requires-clause-waiting : goal.push_waiting-requires-clause-waiting
push_waiting-requires-clause-waiting g c =
    let in_force = g.V.PolicyView.in_force in
    let telling = telling_value in_force c.args.telling.now in
    let fs = c.args.told.now.fs.0 in
    let is = found_value in_force c.args.telling.now.waiting.now fs (option_copied c.waiting_for.result) c.waiting_for.ensures ∙ ap (λ o. option_map (waiting_value in_force) (option_copied o)) c.in-Some.is in
    subst (λ some. IfSome some (CanWait telling)) is (waits telling c.requires.site fs)

pub returns-in-Some : goal.returns-in-Some
returns-in-Some g c =
    let in_force = g.V.PolicyView.in_force in
    let telling = telling_value in_force c.args.telling.now in
    let fs = c.args.told.now.fs.0 in
    let is = found_value in_force c.args.telling.now.waiting.now fs (option_copied c.waiting_for.result) c.waiting_for.ensures ∙ ap (λ o. option_map (waiting_value in_force) (option_copied o)) c.in-Some.is in
    subst (λ some. OnOk c.push_waiting.result (Gains (IsTextFor telling c.args.told.now some) (string_bytes c.args.page.now) (string_bytes c.push_waiting.new.page))) (sym is) c.push_waiting.ensures

pub returns-in-None : goal.returns-in-None
returns-in-None g c =
    let in_force = g.V.PolicyView.in_force in
    let telling = telling_value in_force c.args.telling.now in
    let fs = c.args.told.now.fs.0 in
    let is = found_value in_force c.args.telling.now.waiting.now fs (option_copied c.waiting_for.result) c.waiting_for.ensures ∙ ap (λ o. option_map (waiting_value in_force) (option_copied o)) c.in-None.is in
    on_ok_weaker c.push_part.result
    (for_is telling c.args.told.now (waiting_for telling.waiting fs) None (subst (λ some. TellsIfAny telling.content some None) (sym is) tt) (string_bytes c.args.page.now) (string_bytes c.push_part.new.page))
    c.push_part.ensures
