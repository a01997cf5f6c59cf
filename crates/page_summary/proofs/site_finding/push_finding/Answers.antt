use Rattle.std.proofs.Common.{◌≡◌, ◌++◌, ◌∙◌, Bool, cond, false, [], ◌∷◌, ap, map, rules, sym, true}
use Rattle.std.proofs.lemmas.List.{append-nil, map-append}
use Rattle.page_findings.specs.Deciding.{deciding_value}
use Rattle.page_findings.specs.Lines.{line_value}
use Rattle.page_summary.specs.SiteFinding.{finding_of, site_finding_value}
use Rattle.page_summary.proofs.site_finding.push_finding.Goals as goal

pub returns-in_ok-push : goal.returns-in_ok-push
returns-in_ok-push c =
    let old = c.args.found.now.items in
    let told = finding_of (map deciding_value c.args.deciding.now) (line_value c.args.line.now) in
    let out : c.stands_out.result ≡ true = search rules in
    ap (map site_finding_value) c.in_ok-push.ensures.items ∙ map-append site_finding_value old (c.finding_of.result ∷ [])
    ∙ ap (λ one. map site_finding_value old ++ one ∷ []) c.finding_of.ensures
    ∙ ap (λ (b : Bool). map site_finding_value old ++ cond b (told ∷ []) []) (sym out ∙ c.stands_out.ensures)

pub returns-else-stands_out : goal.returns-else-stands_out
returns-else-stands_out c =
    let old = c.args.found.now.items in
    let told = finding_of (map deciding_value c.args.deciding.now) (line_value c.args.line.now) in
    let out : c.stands_out.result ≡ false = search rules in
    sym (append-nil (map site_finding_value old)) ∙ ap (λ (b : Bool). map site_finding_value old ++ cond b (told ∷ []) []) (sym out ∙ c.stands_out.ensures)
