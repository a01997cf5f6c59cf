use Rattle.std.proofs.Common.{◌≡◌, ◌∙◌, ◌++◌, List, OnOk, ap, map, subst, ℕ}
use Rattle.std.specs.List.{flat_map}
use Rattle.std.specs.String.{string_bytes}
use Rattle.std.proofs.lemmas.List.{append_assoc}
use Rattle.desk_expect.specs.Judging.{judged_section}
use Rattle.desk_expect.specs.ReportText.{headline, section_text}
use Rattle.desk_expect.proofs.report_text.push_broken.Goals as goal

pub returns : goal.returns
returns c =
    let start = string_bytes c.args.text.now in
    let head = headline c.args.file.now c.args.broken.now.expectation.now in
    let sections = flat_map (section_text c.args.policy.now) (map judged_section c.args.broken.now.sections) in
    subst (λ (bytes : List ℕ). OnOk c.push_sections.result (string_bytes c.push_sections.new.text ≡ bytes))
    (ap (λ (t : List ℕ). t ++ sections) c.in_ok-push_headline.ensures ∙ append_assoc start head sections) c.push_sections.ensures
