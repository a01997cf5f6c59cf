use Rattle.std.proofs.Common.{◌≡◌, ◌∙◌, false, [], ◌∷◌, ap, cond, map, rules, sym}
use Rattle.std.proofs.lemmas.List.{append-nil}
use Rattle.std.proofs.lemmas.List.Elements.{All-nil}
use Rattle.desk_impact.specs.Sections.{section_value}
use Rattle.page_findings.specs.Deciding.{never_decides}
use Rattle.page_findings.specs.PrivateDeciding.{IsListed}
use Rattle.page_findings.proofs.deciding.add_line.Goals as goal

pub returns-then-not-never_decides : goal.returns-then-not-never_decides
returns-then-not-never_decides c = λ known.
    let reasons = c.args.reasons.now in
    let decides : c.never_decides.result ≡ false = search (rules, c.if-not-never_decides.true) in
    let is : never_decides reasons.reasons ≡ false = ap never_decides (sym c.as_slice.ensures) ∙ sym c.never_decides.ensures ∙ decides in
    record {
      known = known;
      more = [];
      are = sym (append-nil c.args.lists.now.lists);
      added = [];
      behind = sym (append-nil c.args.lines.now.items);
      told = sym (ap (λ b. cond b (reasons.line ∷ []) []) is);
      each = All-nil (IsListed (map section_value c.args.sections.now) c.args.lists.now.lists c.args.row.now);
    }
