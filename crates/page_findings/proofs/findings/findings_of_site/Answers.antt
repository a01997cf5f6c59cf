use Rattle.std.proofs.Common.{◌≡◌, ◌∙◌, Bool, List, ap, map, rules, subst}
use Rattle.std.specs.Cmp.Lexicographic.{slice_cmp}
use Rattle.std.specs.List.{filter}
use Rattle.std.specs.List.Sorted.{IsPermutation}
use Rattle.std.specs.Ordering.{nat_cmp}
use Rattle.std.proofs.lemmas.Fn.{always_returns_same, filter_same}
use Rattle.std.proofs.lemmas.List.Sorted.{IsPermutation-map}
use Rattle.page_findings.specs.Findings.{order_of, stands_out}
use Rattle.page_findings.specs.Lines.{LineValue, line_value}
use Rattle.page_findings.specs.declared.lines.SiteLine.{SiteLine}
use Rattle.page_findings.proofs.Mapped.{filter_mapped, sorted_mapped}
use Rattle.page_findings.proofs.findings.findings_of_site.Goals as goal

pub returns : goal.returns
returns c =
    let given = c.args.lines.now in
    let kept = c.retain.new.self.items in
    let found = c.sort_unstable_by_key.new.self.items in
    let test : SiteLine → Bool = λ line. stands_out (line_value line) in
    let just : kept ≡ filter test given = filter_same _ test _ (λ x b f' k. search rules) _ _ c.retain.ensures.filtered ∙ ap (filter test) c.in_ok-found.ensures.items in
    record {
      just = subst (λ (lines : List LineValue). IsPermutation lines (map line_value found)) (ap (map line_value) just ∙ filter_mapped line_value stands_out given)
          (IsPermutation-map line_value kept found c.sort_unstable_by_key.ensures.permutation);
      order = sorted_mapped line_value order_of (slice_cmp nat_cmp) found
          (c.sort_unstable_by_key.ensures.sorted (λ line. order_of (line_value line)) (always_returns_same _ (λ a r. r ≡ order_of (line_value a.0.now)) _ (λ a r f' k. search rules)));
    }
