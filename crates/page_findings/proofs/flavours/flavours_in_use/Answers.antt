use Rattle.std.proofs.Common.{◌≡◌, ◌∙◌, Bool, List, ap, map, rules, subst}
use Rattle.std.specs.Cmp.Lexicographic.{slice_cmp}
use Rattle.std.specs.List.{filter}
use Rattle.std.specs.List.Sorted.{IsPermutation}
use Rattle.std.specs.Ordering.{nat_cmp}
use Rattle.std.proofs.lemmas.Fn.{always_returns_same, filter_same}
use Rattle.std.proofs.lemmas.List.Sorted.{IsPermutation-map}
use Rattle.page_findings.specs.Flavours.{UseValue, order_of, use_value, uses_among}
use Rattle.page_findings.specs.Lines.{grants, line_value}
use Rattle.page_findings.specs.declared.lines.SiteLine.{SiteLine}
use Rattle.page_findings.proofs.Mapped.{filter_mapped, sorted_mapped}
use Rattle.page_findings.proofs.flavours.flavours_in_use.Goals as goal

pub returns : goal.returns
returns c =
    let given = c.args.lines.now in
    let kept = c.retain.new.self.items in
    let found = c.sort_unstable_by_key.new.self.items in
    let test : SiteLine → Bool = λ line. grants (line_value line) in
    let just : kept ≡ filter test given = filter_same _ test _ (λ x b f' k. search rules) _ _ c.retain.ensures.filtered ∙ ap (filter test) c.in_ok-granting.ensures.items in
    let lines : map line_value kept ≡ filter grants (map line_value given) = ap (map line_value) just ∙ filter_mapped line_value grants given in
    record {
      just = subst (λ (uses : List UseValue). IsPermutation uses (map use_value found))
          (c.in_ok-uses.ensures ∙ ap (λ items. uses_among (map line_value items)) c.as_slice.ensures.value ∙ ap uses_among lines)
          (IsPermutation-map use_value c.in_ok-uses.uses.items found c.sort_unstable_by_key.ensures.permutation);
      order = sorted_mapped use_value order_of (slice_cmp nat_cmp) found
          (c.sort_unstable_by_key.ensures.sorted (λ one. order_of (use_value one)) (always_returns_same _ (λ a r. r ≡ order_of (use_value a.0.now)) _ (λ a r f' k. search rules)));
    }
