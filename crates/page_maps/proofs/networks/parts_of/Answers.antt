use Rattle.std.proofs.Common.{◌≡◌, ◌∙◌, Bool, ap, rules}
use Rattle.std.specs.List.{filter}
use Rattle.std.proofs.lemmas.Fn.{filter_same}
use Rattle.page_maps.specs.NetworkRows.{is_part}
use Rattle.page_maps.specs.declared.networks.SystemCounts.{SystemCounts}
use Rattle.page_maps.proofs.networks.parts_of.Goals as goal

pub returns : goal.returns
returns c =
    let given = c.args.counted.now in
    let test : SystemCounts → Bool = is_part c.size_of-size.result in
    let just : c.retain.new.self.items ≡ filter test given = filter_same _ test _ (λ x b f' k. search rules) _ _ c.retain.ensures.filtered ∙ ap (filter test) c.in_ok-parts.ensures.items in
    just ∙ ap (λ size. filter (is_part size) given) c.size_of-size.ensures
