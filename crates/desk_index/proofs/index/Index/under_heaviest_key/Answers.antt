use Rattle.std.proofs.Common.{IfSome, ap, arith, subst, ◌∙◌}
use Rattle.desk_text.specs.Address.{number_of}
use Rattle.desk_policy.specs.Policy.{Content, rows_of}
use Rattle.desk_policy.specs.Weights.{selected}
use Rattle.desk_index.specs.Keys.{AreUnderOneKey, listed, numbers}
use Rattle.desk_index.proofs.SelectedLines.{all_under_one_key}
use Rattle.desk_index.proofs.index.Index.under_heaviest_key.Goals as goal

pub returns-clause-selected : goal.returns-clause-selected
returns-clause-selected c =
    let fs = c.args.fs.0 in
    let address = number_of c.args.address in
    c.select_finds_the_selected_lines.ensures c.new-probes.result fs address c.select.result c.new-probes.ensures.networks (let e = c.number-number.ensures in omega (arith, c.number-number.type_inv)) c.select.ensures.found c.select.ensures.none
    ∙ ap (λ (content : Content). listed (numbers (selected (rows_of content fs) address))) c.new-probes.ensures.index

pub returns-clause-lines : goal.returns-clause-lines
returns-clause-lines c =
    subst (λ (content : Content). IfSome c.select.result (λ row. AreUnderOneKey (rows_of content c.args.fs.0) row.now)) c.new-probes.ensures.index
    (all_under_one_key c.new-probes.result.index.now c.args.fs (number_of c.args.address) c.select.result c.select.ensures.found)
