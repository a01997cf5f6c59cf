use Rattle.std.proofs.Common.{◌-◌, ◌++◌, ◌∙◌, List, ap, arith, map, sym}
use Rattle.std.specs.Prelude.{filter}
use Rattle.std.proofs.lemmas.List.{append-nil, append_assoc}
use Rattle.desk_text.specs.Address.{number_of}
use Rattle.desk_policy.specs.declared.row.Row.{Row}
use Rattle.desk_why.specs.Matches.{lighter, weighs}
use Rattle.desk_why.proofs.Heaviest.{none_lighter, one_more}
use Rattle.desk_why.proofs.matches.matching.Goals as goal

pub loop-weight-preserved : goal.loop-weight-preserved
loop-weight-preserved c =
    let rows = c.args.rows.now in
    let n = number_of c.args.address in
    let bound = c.loop-weight.weight in
    let weight = bound - 1 in
    let old = map (λ row. row.now) c.loop-weight.found.items in
    ap (λ (found : List Row). found ++ lighter rows n weight) c.in_ok-push_weighing.ensures
    ∙ append_assoc old (filter (weighs n weight) rows) (lighter rows n weight)
    ∙ ap (λ (found : List Row). old ++ found) (sym (one_more rows n bound weight (omega arith)))
    ∙ c.loop-weight.invariant

pub returns : goal.returns
returns c =
    let rows = c.args.rows.now in
    let n = number_of c.args.address in
    let old = map (λ row. row.now) c.loop-weight.found.items in
    sym (append-nil old) ∙ ap (λ (found : List Row). old ++ found) (sym (none_lighter rows n c.loop-weight.weight (omega arith))) ∙ c.loop-weight.invariant
