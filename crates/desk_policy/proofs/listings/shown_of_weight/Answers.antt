use Rattle.std.proofs.Common.{◌∙◌, Bool, map, ap}
use Rattle.std.specs.Prelude.{filter}
use Rattle.desk_policy.specs.PrivateWeights.{has_weight}
use Rattle.desk_policy.specs.declared.row.Row.{Row}
use Rattle.desk_policy.proofs.ShownLines.{shown_of_passing}
use Rattle.desk_policy.proofs.listings.shown_of_weight.Goals as goal

pub returns : goal.returns
returns c =
    let passes : Row → Bool = has_weight c.args.address.number c.args.weight in
    shown_of_passing c.args.policy.now c.args.fs passes (map (λ row. row.now) c.as_slice.result.now)
    (ap (map (λ row. row.now)) c.as_slice.ensures.value ∙ c.in_ok-chosen.ensures ∙ ap (filter passes) c.rows.ensures) c.in_ok-shown.shown c.in_ok-shown.ensures
