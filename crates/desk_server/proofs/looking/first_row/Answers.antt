use Rattle.std.proofs.Common.{◌≡◌, ◌∙◌, List, ap, subst, sym}
use Rattle.std.specs.Prelude.{slice_get}
use Rattle.std.specs.List.{All, Contains}
use Rattle.desk_text.specs.Address.{number_of}
use Rattle.desk_policy.specs.Policy.{Content, rows_of}
use Rattle.desk_policy.specs.Weights.{selected}
use Rattle.desk_policy.specs.declared.row.Row.{Row}
use Rattle.desk_index.specs.Keys.{numbers}
use Rattle.desk_index.proofs.RowsByNumber.{selected_among}
use Rattle.desk_idle.proofs.Front.{none_listed, some_listed}
use Rattle.desk_server.proofs.looking.first_row.Goals as goal

pub returns-in-Some : goal.returns-in-Some
returns-in-Some c =
    let fs = c.args.fs.0 in
    let rows = rows_of c.args.index.now fs in
    let chosen = selected rows (number_of c.args.address) in
    let same : c.rows.result.now ≡ rows = c.rows.ensures ∙ ap (λ (content : Content). rows_of content fs) c.policy.ensures in
    let lines : c.lines.result.now ≡ numbers chosen = c.lines.ensures ∙ some_listed (numbers chosen) c.in-Some.found.now c.in-Some.ensures in
    c.first_numbered.ensures chosen lines (subst (λ (rs : List Row). All (Contains rs) chosen) (sym same) (selected_among rows (number_of c.args.address)))

pub returns-in-None : goal.returns-in-None
returns-in-None c =
    let chosen = selected (rows_of c.args.index.now c.args.fs.0) (number_of c.args.address) in
    sym (ap (λ (rs : List Row). slice_get rs 0) (none_listed chosen c.in-None.ensures))
