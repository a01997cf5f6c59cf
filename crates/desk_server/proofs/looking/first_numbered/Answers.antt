use Rattle.std.proofs.Common.{◌∙◌, List, ap, sym}
use Rattle.std.specs.Prelude.{slice_get}
use Rattle.desk_policy.specs.declared.row.Row.{Row}
use Rattle.desk_idle.proofs.Front.{front}
use Rattle.desk_server.proofs.looking.first_numbered.Goals as goal

pub returns-in-Some : goal.returns-in-Some
returns-in-Some c = λ chosen are all.
    let f = front c.args.rows.now chosen c.args.lines.now c.in-Some.line.now are all c.in-Some.ensures.value in
    c.row_numbered.ensures f.first f.has f.number ∙ ap (λ (rs : List Row). slice_get rs 0) (sym f.are)
