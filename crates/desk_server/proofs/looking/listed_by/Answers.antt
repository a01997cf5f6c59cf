use Rattle.std.proofs.Common.{◌≡◌, ◌<◌, ◌++◌, ◌∷◌, ◌∙◌, [], None, Some, ap, arith, length, subst, sym, take}
use Rattle.std.proofs.lemmas.List.{length-map}
use Rattle.desk_policy.specs.declared.row.Row.{Row}
use Rattle.desk_index.proofs.RowsByNumber.{item}
use Rattle.desk_idle.specs.Listed.{IsListedBy}
use Rattle.desk_server.proofs.looking.listed_by.Goals as goal
use Rattle.desk_server.proofs.looking.listed_by.Goals.{in-Some+in_ok-add, in_default}

pub loop-line-preserved : goal.loop-line-preserved
loop-line-preserved c = λ chosen are all.
    let i = c.loop-line.line-index in
    let few : length c.args.lines.now ≡ length chosen = ap length are ∙ length-map chosen (λ (r : Row). r.entry.line) in
    let below : i < length c.args.lines.now = c.loop-line-test.true in
    let one = item c.args.rows.now chosen c.args.lines.now i are all (omega arith) in
    elim c.match-row_numbered.branch [
      | in-Some+in_ok-add w ↦
          let found : Some w.in-Some.row.now ≡ Some one.row = w.in-Some.ensures one.row one.has one.number in
          let same : w.in-Some.row.now ≡ one.row = cc in
          rw w.listed-is
          (subst (IsListedBy w.add.new.self) (ap (λ (r : Row). take i chosen ++ r ∷ []) same ∙ sym one.next) (w.in_ok-add.ensures.adds (take i chosen) (c.loop-line.invariant chosen are all)))
      | in_default w ↦ (let wrong : None ≡ Some one.row = w.in_default.ensures one.row one.has one.number in cc)
    ]
