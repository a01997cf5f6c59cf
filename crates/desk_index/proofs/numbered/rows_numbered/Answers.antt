use Rattle.std.proofs.Common.{◌≡◌, ◌<◌, ◌≤◌, ◌++◌, ◌∷◌, ◌∙◌, [], Bor, List, None, Some, ap, arith, length, map, sym, take}
use Rattle.std.proofs.lemmas.List.{length-map, map_push, take_all}
use Rattle.desk_policy.specs.declared.row.Row.{Row}
use Rattle.desk_index.proofs.RowsByNumber.{item}
use Rattle.desk_index.proofs.numbered.rows_numbered.Goals as goal
use Rattle.desk_index.proofs.numbered.rows_numbered.Goals.{in-Some+in_ok-push, in_default}

pub loop-line-preserved : goal.loop-line-preserved
loop-line-preserved c = λ chosen are all.
    let i = c.loop-line.line-index in
    let few : length c.args.lines.now ≡ length chosen = ap length are ∙ length-map chosen (λ (r : Row). r.entry.line) in
    let below : i < length c.args.lines.now = c.loop-line-test.true in
    let one = item c.args.rows.now chosen c.args.lines.now i are all (omega arith) in
    elim c.match-row_numbered.branch [
      | in-Some+in_ok-push w ↦
          let found : Some w.in-Some.row.now ≡ Some one.row = w.in-Some.ensures one.row one.has one.number in
          let same : w.in-Some.row.now ≡ one.row = cc in
          rw w.found-is
          (ap (map (λ (row : Bor Row). row.now)) w.in_ok-push.ensures.items ∙ map_push (λ (row : Bor Row). row.now) c.loop-line.found.items w.in-Some.row
          ∙ ap (λ (rows : List Row). rows ++ w.in-Some.row.now ∷ []) (c.loop-line.invariant chosen are all) ∙ ap (λ (row : Row). take i chosen ++ row ∷ []) same ∙ sym one.next)
      | in_default w ↦ (let wrong : None ≡ Some one.row = w.in_default.ensures one.row one.has one.number in cc)
    ]

pub returns : goal.returns
returns c = λ chosen are all.
    let few : length c.args.lines.now ≡ length chosen = ap length are ∙ length-map chosen (λ (r : Row). r.entry.line) in
    let past : length c.args.lines.now ≤ c.loop-line.line-index = c.loop-line-test.false in
    c.loop-line.invariant chosen are all ∙ take_all c.loop-line.line-index chosen (omega arith)
