use Rattle.std.proofs.Common.{◌≡◌, ◌<◌, ◌≤◌, ◌+◌, ◌++◌, ◌∷◌, ◌∙◌, [], Bool, false, true, List, None, Some, ap, arith, drop, length, refl, sym, take}
use Rattle.std.specs.Prelude.{find}
use Rattle.std.specs.List.{list_any}
use Rattle.std.proofs.lemmas.Bool.{or_from}
use Rattle.std.proofs.lemmas.List.{append_assoc, length-map, take-append-drop, take_all}
use Rattle.std.proofs.lemmas.List.Folds.{list_any-append}
use Rattle.desk_policy.specs.declared.row.Row.{Row}
use Rattle.desk_index.proofs.RowsByNumber.{item}
use Rattle.desk_idle.specs.Laws.{brings}
use Rattle.desk_idle.proofs.Looks.{none_found}
use Rattle.desk_idle.proofs.Naming.{found_at_split}
use Rattle.desk_server.proofs.looking.first_new.Goals as goal
use Rattle.desk_server.proofs.looking.first_new.Goals.{in-Some+else-is_new, in_default}

pub returns-then-is_new : goal.returns-then-is_new
returns-then-is_new c = λ chosen earlier are all is.
    let i = c.loop-line.line-index in
    let p : Row → Bool = brings earlier in
    let few : length c.args.lines.now ≡ length chosen = ap length are ∙ length-map chosen (λ (r : Row). r.entry.line) in
    let below : i < length c.args.lines.now = c.loop-line-test.true in
    let one = item c.args.rows.now chosen c.args.lines.now i are all (omega arith) in
    let found : Some c.in-Some.row.now ≡ Some one.row = c.in-Some.ensures one.row one.has one.number in
    let same : c.in-Some.row.now ≡ one.row = cc in
    let passes : p one.row ≡ true = sym (ap p same) ∙ sym (c.is_new.ensures earlier is) ∙ c.if-is_new.true in
    let split : chosen ≡ take i chosen ++ one.row ∷ drop (i + 1) chosen =
    sym (take-append-drop (i + 1) chosen) ∙ ap (λ (ys : List Row). ys ++ drop (i + 1) chosen) one.next ∙ append_assoc (take i chosen) (one.row ∷ []) (drop (i + 1) chosen) in
    found ∙ sym (ap (find p) split ∙ found_at_split p (take i chosen) one.row (drop (i + 1) chosen) (c.loop-line.invariant chosen earlier are all is) passes)

pub loop-line-preserved : goal.loop-line-preserved
loop-line-preserved c = λ chosen earlier are all is.
    let i = c.loop-line.line-index in
    let p : Row → Bool = brings earlier in
    let few : length c.args.lines.now ≡ length chosen = ap length are ∙ length-map chosen (λ (r : Row). r.entry.line) in
    let below : i < length c.args.lines.now = c.loop-line-test.true in
    let one = item c.args.rows.now chosen c.args.lines.now i are all (omega arith) in
    elim c.match-row_numbered.branch [
      | in-Some+else-is_new w ↦
          let found : Some w.in-Some.row.now ≡ Some one.row = w.in-Some.ensures one.row one.has one.number in
          let same : w.in-Some.row.now ≡ one.row = cc in
          let fails : p one.row ≡ false = sym (ap p same) ∙ sym (w.is_new.ensures earlier is) ∙ w.if-is_new.false in
          ap (list_any p) one.next ∙ list_any-append p (take i chosen) (one.row ∷ []) ∙ or_from (list_any p (take i chosen)) (list_any p (one.row ∷ [])) (c.loop-line.invariant chosen earlier are all is) (or_from (p one.row) false fails refl)
      | in_default w ↦ (let wrong : None ≡ Some one.row = w.in_default.ensures one.row one.has one.number in cc)
    ]

pub returns : goal.returns
returns c = λ chosen earlier are all is.
    let p : Row → Bool = brings earlier in
    let few : length c.args.lines.now ≡ length chosen = ap length are ∙ length-map chosen (λ (r : Row). r.entry.line) in
    let past : length c.args.lines.now ≤ c.loop-line.line-index = c.loop-line-test.false in
    sym (none_found p chosen (sym (ap (list_any p) (take_all c.loop-line.line-index chosen (omega arith))) ∙ c.loop-line.invariant chosen earlier are all is))
