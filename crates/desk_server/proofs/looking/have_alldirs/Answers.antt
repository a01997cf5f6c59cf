use Rattle.std.proofs.Common.{◌≡◌, ◌<◌, ◌∷◌, ◌∙◌, [], Bool, false, true, List, None, Some, ap, arith, length, refl, sym, take}
use Rattle.std.specs.List.{Contains, list_any}
use Rattle.std.proofs.lemmas.Bool.{or_from}
use Rattle.std.proofs.lemmas.List.{length-map}
use Rattle.std.proofs.lemmas.List.Folds.{list_any-append, list_any_at}
use Rattle.desk_exports.specs.declared.entry.Entry.{Entry}
use Rattle.desk_policy.specs.declared.row.Row.{Row}
use Rattle.desk_index.proofs.RowsByNumber.{item}
use Rattle.desk_server.proofs.Lighter.{next_has}
use Rattle.desk_server.proofs.looking.have_alldirs.Goals as goal
use Rattle.desk_server.proofs.looking.have_alldirs.Goals.{in-Some+else-deref, in_default}

-- whether a line that was found has -alldirs
own : (found row : Row) (entry : Entry) (all : Bool) → Some found ≡ Some row → entry ≡ found.entry → entry.alldirs ≡ all → row.entry.alldirs ≡ all
own found row entry all is same e = let line : found ≡ row = cc in sym (ap (λ (r : Row). r.entry.alldirs) line) ∙ sym (ap (λ (it : Entry). it.alldirs) same) ∙ e

-- one of the lines has it
one_has : (chosen : List Row) (row : Row) → Contains chosen row → row.entry.alldirs ≡ true → list_any (λ (r : Row). r.entry.alldirs) chosen ≡ true
one_has chosen row has passes = list_any_at (λ (r : Row). r.entry.alldirs) chosen has.0 row has.1 (ap (λ (r : Row). r.entry.alldirs) has.2 ∙ passes)

pub returns-then-deref : goal.returns-then-deref
returns-then-deref c = λ chosen are all.
    let i = c.loop-line.line-index in
    let few : length c.args.lines.now ≡ length chosen = ap length are ∙ length-map chosen (λ (r : Row). r.entry.line) in
    let below : i < length c.args.lines.now = c.loop-line-test.true in
    let one = item c.args.rows.now chosen c.args.lines.now i are all (omega arith) in
    let passes : one.row.entry.alldirs ≡ true = own c.in-Some.row.now one.row c.deref.result.now true (c.in-Some.ensures one.row one.has one.number) c.deref.ensures c.if-deref.true in
    sym (one_has chosen one.row (next_has chosen i one.row one.next) passes)

pub loop-line-preserved : goal.loop-line-preserved
loop-line-preserved c = λ chosen are all.
    let i = c.loop-line.line-index in
    let p : Row → Bool = λ (r : Row). r.entry.alldirs in
    let few : length c.args.lines.now ≡ length chosen = ap length are ∙ length-map chosen (λ (r : Row). r.entry.line) in
    let below : i < length c.args.lines.now = c.loop-line-test.true in
    let one = item c.args.rows.now chosen c.args.lines.now i are all (omega arith) in
    elim c.match-row_numbered.branch [
      | in-Some+else-deref w ↦
          let fails : p one.row ≡ false = own w.in-Some.row.now one.row w.deref.result.now false (w.in-Some.ensures one.row one.has one.number) w.deref.ensures w.if-deref.false in
          ap (list_any p) one.next ∙ list_any-append p (take i chosen) (one.row ∷ []) ∙ or_from (list_any p (take i chosen)) (list_any p (one.row ∷ [])) (c.loop-line.invariant chosen are all) (or_from (p one.row) false fails refl)
      | in_default w ↦ (let wrong : None ≡ Some one.row = w.in_default.ensures one.row one.has one.number in cc)
    ]
