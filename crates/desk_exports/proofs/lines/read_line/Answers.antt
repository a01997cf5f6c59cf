use Rattle.std.proofs.Common.{◌≡◌, ◌∙◌, Bool, true, false, cond, Option, Some, None, Result, Ok, Err, IsSome, ap, refl, subst, sym}
use Rattle.desk_text.specs.Reading.{Reads}
use Rattle.desk_exports.specs.Entry.{entry_of}
use Rattle.desk_exports.specs.Lines.{unless_broken}
use Rattle.desk_exports.specs.Rules.{first_broken_rule}
use Rattle.desk_exports.specs.Tables.{TableRows, table_rows}
use Rattle.desk_exports.specs.declared.entry.Entry.{Entry}
use Rattle.desk_exports.specs.declared.rules.Rule.{Rule}
use Rattle.desk_exports.specs.declared.rules.Rule.TheVariants.{StrayComment}
use Rattle.desk_exports.proofs.SoundLines.{lines_are_sound}
use Rattle.desk_exports.proofs.lines.read_line.Goals as goal

-- a line with an entry or without one, by its parts as variables
abbrev answer : Bool → Bool → Option Rule → Option Entry → Result (Option Entry) Rule
answer v4 stray broken entry = cond v4 (cond stray (Err StrayComment) (Ok None)) (unless_broken broken entry)

abbrev decided : Bool → Bool → Option Rule → Result Bool Rule
decided v4 stray broken = cond v4 (cond stray (Err StrayComment) (Ok false)) (unless_broken broken true)

no_rule : (v4 stray : Bool) (broken : Option Rule) → decided v4 stray broken ≡ Ok true → broken ≡ None
no_rule true true broken e = absurd (cc)
no_rule true false broken e = absurd (let same : false ≡ true = cc in cc)
no_rule false stray None e = refl
no_rule false stray (Some rule) e = absurd (cc)

with_entry : (v4 stray : Bool) (broken : Option Rule) (entry : Option Entry) → decided v4 stray broken ≡ Ok true → answer v4 stray broken entry ≡ Ok entry
with_entry true true broken entry e = absurd (cc)
with_entry true false broken entry e = absurd (let same : false ≡ true = cc in cc)
with_entry false stray None entry e = refl
with_entry false stray (Some rule) entry e = absurd (cc)

without_entry : (v4 stray : Bool) (broken : Option Rule) (entry : Option Entry) → decided v4 stray broken ≡ Ok false → answer v4 stray broken entry ≡ Ok None
without_entry true true broken entry e = absurd (cc)
without_entry true false broken entry e = refl
without_entry false stray None entry e = absurd (let same : true ≡ false = cc in cc)
without_entry false stray (Some rule) entry e = absurd (cc)

with_rule : (v4 stray : Bool) (broken : Option Rule) (entry : Option Entry) (rule : Rule) → decided v4 stray broken ≡ Err rule → answer v4 stray broken entry ≡ Err rule
with_rule true true broken entry rule e = cc
with_rule true false broken entry rule e = absurd (cc)
with_rule false stray None entry rule e = absurd (cc)
with_rule false stray (Some first) entry rule e = cc

-- a line that breaks no rule spells an entry
pub boxed_entry-requires : goal.boxed_entry-requires
boxed_entry-requires c =
    let tables : TableRows = table_rows c.args.tables.now in
    let line = c.args.line in
    let has : decided line.is_v4 line.has_stray_comment (first_broken_rule tables c.args.own_fs line) ≡ Ok true = sym c.has_entry.ensures ∙ c.in-Ok-true.is ∙ ap Ok c.in-Ok-true.field-0-test in
    let none = no_rule line.is_v4 line.has_stray_comment (first_broken_rule tables c.args.own_fs line) has in
    subst IsSome (sym (lines_are_sound tables c.args.own_fs c.args.number line none).spells) refl

pub returns-in-Ok-true : goal.returns-in-Ok-true
returns-in-Ok-true c =
    let tables : TableRows = table_rows c.args.tables.now in
    let line = c.args.line in
    let broken = first_broken_rule tables c.args.own_fs line in
    let entry = entry_of tables c.args.number line in
    let has : decided line.is_v4 line.has_stray_comment broken ≡ Ok true = sym c.has_entry.ensures ∙ c.in-Ok-true.is ∙ ap Ok c.in-Ok-true.field-0-test in
    subst (Reads c.boxed_entry.result) (sym (with_entry line.is_v4 line.has_stray_comment broken entry has)) c.boxed_entry.ensures

pub returns-in-Ok-false : goal.returns-in-Ok-false
returns-in-Ok-false c =
    let tables : TableRows = table_rows c.args.tables.now in
    let line = c.args.line in
    let broken = first_broken_rule tables c.args.own_fs line in
    let has : decided line.is_v4 line.has_stray_comment broken ≡ Ok false = sym c.has_entry.ensures ∙ c.in-Ok-false.is ∙ ap Ok c.in-Ok-false.field-0-test in
    without_entry line.is_v4 line.has_stray_comment broken (entry_of tables c.args.number line) has

pub returns-in-Err : goal.returns-in-Err
returns-in-Err c =
    let tables : TableRows = table_rows c.args.tables.now in
    let line = c.args.line in
    let broken = first_broken_rule tables c.args.own_fs line in
    with_rule line.is_v4 line.has_stray_comment broken (entry_of tables c.args.number line) c.in-Err.rule (sym c.has_entry.ensures ∙ c.in-Err.is)
