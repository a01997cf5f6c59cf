use Rattle.std.proofs.Common.{◌≡◌, ◌≤◌, ◌∙◌, ℕ, ap, length, rules, sym, tests}
use Rattle.std.proofs.lemmas.List.Sorted.{IsPartitionPoint-from_clause}
use Rattle.desk_exports.specs.declared.entry.Entry.{Entry}
use Rattle.desk_policy.specs.declared.row.Row.{Row}
use Rattle.page_data.specs.Class.{class_of_terms}
use Rattle.page_data.specs.PrivateClasses.{class_if}
use Rattle.page_data.proofs.Numbered.{found_there, is_before, none_there, not_there, parted}
use Rattle.page_data.proofs.classes.class_of_line.Goals as goal

abbrev line_of : Row → ℕ
line_of row = row.entry.line

pub returns-in-Some : goal.returns-in-Some
returns-in-Some c = λ ascending.
    let rows = c.args.rows.now in
    let place = c.partition_point-place.result in
    let row = c.in-Some.row.now in
    let there = c.in-Some.ensures.lookup in
    let point = IsPartitionPoint-from_clause (is_before line_of c.args.line) rows place c.partition_point-place.ensures.partitioned (parted line_of rows ascending c.args.line) (λ a r f q. search (rules, tests)) in
    let same : row.entry.line ≡ c.args.line = ap (λ (entry : Entry). entry.line) (sym c.deref.ensures) ∙ c.if-deref-line.true in
    c.of_terms.ensures ∙ ap (λ (entry : Entry). class_of_terms entry.terms) c.deref-in-Some.ensures ∙ sym (ap class_if (found_there line_of rows ascending c.args.line place point row there.3.0 there.1 same))

pub returns-in_default : goal.returns-in_default
returns-in_default c = λ ascending.
    let rows = c.args.rows.now in
    let place = c.partition_point-place.result in
    let row = c.in-Some.row.now in
    let there = c.in-Some.ensures.lookup in
    let point = IsPartitionPoint-from_clause (is_before line_of c.args.line) rows place c.partition_point-place.ensures.partitioned (parted line_of rows ascending c.args.line) (λ a r f q. search (rules, tests)) in
    sym (ap class_if (not_there line_of rows ascending c.args.line place point row there.3.0 there.1 (λ same. c.if-deref-line.false (ap (λ (entry : Entry). entry.line) c.deref.ensures ∙ same))))

pub returns-in_default-2 : goal.returns-in_default-2
returns-in_default-2 c = λ ascending.
    let rows = c.args.rows.now in
    let place = c.partition_point-place.result in
    let point = IsPartitionPoint-from_clause (is_before line_of c.args.line) rows place c.partition_point-place.ensures.partitioned (parted line_of rows ascending c.args.line) (λ a r f q. search (rules, tests)) in
    let past : length rows ≤ place = (rw c.in_default.is at c.get.ensures.lookup).3 in
    sym (ap class_if (none_there line_of rows ascending c.args.line place point past))
