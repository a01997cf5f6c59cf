use Rattle.std.proofs.Common.{◌≡◌, ◌≤◌, ◌∙◌, None, Some, ap, length, rules, sym, tests}
use Rattle.std.proofs.lemmas.List.Sorted.{IsPartitionPoint-from_clause}
use Rattle.desk_exports.specs.declared.entry.Entry.{Entry}
use Rattle.page_data.proofs.Numbered.{found_there, is_before, none_there, not_there, parted}
use Rattle.page_filesystem.proofs.Noted.{kept_ascend, note_found, number_on}
use Rattle.page_filesystem.proofs.notes.numbered_line_note.Goals as goal

pub returns-in-Some : goal.returns-in-Some
returns-in-Some c =
    let lines = c.args.lines.now in
    let place = c.partition_point-place.result in
    let line = c.in-Some.line.now in
    let there = c.in-Some.ensures.lookup in
    let ascend = kept_ascend lines c.requires in
    let point = IsPartitionPoint-from_clause (is_before number_on c.args.number) lines place c.partition_point-place.ensures.partitioned
    (parted number_on lines ascend c.args.number) (λ a r f q. search (rules, tests)) in
    let same : number_on line ≡ c.args.number = ap (λ (entry : Entry). entry.line) (sym c.deref.ensures) ∙ c.if-deref-number.true in
    ap Some c.site_line_note.ensures ∙ sym (note_found lines c.args.number (Some line) (found_there number_on lines ascend c.args.number place point line there.3.0 there.1 same))

pub returns-in_default : goal.returns-in_default
returns-in_default c =
    let lines = c.args.lines.now in
    let place = c.partition_point-place.result in
    let line = c.in-Some.line.now in
    let there = c.in-Some.ensures.lookup in
    let ascend = kept_ascend lines c.requires in
    let point = IsPartitionPoint-from_clause (is_before number_on c.args.number) lines place c.partition_point-place.ensures.partitioned
    (parted number_on lines ascend c.args.number) (λ a r f q. search (rules, tests)) in
    sym (note_found lines c.args.number None
    (not_there number_on lines ascend c.args.number place point line there.3.0 there.1 (λ same. c.if-deref-number.false (ap (λ (entry : Entry). entry.line) c.deref.ensures ∙ same))))

pub returns-in_default-2 : goal.returns-in_default-2
returns-in_default-2 c =
    let lines = c.args.lines.now in
    let place = c.partition_point-place.result in
    let ascend = kept_ascend lines c.requires in
    let point = IsPartitionPoint-from_clause (is_before number_on c.args.number) lines place c.partition_point-place.ensures.partitioned
    (parted number_on lines ascend c.args.number) (λ a r f q. search (rules, tests)) in
    let past : length lines ≤ place = (rw c.in_default.is at c.get.ensures.lookup).3 in
    sym (note_found lines c.args.number None (none_there number_on lines ascend c.args.number place point past))
