use Rattle.std.proofs.Common.{◌≤◌, ℕ, length, rules, sym, tests}
use Rattle.std.proofs.lemmas.List.Sorted.{IsPartitionPoint-from_clause}
use Rattle.page_data.proofs.Numbered.{found_there, is_before, none_there, not_there, parted}
use Rattle.page_filesystem.specs.declared.gutter.Note.{Note}
use Rattle.page_filesystem.proofs.gutter.note_on.Goals as goal

abbrev line_of : Note → ℕ
line_of note = note.line

pub returns-in-Some : goal.returns-in-Some
returns-in-Some c = λ ascending.
    let notes = c.args.notes.now in
    let place = c.partition_point-place.result in
    let there = c.in-Some.ensures.lookup in
    let point = IsPartitionPoint-from_clause (is_before line_of c.args.line) notes place c.partition_point-place.ensures.partitioned
    (parted line_of notes ascending c.args.line) (λ a r f q. search (rules, tests)) in
    sym (found_there line_of notes ascending c.args.line place point c.in-Some.note.now there.3.0 there.1 c.if-note-line.true)

pub returns-in_default : goal.returns-in_default
returns-in_default c = λ ascending.
    let notes = c.args.notes.now in
    let place = c.partition_point-place.result in
    let there = c.in-Some.ensures.lookup in
    let point = IsPartitionPoint-from_clause (is_before line_of c.args.line) notes place c.partition_point-place.ensures.partitioned
    (parted line_of notes ascending c.args.line) (λ a r f q. search (rules, tests)) in
    sym (not_there line_of notes ascending c.args.line place point c.in-Some.note.now there.3.0 there.1 c.if-note-line.false)

pub returns-in_default-2 : goal.returns-in_default-2
returns-in_default-2 c = λ ascending.
    let notes = c.args.notes.now in
    let place = c.partition_point-place.result in
    let point = IsPartitionPoint-from_clause (is_before line_of c.args.line) notes place c.partition_point-place.ensures.partitioned
    (parted line_of notes ascending c.args.line) (λ a r f q. search (rules, tests)) in
    let past : length notes ≤ place = (rw c.in_default.is at c.get.ensures.lookup).3 in
    sym (none_there line_of notes ascending c.args.line place point past)
