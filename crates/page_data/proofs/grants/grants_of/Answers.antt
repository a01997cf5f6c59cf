use Rattle.std.proofs.Common.{◌∙◌, List, ap, map, rules, subst, sym}
use Rattle.std.specs.Prelude.{filter}
use Rattle.std.proofs.lemmas.Fn.{always_returns_same}
use Rattle.std.proofs.lemmas.List.{take_all}
use Rattle.std.proofs.lemmas.List.Sorted.{IsNonDecreasingBy-from_sort_by_key, IsPermutation-map, IsPermutation-sym, IsPermutation-trans}
use Rattle.desk_exports.specs.declared.entry.Entry.{Entry}
use Rattle.page_data.specs.PrivateGrants.{AreByLine, Ascend, counts_of, covered, is_of_line, piece_value}
use Rattle.page_data.specs.declared.grants.Piece.{Piece}
use Rattle.page_data.proofs.Counting.{all_counts, by_line, first_key, line_ascends, line_key, one_count}
use Rattle.page_data.proofs.grants.grants_of.Goals as goal

pub of_line-requires : goal.of_line-requires
of_line-requires c =
    subst (λ (pieces : List Piece). AreByLine (map piece_value pieces)) (sym c.as_slice.ensures.value)
    (by_line c.sort_by_key-2.new.self.items (IsNonDecreasingBy-from_sort_by_key line_key c.sort_by_key-2.new.self.items c.in_ok-sort_by_key-2.ensures.sorted (λ a r q k. search rules)))

pub covered-count-requires : goal.covered-count-requires
covered-count-requires c =
    let firsts = c.sort_by_key.new.self.items in
    let sorted = c.sort_by_key-2.new.self.items in
    let line = c.deref.result.now.line in
    subst Ascend (sym (c.of_line.ensures ∙ ap (λ (pieces : List Piece). filter (is_of_line line) (map piece_value pieces)) c.as_slice.ensures.value))
    (line_ascends firsts sorted (IsNonDecreasingBy-from_sort_by_key first_key firsts c.in_ok-sort_by_key.ensures.sorted (λ a r q k. search rules))
    (c.sort_by_key-2.ensures.stable line_key (always_returns_same _ _ _ (λ a r q k. search rules))) line)

pub loop-row-preserved : goal.loop-row-preserved
loop-row-preserved c =
    let rows = c.args.rows.now in
    let row = c.row-item.result in
    let sorted = c.sort_by_key-2.new.self.items in
    let entry = c.deref.result.now in
    one_count rows c.loop-row.row-index row c.loop-row-test.true c.row-item.is (map piece_value sorted) c.loop-row.found.items c.push.new.self.items
    (record { line = entry.line; count = c.covered-count.result }) c.in_ok-push.ensures.items (ap (λ (e : Entry). e.line) c.deref.ensures)
    (c.covered-count.ensures ∙ ap covered (c.of_line.ensures ∙ ap (λ (pieces : List Piece). filter (is_of_line entry.line) (map piece_value pieces)) c.as_slice.ensures.value)
    ∙ ap (λ (e : Entry). covered (filter (is_of_line e.line) (map piece_value sorted))) c.deref.ensures)
    c.loop-row.invariant

pub returns : goal.returns
returns c =
    let rows = c.args.rows.now in
    let pieces = c.in_ok-pieces.pieces.items in
    let firsts = c.sort_by_key.new.self.items in
    let sorted = c.sort_by_key-2.new.self.items in
    let moved = IsPermutation-trans pieces firsts sorted c.in_ok-sort_by_key.ensures.permutation c.in_ok-sort_by_key-2.ensures.permutation in
    c.loop-row.invariant
    ∙ ap (λ some. counts_of some (map piece_value sorted)) (take_all c.loop-row.row-index rows c.loop-row-test.false)
    ∙ all_counts rows (map piece_value sorted) (map piece_value pieces) (IsPermutation-sym (map piece_value pieces) (map piece_value sorted) (IsPermutation-map piece_value pieces sorted moved))
    ∙ ap (counts_of rows) c.in_ok-pieces.ensures
