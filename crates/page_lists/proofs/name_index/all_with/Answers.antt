use Rattle.std.proofs.Common.{◌≡◌, ◌∙◌, [], get_or, rules, sym}
use Rattle.std.proofs.lemmas.List.{get_or_default}
use Rattle.std.proofs.lemmas.List.Sorted.{IsPartitionPoint-from_clause}
use Rattle.page_lists.specs.NameIndex.{name_key}
use Rattle.page_lists.specs.declared.name_index.WrittenName.{WrittenName}
use Rattle.page_lists.proofs.Keyed.{all_before, before-partitioned, is_before, none_before}
use Rattle.page_lists.proofs.name_index.all_with.Goals as goal

abbrev nothing : WrittenName
nothing = record { name = record { ref_ptr = (0, 0); now = [] }; fs = record { 0 = 0 }; line = 0 }

pub loop-place-init : goal.loop-place-init
loop-place-init c =
    let index = c.args.index.now in
    let name = c.args.name.now in
    let first = c.partition_point-first.result in
    let point = IsPartitionPoint-from_clause (is_before name_key name) index first c.partition_point-first.ensures.partitioned (before-partitioned name_key index c.requires name) (λ a r f q. search rules) in
    c.new-lines.ensures.items ∙ sym (none_before name_key index c.requires name first point)

pub returns-then-not-has_name : goal.returns-then-not-has_name
returns-then-not-has_name c =
    let index = c.args.index.now in
    let name = c.args.name.now in
    let first = c.partition_point-first.result in
    let place = c.loop-place.place in
    let one = get_or index place nothing in
    let point = IsPartitionPoint-from_clause (is_before name_key name) index first c.partition_point-first.ensures.partitioned (before-partitioned name_key index c.requires name) (λ a r f q. search rules) in
    let is : one ≡ get_or index place one = get_or_default index place nothing one c.loop-place-test.true in
    c.loop-place.invariant ∙ sym (all_before name_key index c.requires name first point place one c.loop-place.auto.place c.loop-place-test.true is (sym c.if-not-has_name.ensures))
