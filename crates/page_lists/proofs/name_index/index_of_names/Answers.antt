use Rattle.std.proofs.Common.{◌∙◌, ap, map, subst, sym}
use Rattle.std.specs.Prelude.{filter}
use Rattle.std.specs.List.Sorted.{IsPermutation}
use Rattle.std.proofs.lemmas.List.Sorted.{IsPermutation-map}
use Rattle.page_lists.specs.NameIndex.{is_of_name, written_value}
use Rattle.page_lists.proofs.Mapped.{filter_mapped}
use Rattle.page_lists.proofs.name_index.index_of_names.Goals as goal

pub returns : goal.returns
returns c =
    let given = c.in_ok-index.index.items in
    let sorted = c.sort_by_name.new.written.items in
    record {
      order = c.in_ok-sort_by_name.ensures.order;
      kept = λ name.
          sym (filter_mapped written_value (is_of_name name) sorted) ∙ ap (map written_value) (c.in_ok-sort_by_name.ensures.kept name)
          ∙ filter_mapped written_value (is_of_name name) given ∙ ap (filter (is_of_name name)) c.in_ok-index.ensures;
      just = subst (λ names. IsPermutation names (map written_value sorted)) c.in_ok-index.ensures (IsPermutation-map written_value given sorted c.in_ok-sort_by_name.ensures.just);
    }
