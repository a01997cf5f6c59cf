use Rattle.std.proofs.Common.{◌≡◌, ◌∙◌, Bool, ap, arith, length, map, rules}
use Rattle.std.specs.Prelude.{filter}
use Rattle.std.proofs.lemmas.Fn.{filter_same}
use Rattle.std.proofs.lemmas.List.{length-map}
use Rattle.page_places.specs.declared.change_rows.ChangeRow.{ChangeRow}
use Rattle.desk_impact.proofs.Telling.{map-filter, matters, matters_decides, matters_is}
use Rattle.page_places.specs.Changes.{PlaceChange, row_value}
use Rattle.page_places.proofs.changes.those_that_matter.Goals as goal

pub returns : goal.returns
returns c =
    let compare = c.verdicts_are_discrete.ensures in
    let all = c.args.rows.items in
    let test : PlaceChange → Bool = λ one. matters compare one.change.value in
    let kept : c.retain.new.self.items ≡ filter (λ (row : ChangeRow). test (row_value row)) all = filter_same _ _ _ (λ x b f' k. search (rules, matters_is)) _ _ c.retain.ensures.filtered in
    let rows : map row_value c.from_vec.result ≡ filter test (map row_value all) = ap (map row_value) (c.from_vec.ensures ∙ kept) ∙ map-filter row_value test all in
    record {
      rows = record { test = test; decides = λ one. matters_decides compare one.change.value; are = rows };
      silent = omega (arith, length-map all row_value, length-map c.from_vec.result row_value, ap length c.from_vec.ensures, c.retain.ensures.bound);
    }
