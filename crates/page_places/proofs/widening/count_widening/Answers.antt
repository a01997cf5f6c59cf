use Rattle.std.proofs.Common.{◌∙◌, ap, map}
use Rattle.std.specs.Prelude.{count_by}
use Rattle.page_places.specs.Changes.{changes_value, row_value}
use Rattle.page_places.specs.Widening.{widens}
use Rattle.page_places.proofs.widening.count_widening.Goals as goal

pub returns : goal.returns
returns g c = record {
  changes = changes_value c.in_ok-changes.changes;
  are = c.in_ok-changes.ensures;
  count_is = c.widening_among.ensures ∙ ap (λ rows. count_by widens (map row_value rows)) c.as_slice.ensures;
}
