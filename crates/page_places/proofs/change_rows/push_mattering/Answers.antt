use Rattle.std.proofs.Common.{◌≡◌, ◌++◌, ◌∙◌, OnOk, cond, subst, sym}
use Rattle.std.specs.String.{string_bytes}
use Rattle.page_places.specs.ChangeRows.{no_change, some_changes}
use Rattle.page_places.proofs.change_rows.push_mattering.Goals as goal

pub returns-then-is_empty : goal.returns-then-is_empty
returns-then-is_empty c =
    subst
    (λ b. OnOk c.push_element.result (string_bytes c.push_element.new.page ≡ string_bytes c.args.page.now ++ cond b no_change (some_changes c.args.rows.now)))
    (sym (sym c.is_empty.ensures ∙ c.if-is_empty.true)) c.push_element.ensures
