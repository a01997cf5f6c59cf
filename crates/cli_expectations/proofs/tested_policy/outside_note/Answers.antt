use Rattle.std.proofs.Common.{◌≡◌, ◌∙◌, IfOk, List, ap, map, subst}
use Rattle.std.specs.String.{string_bytes}
use Rattle.desk_tables.specs.declared.filesystems.Mount.{Mount}
use Rattle.desk_expect.specs.OutsideDirectories.{OutsideValue, outside_in, outside_text, outside_value}
use Rattle.cli_expectations.proofs.tested_policy.outside_note.Goals as goal

pub returns : goal.returns
returns c =
    let are = ap (map outside_value) c.as_slice.ensures.value ∙ c.in_ok-outside.ensures ∙ ap (λ (table : List Mount). outside_in table c.args.expectations.now) c.filesystems.ensures in
    subst (λ (outside : List OutsideValue). IfOk c.outside_text.result (λ note. string_bytes note ≡ outside_text c.args.file.now outside)) are c.outside_text.ensures
