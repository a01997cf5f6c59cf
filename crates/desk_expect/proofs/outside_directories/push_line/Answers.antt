use Rattle.std.proofs.Common.{◌∙◌, ◌++◌, ap}
use Rattle.std.specs.Prelude.{codes}
use Rattle.std.specs.String.{string_bytes}
use Rattle.std.proofs.lemmas.List.{append_assoc}
use Rattle.desk_expect.specs.OutsideDirectories.{outside_place, outside_value}
use Rattle.desk_expect.proofs.outside_directories.push_line.Goals as goal

pub returns : goal.returns
returns c =
    let said = codes " is in no file system, nor is anything below it\n" in
    c.in_ok-push_str.ensures.bytes ∙ ap (λ t. t ++ said) c.in_ok-push_place.ensures ∙ append_assoc (string_bytes c.args.text.now) (outside_place c.args.file.now (outside_value c.args.outside)) said
