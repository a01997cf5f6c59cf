use Rattle.std.proofs.Common.{◌∙◌, ap, sym}
use Rattle.std.specs.List.{flat_map}
use Rattle.std.proofs.lemmas.List.{take_all}
use Rattle.std.proofs.lemmas.List.Folds.{flat_map-map}
use Rattle.desk_split.specs.Joining.{section, stored_file}
use Rattle.desk_split.specs.declared.joining.ExportsFile.{ExportsFile}
use Rattle.desk_split.proofs.joining.join.Goals as goal

pub returns : goal.returns
returns c =
    c.loop-file.invariant
    ∙ ap (flat_map (λ (file : ExportsFile). section (stored_file file))) (take_all c.loop-file.file-index c.args.files.now c.loop-file-test.false)
    ∙ sym (flat_map-map section stored_file c.args.files.now)
