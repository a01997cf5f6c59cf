use Rattle.std.proofs.Common.{◌∙◌, ap, map, List}
use Rattle.desk_tables.specs.declared.filesystems.Mount.{Mount}
use Rattle.desk_core.specs.Head.{newest_in}
use Rattle.desk_split.specs.Joining.{joined, stored_file}
use Rattle.cli_write.specs.TextsBack.{exports_among}
use Rattle.cli_write.proofs.texts_back.joined_exports.Goals as goal

pub returns : goal.returns
returns c =
    c.in_ok-text.ensures
    ∙ ap joined (ap (map stored_file) c.as_slice-2.ensures.value ∙ c.in_ok-files.ensures ∙ ap (λ (mounts : List Mount). exports_among mounts (newest_in c.args.listed.now.heads.now)) c.as_slice.ensures)
