use Rattle.std.proofs.Common.{◌∙◌, ap, List, ℕ}
use Rattle.std.specs.Option.{option_map}
use Rattle.desk_core.specs.Head.{newest_in}
use Rattle.cli_write.specs.TextsBack.{exports_file}
use Rattle.cli_write.proofs.texts_back.newest_exports.Goals as goal

pub returns : goal.returns
returns c = c.newest_file.ensures ∙ ap (λ (name : List ℕ). option_map exports_file (newest_in c.args.listed.now.heads.now name)) (c.as_str.ensures.value ∙ c.in_ok-name.ensures)
