use Rattle.std.proofs.Common.{List, map, subst, ℕ, ◌∙◌}
use Rattle.cli_files.specs.SiteFolder.{site_paths}
use Rattle.cli_write.specs.Replacing.{path_in, text_in}
use Rattle.cli_write.specs.WriteCommand.{WritesNamed, site_names}
use Rattle.cli_write.proofs.write_command.write_texts.Goals as goal

pub returns : goal.returns
returns c =
    let paths = map path_in c.new_texts-files.result in
    let texts = map text_in c.new_texts-files.result in
    subst (λ (ts : List (List ℕ)). WritesNamed site_names (site_paths c.args.dir.now) ts c.write_files.result) c.new_texts-files.ensures.texts
    (subst (λ (ps : List (List ℕ)). WritesNamed site_names ps texts c.write_files.result) (c.new_texts-files.ensures.paths ∙ c.in_ok-paths.ensures)
    (subst (λ (ns : List (List ℕ)). WritesNamed ns paths texts c.write_files.result) c.new_texts-files.ensures.names c.write_files.ensures))
