use Rattle.std.proofs.Common.{◌∙◌, ap, length, sym}
use Rattle.std.proofs.lemmas.List.{length-map}
use Rattle.page_findings.specs.Lines.{line_value}
use Rattle.page_findings.proofs.figures.figures_of_site.Goals as goal

pub returns : goal.returns
returns c = record {
  filesystems = c.len.ensures ∙ ap length c.filesystems.ensures;
  all = sym (length-map c.args.lines.now line_value);
  directories = c.in_ok-directories.ensures;
  for_everybody = c.count_for_everybody.ensures;
  for_everybody_read_write = c.count_writable_by_everybody.ensures;
  root_kept = c.count_root_kept.ensures;
  root_kept_for_networks = c.count_root_kept_for_networks.ensures;
  without_effect = c.count_without_effect.ensures;
}
