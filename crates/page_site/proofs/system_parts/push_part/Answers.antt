use Rattle.std.proofs.Common.{◌<◌, All, length, map, subst, sym}
use Rattle.std.specs.Prelude.{IfSome, slice_get}
use Rattle.desk_policy.specs.Policy.{Content}
use Rattle.page_places.specs.Groups.{HasToldSizes}
use Rattle.page_data.specs.Classes.{AreClassesIn, class_run}
use Rattle.page_data.specs.Laws.{IsSoundSite}
use Rattle.page_findings.specs.Lines.{AreLinesOfSite, line_value}
use Rattle.page_filesystem.specs.OwnParts.{IsReadableHead}
use Rattle.page_site.proofs.Parts.{head_readable}
use Rattle.page_site.proofs.system_parts.push_part.Goals as goal

pub push_file_system_of-requires : goal.push_file_system_of-requires
push_file_system_of-requires g c =
    let policy = sym c.policy-policy.ensures in
    let fs = c.args.told.now.fs.0 in
    record {
      sound = subst IsSoundSite policy c.requires.site.sound;
      listed = subst (λ (some : Content). fs < length some.table) policy c.requires.told.listed;
      classes = subst (λ some. AreClassesIn some fs (map class_run c.args.told.now.classes.now)) policy c.requires.told.classes;
      lines = subst (λ some. AreLinesOfSite some (map line_value c.args.telling.now.lines.now)) policy c.requires.site.lines;
      readable = subst (λ head. IfSome head IsReadableHead) (sym c.in_ok-head.ensures)
          (head_readable c.args.telling.now.heads.now c.requires.site.kept (slice_get c.policy-policy.result.now.table fs));
      proposal = c.requires.proposal;
      groups = subst (All HasToldSizes) (sym c.as_slice.ensures) c.requires.told.groups;
    }
