-- The lines so far that never decide, each with its list.
use Rattle.std.proofs.Common.{◌≡◌, map, take}
use Rattle.std.specs.Prelude.{All, filter}
use Rattle.desk_impact.specs.Sections.{section_value}
use Rattle.page_findings.specs.Deciding.{never_decides}
use Rattle.page_findings.specs.PrivateDeciding.{AreKnown}
use Rattle.page_findings.proofs.Told.{IsListedIn}
use Rattle.page_findings.proofs.deciding.deciding_lines.Given as goal

abbrev pub invariant-loop-place : goal.invariant-loop-place
invariant-loop-place l = record {
  known : AreKnown (map section_value l.sections) l.lists;
  lines : map (λ one. one.line) l.lines.items ≡ map (λ one. one.line) (filter (λ one. never_decides one.reasons) (take l.place l.reasons));
  each : All (IsListedIn l.policy l.fn.fs.0 (map section_value l.sections) l.lists.lists) l.lines.items;
}
