-- The lines of those so far were added.
use Rattle.std.proofs.Common.{◌≡◌, ◌++◌, take}
use Rattle.std.specs.List.{flat_map}
use Rattle.std.specs.String.{string_bytes}
use Rattle.desk_mounts.specs.SiteLines.{site_line}
use Rattle.desk_mounts.proofs.site_lines.push_lines.Given as goal

abbrev pub invariant-loop-mount : goal.invariant-loop-mount
invariant-loop-mount l = string_bytes l.text ≡ string_bytes l.initial.text ++ flat_map site_line (take l.mount-index l.mounts)
