-- The directories so far are read.
use Rattle.std.proofs.Common.{◌≡◌, false, take}
use Rattle.std.specs.Prelude.{is_none}
use Rattle.std.specs.List.{filter_map, list_any}
use Rattle.desk_expect.specs.Scope.{read_scope}
use Rattle.desk_expect.proofs.reading.read_scopes.Given as goal

abbrev pub invariant-loop-dir : goal.invariant-loop-dir
invariant-loop-dir l = record {
  good : list_any (λ dir. is_none (read_scope dir)) (take l.dir-index l.dirs) ≡ false;
  read : l.scopes ≡ filter_map read_scope (take l.dir-index l.dirs);
}
