-- The words so far are paths, and these are them.
use Rattle.std.proofs.Common.{◌≡◌, false, map, take}
use Rattle.std.specs.List.{list_any}
use Rattle.cli_words.specs.Values.{is_no_path, paths_of}
use Rattle.cli_words.proofs.values.read_mount_points.Given as goal

abbrev pub invariant-loop-word : goal.invariant-loop-word
invariant-loop-word l = record {
  paths : l.mount_points.items ≡ paths_of (map (λ word. word.now) (take l.word-index l.words));
  good : list_any is_no_path (map (λ word. word.now) (take l.word-index l.words)) ≡ false;
}
