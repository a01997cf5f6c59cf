-- The names of the file systems so far are listed.
use Rattle.std.proofs.Common.{◌≡◌, map}
use Rattle.std.specs.List.{flat_map, range_with_len}
use Rattle.page_lists.specs.NameIndex.{filesystem_names, written_value}
use Rattle.page_lists.proofs.name_index.written_names.Given as goal

abbrev pub invariant-loop-place : goal.invariant-loop-place
invariant-loop-place l = map written_value l.written.items ≡ flat_map (filesystem_names l.policy) (range_with_len 0 l.place)
