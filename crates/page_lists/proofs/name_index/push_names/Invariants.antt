-- The names so far were added.
use Rattle.std.proofs.Common.{◌≡◌, ◌++◌, map, take}
use Rattle.page_lists.specs.NameIndex.{on_line, written_value}
use Rattle.page_lists.proofs.name_index.push_names.Given as goal

abbrev pub invariant-loop-index : goal.invariant-loop-index
invariant-loop-index l = map written_value l.written.items ≡ map written_value l.fn.written.items ++ map (on_line l.fs.0 l.line) (take l.index l.names)
