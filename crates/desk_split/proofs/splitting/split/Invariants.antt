-- No line so far has a fault, and each text has those that go to its file system.
use Rattle.std.proofs.Common.{◌≡◌, [], map, take}
use Rattle.std.specs.String.{string_bytes}
use Rattle.desk_exports.specs.Laws.{faults}
use Rattle.desk_split.specs.Splitting.{destination_of, texts_to}
use Rattle.desk_split.proofs.splitting.split.Given as goal

abbrev pub invariant-loop-line : goal.invariant-loop-line
invariant-loop-line l = record {
  sound : faults (destination_of l.filesystems) (take l.line-index l.line-items) ≡ [];
  texts : map string_bytes l.texts.items ≡ texts_to l.filesystems (take l.line-index l.line-items);
}
