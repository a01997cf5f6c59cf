-- The lines so far were added.
use Rattle.std.proofs.Common.{◌≡◌, ◌++◌, length, take}
use Rattle.std.specs.Str.Lines.{lines}
use Rattle.std.specs.String.{string_bytes}
use Rattle.page_filesystem.specs.Texts.{text_rows}
use Rattle.page_filesystem.proofs.texts.push_text_rows.Given as goal

abbrev pub invariant-loop-line : goal.invariant-loop-line
invariant-loop-line l = record {
  counted : l.number ≡ length l.yielded;
  added : string_bytes l.page ≡ string_bytes l.initial.page ++ text_rows l.fs.0 l.notes 0 (take (length l.yielded) (lines l.text));
}
