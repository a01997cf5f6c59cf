use Rattle.std.proofs.Common.{◌≡◌, ◌-◌, length, take}
use Rattle.desk_text.specs.PrivateWord.{IsRun}
use Rattle.desk_text.specs.Word.{has_marks}
use Rattle.desk_text.proofs.word.word_end.Given as goal

abbrev pub invariant-loop-len : goal.invariant-loop-len
invariant-loop-len l = record {
  is_run : IsRun l.text l.len;
  marks : has_marks (take l.len l.text) ≡ l.marked;
}

abbrev pub decreases-loop-len : goal.decreases-loop-len
decreases-loop-len l = length l.text - l.len
