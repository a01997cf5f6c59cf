-- Each place so far is on the line, at its word.
use Rattle.std.proofs.Common.{ℕ, List, map, take}
use Rattle.std.specs.List.{All, AllZip, IsAmong}
use Rattle.desk_text.specs.Lines.{logical_lines}
use Rattle.desk_text.specs.Views.{word_of}
use Rattle.desk_text.specs.Word.{RawWord}
use Rattle.desk_findings.specs.CheckOdd.{IsOfWord, IsOn}
use Rattle.desk_findings.proofs.check_odd.places_of.Given as goal

abbrev pub invariant-loop-word : goal.invariant-loop-word
invariant-loop-word l = record {
  on : (text : List ℕ) → IsAmong (logical_lines text) l.line → All (IsOn text l.line) l.places.items;
  words : AllZip (λ (word : RawWord) place. IsOfWord l.line place word) (map word_of (take l.word-index l.words)) l.places.items;
}
