use Rattle.std.proofs.Common.{◌≡◌, false, map, take}
use Rattle.std.specs.List.{flat_map, list_any}
use Rattle.desk_text.specs.Word.{words_at, has_open_quote}
use Rattle.desk_text.specs.Views.{word_of}
use Rattle.desk_text.proofs.word.words_into.Given as goal

abbrev pub invariant-loop-part : goal.invariant-loop-part
invariant-loop-part l = record {
  so_far : map word_of l.words.items ≡ flat_map (λ part. words_at part.start part.text) (take l.part-index l.line.parts);
  closed : list_any (λ part. has_open_quote part.text) (take l.part-index l.line.parts) ≡ false;
}
