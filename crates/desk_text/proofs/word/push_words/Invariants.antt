use Rattle.std.proofs.Common.{◌≡◌, ◌+◌, ◌-◌, ◌++◌, map, length, drop}
use Rattle.std.specs.Str.{IsCharBoundary}
use Rattle.desk_text.specs.Word.{words_at, has_open_quote}
use Rattle.desk_text.specs.Views.{word_of}
use Rattle.desk_text.proofs.word.push_words.Given as goal

abbrev pub invariant-loop-at : goal.invariant-loop-at
invariant-loop-at l = record {
  so_far : map word_of l.words.items ++ words_at (l.start + l.at) (drop l.at l.text) ≡ map word_of l.fn.words.items ++ words_at l.start l.text;
  closed : has_open_quote (drop l.at l.text) ≡ has_open_quote l.text;
  boundary : IsCharBoundary l.text l.at;
}

abbrev pub decreases-loop-at : goal.decreases-loop-at
decreases-loop-at l = length l.text - l.at
