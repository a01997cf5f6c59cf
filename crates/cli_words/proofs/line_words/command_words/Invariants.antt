-- The words so far are texts, and stand behind the program's name.
use Rattle.std.proofs.Common.{◌≡◌, ◌∷◌, codes, false, map, take}
use Rattle.std.specs.List.{list_any}
use Rattle.cli_words.specs.LineWords.{is_not_utf8}
use Rattle.cli_words.proofs.line_words.command_words.Given as goal

abbrev pub invariant-loop-index : goal.invariant-loop-index
invariant-loop-index g l = record {
  texts : map (λ word. word.now) l.line.items ≡ codes "exportdesk" ∷ map g.S.AsSlice.items (take l.index l.words);
  good : list_any is_not_utf8 (map g.S.AsSlice.items (take l.index l.words)) ≡ false;
}
