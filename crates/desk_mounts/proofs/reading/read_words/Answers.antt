-- The words of the slice are those of the line.
use Rattle.std.proofs.Common.{arith, subst}
use Rattle.desk_text.specs.Reading.{Reads}
use Rattle.desk_mounts.proofs.LineWords.{second_of_four, second_of_two}
use Rattle.desk_mounts.proofs.reading.read_words.Goals as goal

pub returns-in-len2 : goal.returns-in-len2
returns-in-len2 c =
    subst (Reads c.read_second.result) (second_of_two c.args.words.now c.path-item-then-words-lt3.result (omega arith) (omega arith) c.path-item-then-words-lt3.is) c.read_second.ensures

pub returns-in-len4-up : goal.returns-in-len4-up
returns-in-len4-up c =
    subst (Reads c.read_kept.result) (second_of_four c.args.words.now c.path-item-2.result c.kind-item.result (omega arith) c.path-item-2.is c.kind-item.is) c.read_kept.ensures
