-- The words with a backslash are told, and then the line.
use Rattle.std.proofs.Common.{◌∙◌, ◌++◌, ap, append_assoc, map}
use Rattle.std.proofs.lemmas.Result.{on_ok_weaker}
use Rattle.desk_text.specs.Views.{word_of}
use Rattle.desk_remarks.specs.declared.remark.Remark.TheVariants.{V4Line}
use Rattle.desk_findings.specs.CheckOdd.{odd_at}
use Rattle.desk_findings.specs.OddWords.{odd_backslashes, odd_if}
use Rattle.desk_findings.proofs.odd_words.add_words.Goals as goal

pub returns : goal.returns
returns c =
    let old = map odd_at c.args.odds.now.items in
    let number = c.args.number in
    let told = c.in_ok-is_v4.ensures in
    let backslashes = odd_backslashes number (map word_of c.args.words.now) in
    on_ok_weaker c.add_if.result
    (λ last.
    last ∙ ap (λ l. l ++ odd_if c.in_ok-is_v4.is_v4 number V4Line 0) c.in_ok-add_backslashes.ensures
    ∙ append_assoc old backslashes (odd_if c.in_ok-is_v4.is_v4 number V4Line 0)
    ∙ (λ i. old ++ (backslashes ++ odd_if (told i) number V4Line 0)))
    c.add_if.ensures
