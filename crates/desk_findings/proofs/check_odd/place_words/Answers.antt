-- The words of the line are placed anew.
use Rattle.std.proofs.Common.{◌∙◌, subst, sym}
use Rattle.std.specs.List.{IsAmong}
use Rattle.desk_text.specs.Lines.{LogicalLine}
use Rattle.desk_findings.specs.PrivateCheckOdd.{AreWordsOn}
use Rattle.desk_findings.proofs.PlacedWords.{same_line}
use Rattle.desk_findings.proofs.check_odd.place_words.Goals as goal

pub returns-clause-places : goal.returns-clause-places
returns-clause-places c lines up member before text is line has same =
    let own = same_line lines up line c.args.line.now has member (same ∙ c.number-2.ensures) in
    let among = subst (λ ls. IsAmong ls c.args.line.now) is member in
    subst (λ (one : LogicalLine). AreWordsOn text one c.args.among c.in_ok-places.places.items) (sym own)
    (record { on = c.in_ok-places.ensures.on text among; are = c.in_ok-places.ensures.words })
