-- The place is that of the word, if each quote closes.
use Rattle.std.proofs.Common.{◌≡◌, ◌∙◌, ◌≤◌, Ok, ap, length, map, sym}
use Rattle.desk_text.specs.Views.{word_of}
use Rattle.desk_text.specs.Word.{read_words}
use Rattle.desk_expect.proofs.FaultWords.{at_found, at_open, at_past}
use Rattle.desk_expect.proofs.faults.place_of.Goals as goal

pub returns-in-Some-clause-word : goal.returns-in-Some-clause-word
returns-in-Some-clause-word c =
    let there = c.in-Some.ensures.lookup in
    let read : read_words c.args.line.now ≡ Ok (map word_of c.deref.result.now) = c.in-Ok.ensures ∙ ap (λ ws. Ok (map word_of ws)) (sym c.deref.ensures.value) in
    at_found c.args.line.now c.deref.result.now c.args.index c.of_word.result c.in-Some.word.now read there.3.0 there.1 c.of_word.ensures.exact

pub returns-in-Ok-clause-word : goal.returns-in-Ok-clause-word
returns-in-Ok-clause-word c =
    let past : length c.deref.result.now ≤ c.args.index = (rw c.in-None.is at c.get.ensures.lookup).3 in
    let read : read_words c.args.line.now ≡ Ok (map word_of c.deref.result.now) = c.in-Ok.ensures ∙ ap (λ ws. Ok (map word_of ws)) (sym c.deref.ensures.value) in
    at_past c.args.line.now c.deref.result.now c.args.index c.of_first_line.result read past

pub returns-in-Err-Fault-clause-word : goal.returns-in-Err-Fault-clause-word
returns-in-Err-Fault-clause-word c = at_open c.args.line.now c.in-Err-Fault.field-0-0 c.args.index c.open_quote.result (rw c.in-Err-Fault.field-0-is at c.in-Err-Fault.ensures)
