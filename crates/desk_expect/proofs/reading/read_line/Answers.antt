use Rattle.std.proofs.Common.{◌∙◌, ap, subst, sym}
use Rattle.desk_expect.specs.PrivateReading.{ReadsLine}
use Rattle.desk_expect.specs.Reading.{values_answer, words_answer}
use Rattle.desk_expect.proofs.reading.read_line.Goals as goal

pub returns : goal.returns
returns c =
    let netgroups = c.args.netgroups.now in
    let hosts = c.args.hosts.now in
    let line = c.args.line.now in
    subst (λ answer. ReadsLine netgroups hosts answer c.read_words.result)
    (ap (λ n. words_answer netgroups hosts n c.as_slice.result.now) c.number.ensures ∙ ap (words_answer netgroups hosts line.number) c.as_slice.ensures.value
    ∙ ap (values_answer netgroups hosts line.number) (sym c.in_ok-words.ensures))
    c.read_words.ensures
