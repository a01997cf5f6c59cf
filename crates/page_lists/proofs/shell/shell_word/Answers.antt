use Rattle.std.proofs.Common.{◌≡◌, ◌∙◌, sym}
use Rattle.std.specs.Str.{chars, encode_utf8_all}
use Rattle.std.specs.String.{string_bytes}
use Rattle.std.proofs.lemmas.Result.{IfOk-weaker}
use Rattle.page_lists.specs.Shell as spec
use Rattle.page_lists.proofs.Quoted.{plain_word, quoted_word}
use Rattle.page_lists.proofs.shell.shell_word.Goals as goal

pub returns-then-is_plain : goal.returns-then-is_plain
returns-then-is_plain c =
    let text = c.args.text.now in
    IfOk-weaker c.from_str.result (λ word. string_bytes word ≡ text) (λ word. string_bytes word ≡ spec.shell_word text)
    (λ word is. is ∙ plain_word text c.utf8.text (sym c.is_plain.ensures ∙ c.if-is_plain.true)) c.from_str.ensures.ok

pub returns-else-is_plain : goal.returns-else-is_plain
returns-else-is_plain c =
    let text = c.args.text.now in
    IfOk-weaker c.quoted.result (λ word. string_bytes word ≡ encode_utf8_all (spec.quoted (chars text)))
    (λ word. string_bytes word ≡ spec.shell_word text)
    (λ word is. is ∙ quoted_word text (sym c.is_plain.ensures ∙ c.if-is_plain.false)) c.quoted.ensures
