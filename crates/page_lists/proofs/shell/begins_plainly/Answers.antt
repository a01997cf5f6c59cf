use Rattle.std.proofs.Common.{◌∙◌, ap, get_or, sym}
use Rattle.std.specs.Prelude.{◌==◌, not}
use Rattle.page_lists.proofs.Quoted.{begins, empty_begins_not}
use Rattle.page_lists.proofs.shell.begins_plainly.Goals as goal

pub returns-then-is_empty : goal.returns-then-is_empty
returns-then-is_empty c = empty_begins_not c.args.text.now c.utf8.text (sym c.is_empty.ensures ∙ c.if-is_empty.true)

pub returns : goal.returns
returns c =
    ap (λ bytes. not (get_or bytes 0 0 == 45)) c.as_bytes.ensures.value
    ∙ begins c.args.text.now c.utf8.text (sym c.is_empty.ensures ∙ c.if-is_empty.false)
