use Rattle.std.proofs.Common.{◌∙◌, ap, sym}
use Rattle.std.specs.Prelude.{◌&&◌}
use Rattle.std.specs.Str.{chars}
use Rattle.page_lists.specs.Shell.{has_plain_characters}
use Rattle.page_lists.proofs.shell.is_plain.Goals as goal

pub returns-then-begins_plainly : goal.returns-then-begins_plainly
returns-then-begins_plainly c =
    c.has_plain_characters.ensures ∙ ap (λ plainly. plainly && has_plain_characters (chars c.args.text.now))
    (sym (sym c.begins_plainly.ensures ∙ c.if-begins_plainly.true))
