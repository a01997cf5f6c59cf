use Rattle.std.proofs.Common.{◌++◌, ◌∙◌, [], ◌∷◌, ap}
use Rattle.std.specs.Char.{encode_utf8}
use Rattle.std.specs.Str.{chars}
use Rattle.std.specs.String.{string_bytes}
use Rattle.page_lists.proofs.Quoted.{in_marks}
use Rattle.page_lists.proofs.shell.quoted.Goals as goal

pub returns : goal.returns
unfolding encode_utf8
returns c =
    in_marks (chars c.args.text.now) (string_bytes c.push.new.self) (string_bytes c.push_quoted.new.word) (string_bytes c.push-2.new.self)
    (c.in_ok-push.ensures.bytes ∙ ap (λ text. text ++ 39 ∷ []) c.new-word.ensures.bytes) c.in_ok-push_quoted.ensures c.in_ok-push-2.ensures.bytes
