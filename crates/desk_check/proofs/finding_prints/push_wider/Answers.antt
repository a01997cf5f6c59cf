-- Five pieces are added one after the other.
use Rattle.std.proofs.Common.{◌++◌, ◌∙◌, List, ap, codes, ℕ}
use Rattle.std.specs.Option.{option_copied}
use Rattle.std.specs.String.{string_bytes}
use Rattle.desk_text.specs.Address.{addr_text, number_of}
use Rattle.desk_check.specs.FindingPrints.{granted_text, remedy_of, remedy_text}
use Rattle.desk_check.proofs.Pieces.{five, on_ok}
use Rattle.desk_check.proofs.finding_prints.push_wider.Goals as goal

pub returns : goal.returns
returns c =
    let directory = option_copied c.args.directory in
    let granted = string_bytes c.push_granted.new.text in
    on_ok c.push_remedy.result
    (λ e. five (string_bytes c.args.text.now) (codes "mountd(8) also lets ") (addr_text (number_of c.args.address)) (codes " mount ") (granted_text directory) (remedy_text c.args.line.origins.now c.args.line.line (remedy_of directory))
    (string_bytes c.push_str.new.self) (string_bytes c.push_address.new.text) (string_bytes c.push_str-2.new.self) granted (string_bytes c.push_remedy.new.text)
    c.in_ok-push_str.ensures.bytes c.in_ok-push_address.ensures c.in_ok-push_str-2.ensures.bytes c.in_ok-push_granted.ensures
    (e ∙ ap (λ (remedy : List ℕ). granted ++ remedy_text c.args.line.origins.now c.args.line.line remedy) c.remedy_of.ensures))
    c.push_remedy.ensures
