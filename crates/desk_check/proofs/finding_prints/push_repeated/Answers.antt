-- Three pieces are added one after the other.
use Rattle.std.proofs.Common.{◌++◌, codes}
use Rattle.std.specs.String.{string_bytes}
use Rattle.desk_text.specs.Address.{addr_text, number_of}
use Rattle.desk_check.specs.FindingPrints.{taken_text}
use Rattle.desk_check.proofs.Pieces.{added, on_ok, three}
use Rattle.desk_check.proofs.finding_prints.push_repeated.Goals as goal

pub returns : goal.returns
returns c =
    let behind = string_bytes c.push_address.new.text in
    let more = codes ": write the directories on one line" in
    on_ok c.push_str.result
    (three (string_bytes c.args.text.now) (taken_text c.args.line.origins.now c.args.line.line) (addr_text (number_of c.args.address)) more (string_bytes c.push_taken.new.text) behind (string_bytes c.push_str.new.self)
    c.in_ok-push_taken.ensures c.in_ok-push_address.ensures)
    (added c.push_str.result (string_bytes c.push_str.new.self) (behind ++ more) behind c.push_str.ensures.bytes)
