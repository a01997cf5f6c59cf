use Rattle.std.proofs.Common.{None, Ok, sym, ap, ◌∙◌, lit<}
use Rattle.std.proofs.lemmas.Str.Pattern.{split_once_first}
use Rattle.desk_text.specs.Network.{with_addr}
use Rattle.desk_text.proofs.NetTexts.{no_prefix}
use Rattle.desk_text.proofs.network.NetText.read.Goals as goal

pub returns-in_ok-addr-in-None : goal.returns-in_ok-addr-in-None
returns-in_ok-addr-in-None c =
    let text = c.args.text.now in
    let none = split_once_first 47 text None c.in-None.ensures.cases (lit< tt) in
    ap (λ r. with_addr r (λ addr. Ok (record { addr = addr; prefix = None }))) c.in_ok-addr-in-None.ensures ∙ sym (no_prefix text none)
