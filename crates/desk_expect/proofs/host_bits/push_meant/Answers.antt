use Rattle.std.proofs.Common.{◌≡◌, ◌∙◌, ◌++◌, List, OnOk, ap, subst, sym, ℕ}
use Rattle.std.specs.Prelude.{codes}
use Rattle.std.specs.String.{string_bytes}
use Rattle.std.proofs.lemmas.List.{append_assoc}
use Rattle.desk_expect.specs.HostBits.{name_text, net_text}
use Rattle.desk_expect.proofs.host_bits.push_meant.Goals as goal

pub returns : goal.returns
returns c =
    let old = string_bytes c.args.told.now in
    let written = name_text c.args.file.now c.args.number c.args.name.now in
    let said = codes " has host bits: " in
    let net = net_text c.args.net in
    subst (λ (bytes : List ℕ). OnOk c.push_net.result (string_bytes c.push_net.new.told ≡ bytes))
    (ap (λ (t : List ℕ). t ++ net) (c.in_ok-push_str.ensures.bytes ∙ ap (λ (t : List ℕ). t ++ said) c.in_ok-push_written.ensures)
    ∙ append_assoc (old ++ written) said net
    ∙ append_assoc old written (said ++ net)
    ∙ ap (λ (t : List ℕ). old ++ t) (sym (append_assoc written said net))) c.push_net.ensures
