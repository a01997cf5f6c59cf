use Rattle.std.proofs.Common.{◌≡◌, ◌∙◌, List, [], ◌∷◌, subst, sym, ℕ}
use Rattle.std.specs.Prelude.{IfSome, Option, Some}
use Rattle.std.specs.Result.{result_ok}
use Rattle.desk_text.specs.Address.{number_of, read_addr}
use Rattle.desk_policy.specs.Names.{addresses_of_names}
use Rattle.desk_policy.proofs.KnownAddresses.{if_ok}
use Rattle.desk_policy.proofs.WrittenAddresses.{only_written}
use Rattle.desk_policy.proofs.known_names.KnownNames.addresses_of_name.Goals as goal

pub returns-in-Some-clause-addresses : goal.returns-in-Some-clause-addresses
returns-in-Some-clause-addresses c =
    let written : Some (number_of c.in-Some.address) ≡ result_ok (read_addr c.args.name.now) = rw c.in-Some.is at c.written_address.ensures in
    c.of_address.ensures ∙ sym (only_written c.args.netgroups.now c.args.hosts.now c.args.name.now (number_of c.in-Some.address) written)

pub returns-in-Some-get-clause-addresses : goal.returns-in-Some-get-clause-addresses
returns-in-Some-get-clause-addresses c =
    let all = addresses_of_names c.args.netgroups.now c.args.hosts.now (c.args.name.now ∷ []) in
    let known : c.in-Some-get.known.now ≡ all = subst (λ (o : Option (List ℕ)). IfSome o (λ addresses. addresses ≡ all)) (sym c.in-Some-get.ensures.value) (c.requires c.args.name.now) in
    if_ok c.share.result (λ addresses is. is ∙ known) c.share.ensures
