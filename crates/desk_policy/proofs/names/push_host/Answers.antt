use Rattle.std.proofs.Common.{ap, ◌≡◌, ◌||◌, ◌∙◌, map, sym}
use Rattle.std.specs.Prelude.{Some}
use Rattle.std.specs.Result.{result_ok}
use Rattle.desk_text.specs.Address.{number_of, read_addr}
use Rattle.desk_text.specs.AddrSet.{is_among}
use Rattle.desk_policy.proofs.WrittenAddresses.{gains_one_more, host_written}
use Rattle.desk_policy.proofs.names.push_host.Goals as goal

pub returns-in-Some : goal.returns-in-Some
returns-in-Some c =
    let written : Some (number_of c.in-Some.address) ≡ result_ok (read_addr c.args.name.now) = rw c.in-Some.is at c.written_address.ensures in
    λ a. gains_one_more c.args.addresses.now.items _ c.in-Some.address c.in_ok-push.ensures.items a
    ∙ ap (λ b. is_among a (map number_of c.args.addresses.now.items) || b) (sym (host_written c.args.hosts.now c.args.name.now a _ written))
