use Rattle.std.proofs.Common.{◌≡◌, ◌<◌, ◌+◌, ◌++◌, ◌∷◌, ℕ, List, [], arith, get_or, length, map, subst, sym, take}
use Rattle.std.proofs.lemmas.List.{get_or-map, length-map, take_more}
use Rattle.desk_text.specs.Address.{number_of}
use Rattle.desk_text.specs.declared.address.Addr.{Addr}
use Rattle.desk_policy.proofs.KeyPlaces.{before_less}
use Rattle.desk_policy.specs.Keys.{Host, is_host_among}
use Rattle.desk_policy.specs.Policy.{rows_of}
use Rattle.desk_server.specs.PrivateRepeatedClients.{IsSharing, earlier_of, is_key}
use Rattle.desk_server.proofs.Sharing.{one_host}
use Rattle.desk_server.proofs.repeated_client.sharing_hosts.Goals as goal

pub loop-address-preserved : goal.loop-address-preserved
loop-address-preserved c =
    let rows = rows_of c.args.index.now c.args.fs.0 in
    let line = c.args.line in
    let items = c.args.addresses.now in
    let addresses = map number_of items in
    let i = c.loop-address.address-index in
    let within : i < length items = c.loop-address-test.true in
    let zero : Addr = record { number = 0 } in
    let few : length addresses ≡ length items = length-map items number_of in
    let number = get_or addresses i 0 in
    let is : number ≡ number_of (get_or items i zero) = get_or-map number_of items i zero 0 within in
    let up : take (i + 1) addresses ≡ take i addresses ++ number ∷ [] = take_more addresses i 0 (omega arith) in
    let more = one_host (take i addresses) number (before_less addresses i c.requires.addresses (omega arith)) rows line c.loop-address.found c.sharing_key.result c.loop-address.invariant
    (subst (λ (n : ℕ). IsSharing rows line (is_key (Host n)) c.sharing_key.result) (sym is) c.sharing_key.ensures) in
    subst (λ found. IsSharing rows line (is_host_among (take (i + 1) addresses)) found) (sym c.earlier_of-found.ensures)
    (subst (λ (xs : List ℕ). IsSharing rows line (is_host_among xs) (earlier_of c.loop-address.found c.sharing_key.result)) (sym up) more)
