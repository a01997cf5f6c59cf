use Rattle.std.proofs.Common.{◌≡◌, ◌<◌, [], ◌∷◌, ◌++◌, ap, arith, get_or, length, subst, sym, take, ◌∙◌}
use Rattle.std.specs.Prelude.{slice_get, unwrap_or}
use Rattle.std.specs.BTreeMap.{get}
use Rattle.std.specs.Ordering.{is_eq, nat_cmp}
use Rattle.std.specs.Option.{option_or}
use Rattle.std.specs.Prelude.{None, Some, if◌then◌else◌}
use Rattle.std.proofs.lemmas.List.{get_or-map, length-map, take_more}
use Rattle.desk_text.specs.Address.{number_of}
use Rattle.desk_text.specs.AddrSet.{is_among}
use Rattle.desk_text.specs.declared.address.Addr.{Addr}
use Rattle.desk_policy.specs.Keys.{Host, is_host_among}
use Rattle.desk_policy.specs.PrivateFirstLines.{IsClashAmong, IsClashWith}
use Rattle.desk_policy.proofs.KeyClashes.{first_there, one_more}
use Rattle.desk_policy.proofs.KeyPlaces.{adds_more, before_less, not_yet}
use Rattle.desk_policy.proofs.first_lines.add_hosts.Goals as goal

pub loop-address-preserved : goal.loop-address-preserved
loop-address-preserved c =
    let earlier = c.args.earlier.now in
    let terms = c.args.row.now.entry.terms in
    let i = c.loop-address.address-index in
    let items = c.as_slice-address-items.result.now in
    let addresses = c.args.row.now.addrs in
    let given = c.as_slice-address-items.ensures in
    let zero : Addr = record { number = 0 } in
    let few : length addresses ≡ length items = ap length (sym given.value) ∙ length-map items number_of in
    let below : i < length items = c.loop-address-test.true in
    let n = get_or addresses i 0 in
    let is : c.number.result ≡ n = c.number.ensures ∙ sym (get_or-map number_of items i zero 0 below) ∙ ap (λ xs. get_or xs i 0) given.value in
    let above = before_less addresses i given.ascending (omega arith) in
    let old = get nat_cmp c.args.hosts.now n in
    let between = get nat_cmp c.loop-address.hosts n in
    let same : between ≡ old = not_yet (take i addresses) n (length earlier) old between above (c.loop-address.invariant.adds n) in
    let first = slice_get earlier c.in_ok-place.place in
    let place : c.in_ok-place.place ≡ unwrap_or old (length earlier) =
    c.in_ok-place.ensures.first ∙ ap (λ m. unwrap_or (get nat_cmp c.loop-address.hosts m) (length earlier)) is ∙ ap (λ o. unwrap_or o (length earlier)) same in
    let there = ap (slice_get earlier) place ∙ first_there earlier (Host n) old (c.requires n) in
    let more = one_more earlier terms (take i addresses) n (omega (arith, c.number.type_inv)) above first there
    c.loop-address.found c.clash_at.result c.loop-address.invariant.clash
    (subst (λ m. IsClashWith terms m first c.clash_at.result) (sym c.number.ensures ∙ is) c.clash_at.ensures) in
    let up = take_more addresses i 0 (omega arith) in
    record {
      clash = subst (λ xs. IsClashAmong earlier terms (is_host_among xs) c.earlier_clash-found.result) (sym up)
          (subst (λ found. IsClashAmong earlier terms (is_host_among (take i addresses ++ n ∷ [])) found) (sym c.earlier_clash-found.ensures) more);
      adds = λ address.
          let was = get nat_cmp c.args.hosts.now address in
          adds_more (take i addresses) n (length earlier) address was (get nat_cmp c.loop-address.hosts address) (get nat_cmp c.first_under.new.index address)
          (c.loop-address.invariant.adds address)
          (c.in_ok-place.ensures.adds address ∙ ap (λ m. option_or (get nat_cmp c.loop-address.hosts address) (if is_eq (nat_cmp m address) then Some (length earlier) else None)) is)
          ∙ ap (λ xs. option_or was (if is_among address xs then Some (length earlier) else None)) (sym up);
    }
