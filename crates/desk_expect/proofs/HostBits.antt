-- The network that is told is what the name means.
use Rattle.std.proofs.Common.{◌≡◌, ◌==◌, ◌∙◌, ℕ, Bool, true, false, List, Option, Some, None, Result, Ok, Err, ap, inl, inr, sym, if◌then◌else◌}
use Rattle.std.specs.Prelude.{◌&&◌, nat_le}
use Rattle.std.specs.List.{after_first, before_first, list_any}
use Rattle.std.proofs.lemmas.Bool.{cases_Bool, cond-false, or_left}
use Rattle.desk_text.specs.Address.{read_short}
use Rattle.desk_text.specs.Network.{Block, WrittenNet, block_of, last_of, read_net_text, with_addr}
use Rattle.desk_text.specs.declared.address.AddrFault.{AddrFault}
use Rattle.desk_policy.specs.Names.{stands_for}
use Rattle.desk_expect.specs.HostBits.{ToldNetworksAreMeant, net_around, net_in, net_meant, unless_first}
use Rattle.desk_expect.specs.Names.{has_slash, is_between, is_range_like, is_span_like, net_span, network_span, range_span, span_of, written_span}

kept_by : (first : Bool) (block net : Block) → (if first then None else Some block) ≡ Some net → block ≡ net
kept_by true block net is = absurd (cc)
kept_by false block net is = cc

kept : (addr : ℕ) (block net : Block) → unless_first addr block ≡ Some net → block ≡ net
kept addr block net is = kept_by (block.first == addr) block net is

meant_with : (addr : ℕ) (prefix : Option ℕ) (net : Block) (address : ℕ) → net_around addr prefix ≡ Some net → is_between (written_span addr prefix) address ≡ (nat_le net.first address && nat_le address (last_of net))
meant_with addr None net address is = absurd (cc)
meant_with addr (Some prefix) net address is = ap (λ (block : Block). nat_le block.first address && nat_le address (last_of block)) (kept addr (block_of addr prefix) net is)

meant_of : (written : Result WrittenNet AddrFault) (net : Block) (address : ℕ) → net_in written ≡ Some net → is_between (net_span written) address ≡ (nat_le net.first address && nat_le address (last_of net))
meant_of (Ok written) net address is = meant_with written.addr written.prefix net address is
meant_of (Err fault) net address is = absurd (cc)

-- without a `/` there is no prefix
no_net : (read : Result ℕ AddrFault) (net : Block) → net_in (with_addr read (λ addr. Ok (record { addr = addr; prefix = None }))) ≡ Some net → ⊥
no_net (Ok addr) net is = absurd (cc)
no_net (Err fault) net is = absurd (cc)

slash_if : (name : List ℕ) (net : Block) → net_meant name ≡ Some net → has_slash name ≡ true
slash_if name net is = elim (cases_Bool (has_slash name)) as (λ _. has_slash name ≡ true) [
  | inl has ↦ has
  | inr lacks ↦ absurd (no_net (read_short name) net (sym (ap net_in (cond-false (has_slash name) _ _ lacks)) ∙ is))
]

pub told_is_meant : ToldNetworksAreMeant
told_is_meant netgroups hosts name net address is =
    let slash : has_slash name ≡ true = slash_if name net is in
    let like : is_span_like name ≡ true = or_left (has_slash name) (is_range_like name) slash in
    ap (λ (b : Bool). if b then is_between (span_of name) address else stands_for netgroups hosts name address) like
    ∙ ap (λ (b : Bool). is_between (if b then network_span name else (if list_any (λ c. c == 45) name then range_span (before_first (λ c. c == 45) name) (after_first (λ c. c == 45) name) else None)) address) slash
    ∙ meant_of (read_net_text name) net address is
