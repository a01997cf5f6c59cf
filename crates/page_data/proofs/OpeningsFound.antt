-- What the search for openings finds, where that may change, and what it asks.
use Rattle.std.proofs.Common.{◌≡◌, ℕ, ◌+◌, ◌∙◌, List, [], ap, arith, refl, subst, sym}
use Rattle.std.specs.Prelude.{None, Option, Some}
use Rattle.std.specs.List.Sorted.{IsStrictlyIncreasing}
use Rattle.std.specs.Option.{option_map}
use Rattle.desk_text.specs.Address.{number_of}
use Rattle.desk_text.specs.AddrSet.{is_among}
use Rattle.desk_tables.specs.FileSystems.{fs_of}
use Rattle.desk_policy.specs.Policy.{Content}
use Rattle.desk_policy.specs.Verdict.{verdict_among, verdict_in, verdict_of}
use Rattle.desk_policy.specs.Weights.{selected}
use Rattle.desk_who.specs.Searching.{IsRuleOf, found_at, found_in}
use Rattle.desk_who.proofs.Asked.{own_asks, own_steady}
use Rattle.desk_server.specs.Server.{server_verdict_among, server_verdict_in, server_verdict_of}
use Rattle.desk_server.proofs.Asked.{server_asks, server_steady}
use Rattle.page_data.specs.Opening.{opening, opening_of, opening_rule, opening_value}

found_by : (content : Content) (path : List (List ℕ)) (address : ℕ) (fs : Option ℕ)
    → found_in opening_rule content path fs address ≡ opening (verdict_in content address path fs) (server_verdict_in content address path fs)
found_by content path address None = refl
found_by content path address (Some fs) = refl

pub rule_finds : (content : Content) (path : List (List ℕ)) (address : ℕ) → found_at opening_rule content path address ≡ opening_of content path address
unfolding verdict_of server_verdict_of
rule_finds content path address = found_by content path address (fs_of content.table path)

-- so the rule says what the search finds
pub is_rule : (content : Content) (starts : List ℕ) → starts ≡ []
    → IsRuleOf opening_value (λ address path value. option_map opening_value value ≡ opening_of content path (number_of address)) content starts opening_rule
is_rule content starts none = record {
  finds = λ address path value is. is ∙ sym (rule_finds content path (number_of address));
  starts = record {
    nowhere = record {
      ascend = subst IsStrictlyIncreasing (sym none) (λ k lt. absurd (omega arith));
      behind = ap (is_among 0) none;
      steady = λ address fits away. refl;
    };
    among = λ fs listing rows address fits away same.
        ap (λ own. opening own (server_verdict_among fs listing rows (address + 1))) (own_steady fs listing rows address (address + 1) same)
        ∙ ap (opening (verdict_among fs listing (selected rows address))) (server_steady address (address + 1) fs listing rows same);
  };
  asks = λ fs listing other rows address agree.
      ap (λ own. opening own (server_verdict_among fs listing rows address)) (own_asks listing other address fs rows agree)
      ∙ ap (opening (verdict_among fs other (selected rows address))) (server_asks listing other address fs rows agree);
}
