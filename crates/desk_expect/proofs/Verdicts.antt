-- What the rule of an expectation finds, where that may change, and what it asks.
use Rattle.std.proofs.Common.{◌≡◌, ℕ, ◌+◌, List, cond, refl, sym, ap, ◌∙◌}
use Rattle.std.specs.Prelude.{Err, None, Option, Some}
use Rattle.std.specs.Option.{option_map}
use Rattle.desk_text.specs.Address.{number_of}
use Rattle.desk_tables.specs.FileSystems.{fs_of}
use Rattle.desk_policy.specs.Policy.{Content}
use Rattle.desk_policy.specs.Verdict.{verdict_among, verdict_in, verdict_of}
use Rattle.desk_policy.specs.Weights.{selected}
use Rattle.desk_policy.specs.declared.verdict.Denial.TheVariants.{NoFileSystem}
use Rattle.desk_who.specs.Searching.{AreRuleStarts, AsksThoseThatMatch, IsRuleOf, found_at, found_in}
use Rattle.desk_who.proofs.Asked.{own_asks, own_steady}
use Rattle.desk_server.specs.Server.{server_verdict_among, server_verdict_in, server_verdict_of}
use Rattle.desk_server.proofs.Asked.{server_asks, server_steady}
use Rattle.desk_expect.specs.Judging.{judged, judged_at, judged_of, judged_value, judging_rule}
use Rattle.desk_expect.specs.PrivateAudience.{AreAudienceStarts}
use Rattle.desk_expect.specs.declared.expectation.Expectation.{Expectation}

module _ (expectation : Expectation) where
  -- it finds what breaks the expectation
  found_by : (content : Content) (path : List (List ℕ)) (address : ℕ) (fs : Option ℕ)
      → found_in (judging_rule expectation) content path fs address ≡ judged_at expectation address (verdict_in content address path fs) (server_verdict_in content address path fs)
  found_by content path address None = refl
  found_by content path address (Some fs) = refl

  pub rule_finds : (content : Content) (path : List (List ℕ)) (address : ℕ) → found_at (judging_rule expectation) content path address ≡ judged_of expectation content path address
  unfolding verdict_of server_verdict_of
  rule_finds content path address = found_by content path address (fs_of content.table path)

  pub rule_asks : AsksThoseThatMatch (judging_rule expectation)
  rule_asks fs listing other rows address agree =
      ap (λ own. judged_at expectation address own (server_verdict_among fs listing rows address)) (own_asks listing other address fs rows agree)
      ∙ ap (judged_at expectation address (verdict_among fs other (selected rows address))) (server_asks listing other address fs rows agree)

  pub rule_starts : (starts : List ℕ) → AreAudienceStarts expectation.audience starts → AreRuleStarts (judging_rule expectation) starts
  rule_starts starts are = record {
    nowhere = record {
      ascend = are.ascend;
      behind = are.after_first;
      steady = λ address fits none. ap (λ about. cond about (judged expectation.forbids expectation.action (Err NoFileSystem) (Err NoFileSystem)) None) (are.steady address fits none);
    };
    among = λ fs listing rows address fits none same.
        ap (λ own. judged_at expectation (address + 1) own (server_verdict_among fs listing rows (address + 1))) (own_steady fs listing rows address (address + 1) same)
        ∙ ap (judged_at expectation (address + 1) (verdict_among fs listing (selected rows address))) (server_steady address (address + 1) fs listing rows same)
        ∙ ap (λ about. cond about (judged expectation.forbids expectation.action (verdict_among fs listing (selected rows address)) (server_verdict_among fs listing rows address)) None) (are.steady address fits none);
  }

  -- so it says what the search for it finds
  pub is_rule : (content : Content) (starts : List ℕ) → AreAudienceStarts expectation.audience starts
      → IsRuleOf judged_value (λ address path value. option_map judged_value value ≡ judged_of expectation content path (number_of address)) content starts (judging_rule expectation)
  is_rule content starts are = record {
    finds = λ address path value is. is ∙ sym (rule_finds content path (number_of address));
    starts = rule_starts starts are;
    asks = rule_asks;
  }
