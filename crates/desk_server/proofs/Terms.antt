-- The lines that are selected for an address have the same terms.
use Rattle.std.proofs.Common.{◌≡◌, ◌≢◌, ◌∙◌, ℕ, ◌<◌, ◌^◌, List, Some, ap, arith, inl, inr, refl, sym}
use Rattle.std.specs.Prelude.{Result, Ok, Err}
use Rattle.std.specs.List.{Contains}
use Rattle.std.specs.Option.{is_some}
use Rattle.std.proofs.lemmas.Bool.{cases_order, leb-true}
use Rattle.desk_exports.specs.declared.entry.Terms.{Terms}
use Rattle.desk_policy.specs.Contradiction.{AreConsistent, MatchAlike}
use Rattle.desk_policy.specs.Policy.{AreAscending}
use Rattle.desk_policy.specs.Verdict.{Grant}
use Rattle.desk_policy.specs.Weights.{is_at_most, selected, weight_of}
use Rattle.desk_policy.specs.declared.row.Row.{Row}
use Rattle.desk_policy.specs.declared.verdict.Denial.{Denial}
use Rattle.desk_who.specs.Who.{VerdictsAreDiscrete}
use Rattle.desk_idle.proofs.Bringing.{one_line, selected_has}
use Rattle.desk_idle.proofs.OneKey as one_key
use Rattle.desk_server.proofs.Lists.{all_has}

-- ---- terms are the same or not

some_grant : Terms → Result Grant Denial
some_grant terms = Ok (record { fs = record { 0 = 0 }; line = 0; terms = terms })

terms_in : Result Grant Denial → Terms → Terms
terms_in (Ok grant) other = grant.terms
terms_in (Err denial) other = other

same_terms_from : VerdictsAreDiscrete → (terms other : Terms) → ((terms ≢ other) → ⊥) → terms ≡ other
unfolding some_grant terms_in
same_terms_from compare terms other not_apart =
    elim (compare (some_grant terms) (some_grant other)) [
      | inl same ↦ ap (λ v. terms_in v terms) same
      | inr apart ↦ absurd (not_apart (λ same. apart (ap some_grant same)))
    ]

-- ---- those of selected lines

-- selected lines match alike
pub alike : (rows : List Row) (address : ℕ) (row other : Row) → Contains (selected rows address) row → Contains (selected rows address) other → MatchAlike row other address
alike rows address row other chosen chosen' =
    let w = one_key.weighs rows address row chosen in
    let v = one_key.weighs rows address other chosen' in
    let low = leb-true v.weight w.weight (sym (ap (λ o. is_at_most o w.weight) v.is) ∙ all_has (λ (r : Row). is_at_most (weight_of r address) w.weight) rows other w.most (selected_has rows address other chosen')) in
    let high = leb-true w.weight v.weight (sym (ap (λ o. is_at_most o v.weight) w.is) ∙ all_has (λ (r : Row). is_at_most (weight_of r address) v.weight) rows row v.most (selected_has rows address row chosen)) in
    let same : v.weight ≡ w.weight = omega arith in
    (ap is_some w.is, v.is ∙ ap (λ (n : ℕ). Some n) same ∙ sym w.is)

module _ (compare : VerdictsAreDiscrete) (rows : List Row) (ascending : AreAscending rows) (consistent : AreConsistent rows) (address : ℕ) (below : address < 2 ^ 32) where
  contradict : (row other : Row) → Contains (selected rows address) row → Contains (selected rows address) other → other.entry.line < row.entry.line → row.entry.terms ≢ other.entry.terms → ⊥
  contradict row other chosen chosen' less apart =
      consistent row.entry.line other.entry.line address
      (record {
        row = row;
        other = other;
        has_row = selected_has rows address row chosen;
        has_other = selected_has rows address other chosen';
        is_later = refl;
        is_earlier = refl;
        order = less;
        is_address = below;
        alike = alike rows address row other chosen chosen';
        apart = apart;
      })

  pub one_terms : (row other : Row) → Contains (selected rows address) row → Contains (selected rows address) other → row.entry.terms ≡ other.entry.terms
  one_terms row other chosen chosen' =
      elim (cases_order row.entry.line other.entry.line) [
        | inl same ↦ ap (λ (r : Row). r.entry.terms) (one_line rows row other ascending (selected_has rows address row chosen) (selected_has rows address other chosen') same)
        | inr apart ↦ elim apart [
          | inl less ↦ sym (same_terms_from compare other.entry.terms row.entry.terms (λ ne. contradict other row chosen' chosen less ne))
          | inr more ↦ same_terms_from compare row.entry.terms other.entry.terms (λ ne. contradict row other chosen chosen' more ne)
        ]
      ]
