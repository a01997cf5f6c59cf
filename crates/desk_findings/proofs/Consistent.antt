-- Lines of which none is told as contradicting an earlier one do not contradict each other.
use Rattle.std.proofs.Common.{◌≡◌, ◌≢◌, ◌∙◌, ◌<◌, ◌++◌, ℕ, Bool, true, false, eqb, List, [], ◌∷◌, Option, Some, None, IsSome, ap, arith, get_or, inl, inr, length, refl, subst, suc, sym, zero}
use Rattle.std.specs.List.{All, Contains}
use Rattle.std.proofs.lemmas.Bool.{cases_lt, eq-eqb, eqb-true}
use Rattle.std.proofs.lemmas.List.{get_or_past}
use Rattle.desk_policy.specs.Contradiction.{AreConsistent, AreContradictions, DiffersFromFirst, HasNoContradiction}
use Rattle.desk_policy.specs.Policy.{AreAscending, Content, rows_of}
use Rattle.desk_policy.specs.Weights.{weight_of}
use Rattle.desk_policy.specs.declared.row.Row.{Row}
use Rattle.desk_policy.proofs.ByKeys.{first_up_to, found_is, some_is}
use Rattle.desk_policy.proofs.FirstDiffers.{at_or_before}
use Rattle.desk_findings.specs.CheckOdd.{AreContradictionsIn}

-- a line matches an address with this weight
weighs : ℕ → Option ℕ → Bool
weighs weight None = false
weighs weight (Some own) = eqb own weight

abbrev of_weight : ℕ → ℕ → Row → Bool
of_weight address weight row = weighs weight (weight_of row address)

weighs_is : (weight : ℕ) (o : Option ℕ) → weighs weight o ≡ true → o ≡ Some weight
unfolding weighs
weighs_is weight None e = absurd (cc)
weighs_is weight (Some own) e = ap Some (eqb-true own weight e)

is_weighs : (weight : ℕ) (o : Option ℕ) → o ≡ Some weight → weighs weight o ≡ true
unfolding weighs
is_weighs weight o e = subst (λ (p : Option ℕ). weighs weight p ≡ true) (sym e) (eq-eqb weight weight refl)

module _ (rows : List Row) (up : AreAscending rows) (none : AreContradictions rows rows []) where
  -- no line has other terms than the first of its weight
  never : (row first : Row) (address : ℕ) → Contains rows row → DiffersFromFirst rows row first address → ⊥
  never row first address has differs = let bad : false ≡ true = none.all row first address has differs in absurd (cc)

  consistent : AreConsistent rows
  consistent later earlier address bad =
      let w = some_is (weight_of bad.row address) bad.alike.0 in
      let p : Row → Bool = of_weight address w.0 in
      let passes : p bad.row ≡ true = is_weighs w.0 (weight_of bad.row address) w.1 in
      let passes_other : p bad.other ≡ true = is_weighs w.0 (weight_of bad.other address) (bad.alike.1 ∙ w.1) in
      let f = first_up_to p rows bad.has_row.0 bad.row bad.has_row.1 (ap p bad.has_row.2 ∙ passes) in
      let first : Row = get_or rows f.0 bad.row in
      let is = found_is p rows first f.2 in
      let weight_first : weight_of first address ≡ Some w.0 = weighs_is w.0 (weight_of first address) is.1 in
      let differs : (row : Row) → weight_of row address ≡ Some w.0 → row.entry.terms ≢ first.entry.terms → DiffersFromFirst rows row first address = λ row own apart. record {
        is_address = bad.is_address;
        has_first = is.0;
        alike = (subst (λ (o : Option ℕ). IsSome o) (sym own) refl, weight_first ∙ sym own);
        is_first = λ other has alike. at_or_before rows up p first f.2 other has (is_weighs w.0 (weight_of other address) (alike.1 ∙ own));
        apart = apart;
      } in
      never bad.row first address bad.has_row (differs bad.row w.1 (λ same.
      never bad.other first address bad.has_other (differs bad.other (bad.alike.1 ∙ w.1) (λ like. bad.apart (same ∙ sym like)))))

-- lists that come to nothing are empty
both_empty : {X : Type 0} (xs ys : List X) → [] ≡ xs ++ ys → (xs ≡ []) × (ys ≡ [])
both_empty [] ys e = (refl, sym e)
both_empty (x ∷ xs) ys e = absurd (cc)

none_at : (files : List (List Row)) → AreContradictionsIn files [] → (fs : ℕ) → fs < length files → AreContradictions (get_or files fs []) (get_or files fs []) []
none_at [] none fs below = absurd (omega arith)
none_at (rows ∷ files) none zero below =
    let empty = both_empty none.0 none.1 none.2.1.1 in
    subst (AreContradictions rows rows) empty.0 none.2.0
none_at (rows ∷ files) none (suc fs) below =
    let empty = both_empty none.0 none.1 none.2.1.1 in
    none_at files (subst (AreContradictionsIn files) empty.1 none.2.1.0) fs (omega arith)

pub has_no_contradiction : (content : Content) → All AreAscending content.rows → AreContradictionsIn content.rows [] → HasNoContradiction content
has_no_contradiction content ascending none fs =
    elim (cases_lt fs (length content.rows)) [
      | inl within ↦ consistent (rows_of content fs) (ascending fs [] within) (none_at content.rows none fs within)
      | inr past ↦
          let empty : rows_of content fs ≡ [] = get_or_past content.rows fs [] past in
          λ later earlier address bad. absurd (let below : bad.has_row.0 < length (rows_of content fs) = bad.has_row.1 in let e : length (rows_of content fs) ≡ 0 = ap length empty in omega arith)
    ]
