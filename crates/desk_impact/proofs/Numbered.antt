-- Paths right below a mount point whose names are numbers.
use Rattle.std.proofs.Common.{◌≡◌, ◌≢◌, ℕ, ◌+◌, ◌<◌, ◌^◌, true, List, [], ◌∷◌, ◌++◌, length, get_or, map, Decides, sym, subst, ◌∙◌, arith}
use Rattle.std.specs.Cmp.{IsEquivalence, back_equiv}
use Rattle.std.specs.Fmt.{decimal}
use Rattle.std.specs.List.{AllPairs, Any, list_any, range_with_len}
use Rattle.std.specs.Ordering.{flip_args}
use Rattle.std.proofs.lemmas.Cmp.{lists_equiv, nat_list_eq_equiv}
use Rattle.std.proofs.lemmas.Fmt.{decimal_injective}
use Rattle.std.proofs.lemmas.List.{append_cancel_left}
use Rattle.std.proofs.lemmas.List.Folds.{Any-from_list_any}
use Rattle.std.proofs.lemmas.List.FromFn.{get_or-map-range_with_len, length-map-range_with_len}
use Rattle.std.proofs.lemmas.Map.Made.{IsDistinct-from_AllPairs, length-le_from_is_member}
use Rattle.desk_text.specs.Path.{same_path}
use Rattle.desk_policy.specs.Verdict.{is_directory_among}
use Rattle.desk_impact.proofs.Same.{Path, is_same, same_is}

-- ---- of more numbers than there are paths one is free
same_decides_back : (a b : Path) → Decides (same_path b a) (a ≡ b)
same_decides_back a b = (λ e. sym (same_is b a e), λ e. is_same b a (sym e))

child : Path → ℕ → Path
child mount number = mount ++ decimal number ∷ []

child_injective : (mount : Path) (m n : ℕ) → m < 2 ^ 64 → n < 2 ^ 64 → child mount m ≡ child mount n → m ≡ n
unfolding child
child_injective mount m n fits fits' e =
    let same : decimal m ∷ [] ≡ decimal n ∷ [] = append_cancel_left mount (decimal m ∷ []) (decimal n ∷ []) e in
    decimal_injective m n fits fits' (cc)

module _ (mount : Path) (taken : List Path) (fits : length taken < 2 ^ 64) where
  numbered : List Path
  numbered = map (child mount) (range_with_len 0 (length taken + 1))

  all_apart : AllPairs (λ (a : Path) (b : Path). a ≢ b) numbered
  unfolding numbered
  all_apart i j d before inside same =
      let count = length-map-range_with_len (child mount) 0 (length taken + 1) in
      let at : (k : ℕ) → k < length taken + 1 → get_or numbered k d ≡ child mount k = λ k l. get_or-map-range_with_len (child mount) 0 (length taken + 1) k k d l (omega arith) in
      let e : i ≡ j = child_injective mount i j (omega arith) (omega arith) (sym (at i (omega arith)) ∙ same ∙ at j (omega arith)) in
      omega arith

  pub one_is_free : ((k : ℕ) → k < length taken + 1 → is_directory_among (mount ++ decimal k ∷ []) taken ≡ true) → ⊥
  unfolding numbered child
  one_is_free all =
      let flipped : IsEquivalence (flip_args same_path) = back_equiv (lists_equiv nat_list_eq_equiv) in
      let count = length-map-range_with_len (child mount) 0 (length taken + 1) in
      let members : (q : Path) → list_any (λ b. same_path b q) numbered ≡ true → list_any (λ b. same_path b q) taken ≡ true = λ q there.
      let found : Any (λ (b : Path). same_path b q ≡ true) numbered = Any-from_list_any (λ b. same_path b q) numbered there in
      let k : ℕ = found.0 in
      let at : get_or numbered k found.1 ≡ child mount k = get_or-map-range_with_len (child mount) 0 (length taken + 1) k k found.1 (let l = found.2 in omega arith) (omega arith) in
      let is : child mount k ≡ q = sym at ∙ found.3 ∙ same_is found.1 q found.4 in
      subst (λ p. is_directory_among p taken ≡ true) is (all k (let l = found.2 in omega arith)) in
      let long = length-le_from_is_member flipped numbered taken (IsDistinct-from_AllPairs (λ a b. same_decides_back a b) numbered all_apart) members in
      omega arith
