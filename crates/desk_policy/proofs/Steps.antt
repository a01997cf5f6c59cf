-- Lines ascend if each has a greater number than the one before it.
use Rattle.std.proofs.Common.{◌≡◌, ℕ, zero, suc, ◌+◌, ◌<◌, ◌≤◌, List, length, get_or, sym, subst, inl, inr, arith}
use Rattle.std.proofs.lemmas.Bool.{cases_lt}
use Rattle.desk_policy.specs.Policy.{AreAscending}
use Rattle.desk_policy.specs.PrivatePolicy.{AscendUpTo}
use Rattle.desk_policy.specs.declared.row.Row.{Row}

module _ (rows : List Row) where
  abbrev pub line : ℕ → Row → ℕ
  line k d = (get_or rows k d).entry.line

  from_steps : (place : ℕ) → AscendUpTo rows place → (i j : ℕ) (d : Row) → i < j → j < place → line i d < line j d
  from_steps place up i zero d less below = absurd (omega arith)
  from_steps place up i (suc j) d less below = elim (cases_lt i j) [
    | inl earlier ↦
        let so_far = from_steps place up i j d earlier (omega arith) in
        let step : line j d < line (j + 1) d = up j d (omega arith) in
        let one : j + 1 ≡ suc j = omega arith in
        let next : line j d < line (suc j) d = subst (λ n. line j d < line n d) one step in
        omega arith
    | inr last ↦
        let one : i ≡ j = omega arith in
        let two : j + 1 ≡ suc j = omega arith in
        subst (λ n. line i d < line n d) two (subst (λ n. line n d < line (j + 1) d) (sym one) (up j d (omega arith)))
  ]

  pub all_ascend : (place : ℕ) → length rows ≤ place → AscendUpTo rows place → AreAscending rows
  all_ascend place all up i j d less below = from_steps place up i j d less (omega arith)
