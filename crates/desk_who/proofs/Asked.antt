-- The verdict among the lines of a file system changes only where their weights do, and is asked only of lines that match.
use Rattle.std.proofs.Common.{◌≡◌, ◌⊎◌, ℕ, Bool, false, cond, List, [], ◌∷◌, sym, ◌∙◌, ap, refl, inl, inr}
use Rattle.std.specs.Prelude.{Option, Some, None, filter, find}
use Rattle.std.specs.List.{AllByRecursion}
use Rattle.std.proofs.lemmas.Bool.{cases_Bool, true≢false}
use Rattle.desk_tables.specs.declared.filesystems.FsId.{FsId}
use Rattle.desk_policy.specs.Verdict.{granted_by, verdict_among}
use Rattle.desk_policy.specs.Weights.{is_greatest, selected, weight_of}
use Rattle.desk_policy.specs.declared.row.Row.{Row}
use Rattle.desk_who.proofs.Steady.{IsSame, selected_alike}

-- two tests agree on a line, if it matches
abbrev pub AgreeAt : (Row → Bool) → (Row → Bool) → ℕ → Row → Type 0
AgreeAt listing other address row = (weight_of row address ≡ None) ⊎ (listing row ≡ other row)

pub own_steady : (fs : FsId) (listing : Row → Bool) (rows : List Row) (address next : ℕ) → AllByRecursion (IsSame address next) rows
    → verdict_among fs listing (selected rows next) ≡ verdict_among fs listing (selected rows address)
own_steady fs listing rows address next same = ap (verdict_among fs listing) (selected_alike address next rows same)

module _ (listing other : Row → Bool) (address : ℕ) where
  -- they agree on lines that pass a test of weights, which a line that does not match fails
  pub agree_on_matching : (test : Option ℕ → Bool) → test None ≡ false → (rows : List Row) → AllByRecursion (AgreeAt listing other address) rows
      → AllByRecursion (λ row. listing row ≡ other row) (filter (λ row. test (weight_of row address)) rows)
  agree_on_matching test fails [] agree = tt
  agree_on_matching test fails (row ∷ rows) agree =
      let passes : Row → Bool = λ one. test (weight_of one address) in
      let rest = agree_on_matching test fails rows agree.1 in
      elim (cases_Bool (passes row)) as (λ _. AllByRecursion (λ one. listing one ≡ other one) (filter passes (row ∷ rows))) [
        | inl is ↦
            let here : listing row ≡ other row = elim agree.0 as (λ _. listing row ≡ other row) [
              | inl none ↦ absurd (true≢false (sym is ∙ ap test none ∙ fails))
              | inr same ↦ same
            ] in
            rw is (here, rest)
        | inr not ↦ rw not rest
      ]

  same_found : (rows : List Row) → AllByRecursion (λ row. listing row ≡ other row) rows → find listing rows ≡ find other rows
  same_found [] same = refl
  same_found (row ∷ rows) same =
      ap (λ b. cond b (Some row) (find listing rows)) same.0 ∙ ap (λ o. cond (other row) (Some row) o) (same_found rows same.1)

  same_among : (fs : FsId) (rows : List Row) → AllByRecursion (λ row. listing row ≡ other row) rows → verdict_among fs listing rows ≡ verdict_among fs other rows
  same_among fs [] same = refl
  same_among fs (row ∷ rows) same = ap (granted_by fs row) (same_found (row ∷ rows) same)

  pub own_asks : (fs : FsId) (rows : List Row) → AllByRecursion (AgreeAt listing other address) rows → verdict_among fs listing (selected rows address) ≡ verdict_among fs other (selected rows address)
  unfolding selected
  own_asks fs rows agree = same_among fs (filter (λ row. is_greatest rows address (weight_of row address)) rows) (agree_on_matching (is_greatest rows address) refl rows agree)
