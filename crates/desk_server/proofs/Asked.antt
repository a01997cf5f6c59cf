-- The verdict of the server among the lines of a file system changes only where their weights do, and is asked only of lines that
-- match.
use Rattle.std.proofs.Common.{◌≡◌, ℕ, Bool, cond, List, [], ◌∷◌, ◌∙◌, ap, refl, inl, inr}
use Rattle.std.specs.Prelude.{Option, filter}
use Rattle.std.specs.List.{AllByRecursion}
use Rattle.std.proofs.lemmas.Bool.{cases_Bool}
use Rattle.desk_tables.specs.declared.filesystems.FsId.{FsId}
use Rattle.desk_policy.specs.Weights.{selected, weight_of}
use Rattle.desk_policy.specs.declared.row.Row.{Row}
use Rattle.desk_who.proofs.Asked.{AgreeAt, agree_on_matching}
use Rattle.desk_who.proofs.Steady.{IsSame, selected_alike}
use Rattle.desk_server.specs.Server.{asked, for_everybody, granting, is_everybody, is_named, named, or_others, server_verdict_among, server_verdict_by}

all_filtered : {X : Type 0} (P : X → Type 0) (test : X → Bool) (xs : List X) → AllByRecursion P xs → AllByRecursion P (filter test xs)
all_filtered P test [] all = tt
all_filtered P test (x ∷ xs) all =
    elim (cases_Bool (test x)) as (λ _. AllByRecursion P (filter test (x ∷ xs))) [
      | inl is ↦ rw is (all.0, all_filtered P test xs all.1)
      | inr not ↦ rw not (all_filtered P test xs all.1)
    ]

all_of_either : (X : Row → Type 0) (rows others : List Row) → AllByRecursion X rows → AllByRecursion X others → AllByRecursion X (or_others rows others)
all_of_either X [] others all all' = all'
all_of_either X (row ∷ rows) others all all' = all

-- ---- between two addresses at which each line weighs alike
module _ (address next : ℕ) where
  weighed_alike : (test : Option ℕ → Bool) (rows : List Row) → AllByRecursion (IsSame address next) rows → filter (λ row. test (weight_of row next)) rows ≡ filter (λ row. test (weight_of row address)) rows
  weighed_alike test [] same = refl
  weighed_alike test (row ∷ rows) same =
      ap (λ w. cond (test w) (row ∷ filter (λ one. test (weight_of one next)) rows) (filter (λ one. test (weight_of one next)) rows)) same.0
      ∙ ap (λ chosen. cond (test (weight_of row address)) (row ∷ chosen) chosen) (weighed_alike test rows same.1)

  asked_alike : (rows : List Row) → AllByRecursion (IsSame address next) rows → asked rows next ≡ asked rows address
  unfolding asked
  asked_alike rows same =
      ap (λ those. or_others those (for_everybody rows next)) (weighed_alike is_named rows same) ∙ ap (or_others (named rows address)) (weighed_alike is_everybody rows same)

  asked_same : (rows : List Row) → AllByRecursion (IsSame address next) rows → AllByRecursion (IsSame address next) (asked rows address)
  unfolding asked
  asked_same rows same =
      all_of_either (IsSame address next) (named rows address) (for_everybody rows address)
      (all_filtered (IsSame address next) (λ row. is_named (weight_of row address)) rows same)
      (all_filtered (IsSame address next) (λ row. is_everybody (weight_of row address)) rows same)

  granting_alike : (listing : Row → Bool) (rows : List Row) → AllByRecursion (IsSame address next) rows → granting listing rows next ≡ granting listing rows address
  granting_alike listing rows same =
      ap (λ those. selected (filter listing those) next) (asked_alike rows same)
      ∙ selected_alike address next (filter listing (asked rows address)) (all_filtered (IsSame address next) listing (asked rows address) (asked_same rows same))

  pub server_steady : (fs : FsId) (listing : Row → Bool) (rows : List Row) → AllByRecursion (IsSame address next) rows → server_verdict_among fs listing rows next ≡ server_verdict_among fs listing rows address
  server_steady fs listing rows same =
      ap (λ chosen. server_verdict_by fs chosen (granting listing rows next)) (selected_alike address next rows same)
      ∙ ap (server_verdict_by fs (selected rows address)) (granting_alike listing rows same)

-- ---- by two tests that agree on each line that matches
module _ (listing other : Row → Bool) (address : ℕ) where
  asked_agree : (rows : List Row) → AllByRecursion (AgreeAt listing other address) rows → AllByRecursion (λ row. listing row ≡ other row) (asked rows address)
  unfolding asked
  asked_agree rows agree =
      all_of_either (λ row. listing row ≡ other row) (named rows address) (for_everybody rows address)
      (agree_on_matching listing other address is_named refl rows agree)
      (agree_on_matching listing other address is_everybody refl rows agree)

  same_filtered : (rows : List Row) → AllByRecursion (λ row. listing row ≡ other row) rows → filter listing rows ≡ filter other rows
  same_filtered [] same = refl
  same_filtered (row ∷ rows) same =
      ap (λ b. cond b (row ∷ filter listing rows) (filter listing rows)) same.0 ∙ ap (λ kept. cond (other row) (row ∷ kept) kept) (same_filtered rows same.1)

  pub server_asks : (fs : FsId) (rows : List Row) → AllByRecursion (AgreeAt listing other address) rows → server_verdict_among fs listing rows address ≡ server_verdict_among fs other rows address
  server_asks fs rows agree = ap (λ those. server_verdict_by fs (selected rows address) (selected those address)) (same_filtered (asked rows address) (asked_agree rows agree))
