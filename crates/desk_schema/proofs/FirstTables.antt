-- Whether the first table with a tree is the project's.
use Rattle.std.proofs.Common.{◌≡◌, ◌∙◌, sym, ap, subst, inl, inr, ℕ, ◌==◌, Bool, true, cond, List, [], ◌∷◌, Some, find}
use Rattle.std.specs.Prelude.{◌↔◌}
use Rattle.std.proofs.lemmas.Bool.{cases_Bool, eqb-true}
use Rattle.sqlite.specs.Schema.{Schema}
use Rattle.sqlite.specs.Table.{Table}
use Rattle.desk_schema.specs.Tables.{Declares, table_in}

passes : {X : Type 0} (p : X → Bool) (xs : List X) (x : X) → find p xs ≡ Some x → p x ≡ true
passes p [] x e = absurd (cc)
passes p (y ∷ xs) x e = elim (cases_Bool (p y)) [
  | inl own ↦
      let first : Some y ≡ Some x = subst (λ b. cond b (Some y) (find p xs) ≡ Some x) own e in
      let same : y ≡ x = cc in
      ap p (sym same) ∙ own
  | inr other ↦ passes p xs x (subst (λ b. cond b (Some y) (find p xs) ≡ Some x) other e)
]

pub is_first : (of : ℕ → Table) (tree : ℕ) (tables : List Table) (table : Table) (Yes : Type 0) → ((n : ℕ) → (of n).tree ≡ n)
    → find (λ (t : Table). t.tree == tree) tables ≡ Some table → Yes ↔ (table ≡ of table.tree)
    → Yes ↔ (find (λ (t : Table). t.tree == tree) tables ≡ Some (of tree))
is_first of tree tables table Yes own found test =
    let same : table.tree ≡ tree = eqb-true table.tree tree (passes (λ (t : Table). t.tree == tree) tables table found) in (
      λ yes. found ∙ ap Some (test.0 yes ∙ ap of same),
      λ h.
          let both : Some table ≡ Some (of tree) = sym found ∙ h in
          let is : table ≡ of tree = cc in
          test.1 (is ∙ ap of (sym same)),
    )

-- a schema declares a table with the tree that it is found with
pub one_tree : (schema : Schema) (name : List ℕ) (of : ℕ → Table) → ((n : ℕ) → (of n).tree ≡ n) → (a b : ℕ) → table_in schema name ≡ Some (of a) → Declares schema name of b → Declares schema name of a
one_tree schema name of own a b found h =
    let both : Some (of b) ≡ Some (of a) = sym h.there ∙ found in
    let is : of b ≡ of a = cc in
    subst (Declares schema name of) (sym (own b) ∙ ap (λ (t : Table). t.tree) is ∙ own a) h
