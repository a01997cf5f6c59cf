-- What looks tell of a line.
use Rattle.std.proofs.Common.{◌≡◌, ◌∙◌, ℕ, ◌&&◌, ◌||◌, ◌++◌, Bool, true, false, cond, eqb, List, [], ◌∷◌, Option, Some, None, ap, inl, inr, nat_cmp, refl, sym}
use Rattle.std.specs.Prelude.{find}
use Rattle.std.specs.BTreeMap.{BTreeMap}
use Rattle.std.specs.BTreeMap as tree
use Rattle.std.specs.List.{list_any}
use Rattle.std.specs.Option.{option_map, option_or}
use Rattle.std.proofs.lemmas.Bool.{cases_Bool, cond-true, cond-false, eq-eqb, eqb-true}
use Rattle.std.proofs.lemmas.List.Folds.{find-append, list_any-append}
use Rattle.desk_idle.specs.PrivateMarks.{Look, brings_of, is_of, mark_of, with_look}
use Rattle.desk_idle.specs.declared.marks.Mark.{Mark}

no_brings : (line : ℕ) (looks : List Look) → find (is_of line) looks ≡ None → list_any (brings_of line) looks ≡ false
no_brings line [] e = refl
no_brings line (look ∷ looks) e =
    elim (cases_Bool (eqb look.line line)) [
      | inl is ↦ absurd (let wrong : Some look ≡ None = sym (cond-true (eqb look.line line) (Some look) (find (is_of line) looks) is) ∙ e in cc)
      | inr not ↦ ap (λ b. b && look.brought || list_any (brings_of line) looks) not ∙ no_brings line looks (sym (cond-false (eqb look.line line) (Some look) (find (is_of line) looks) not) ∙ e)
    ]

abbrev mark_by : Bool → Option Look → Option Mark
mark_by brought found = option_map (λ (look : Look). record { decides = brought; first = look.first; address = look.address }) found

or_false : (b : Bool) → (b || false) ≡ b
or_false true = refl
or_false false = refl

or_none : {X : Type 0} (o : Option X) → option_or o None ≡ o
or_none None = refl
or_none (Some x) = refl

mark_more : (looks : List Look) (look : Look) (line : ℕ)
    → mark_of (looks ++ look ∷ []) line ≡ mark_by (list_any (brings_of line) looks || (brings_of line look || false)) (option_or (find (is_of line) looks) (cond (eqb look.line line) (Some look) None))
unfolding mark_of
mark_more looks look line =
    ap (λ b. mark_by b (find (is_of line) (looks ++ look ∷ []))) (list_any-append (brings_of line) looks (look ∷ []))
    ∙ ap (mark_by (list_any (brings_of line) looks || (brings_of line look || false))) (find-append (is_of line) looks (look ∷ []))

mark_is : (looks : List Look) (line : ℕ) → mark_of looks line ≡ mark_by (list_any (brings_of line) looks) (find (is_of line) looks)
unfolding mark_of
mark_is looks line = refl

own_look : (looks : List Look) (look : Look) (found : Option Look) → find (is_of look.line) looks ≡ found
    → mark_by (list_any (brings_of look.line) looks || look.brought) (option_or found (Some look)) ≡ Some (with_look (mark_by (list_any (brings_of look.line) looks) found) look)
own_look looks look None e = ap (λ b. mark_by (b || look.brought) (Some look)) (no_brings look.line looks e)
own_look looks look (Some other) e = refl

-- one more look changes what is known of its line
pub marks_more : (looks : List Look) (look : Look) (old new : BTreeMap ℕ Mark) (mark : Mark) → ((line : ℕ) → tree.get nat_cmp old line ≡ mark_of looks line)
    → ((line : ℕ) → tree.get nat_cmp new line ≡ cond (eqb look.line line) (Some mark) (tree.get nat_cmp old line)) → mark ≡ with_look (tree.get nat_cmp old look.line) look
    → (line : ℕ) → tree.get nat_cmp new line ≡ mark_of (looks ++ look ∷ []) line
marks_more looks look old new mark are updates is line =
    elim (cases_Bool (eqb look.line line)) [
      | inl own ↦
          let same : look.line ≡ line = eqb-true look.line line own in
          updates line ∙ cond-true (eqb look.line line) (Some mark) (tree.get nat_cmp old line) own
          ∙ ap Some (is ∙ ap (λ o. with_look o look) (are look.line ∙ mark_is looks look.line))
          ∙ sym (own_look looks look (find (is_of look.line) looks) refl)
          ∙ ap (λ b. mark_by (list_any (brings_of look.line) looks || b) (option_or (find (is_of look.line) looks) (Some look))) (sym (or_false look.brought) ∙ ap (λ b. b && look.brought || false) (sym (eq-eqb look.line look.line refl)))
          ∙ ap (λ o. mark_by (list_any (brings_of look.line) looks || (brings_of look.line look || false)) (option_or (find (is_of look.line) looks) o)) (sym (cond-true (eqb look.line look.line) (Some look) None (eq-eqb look.line look.line refl)))
          ∙ sym (mark_more looks look look.line)
          ∙ ap (mark_of (looks ++ look ∷ [])) same
      | inr other ↦
          updates line ∙ cond-false (eqb look.line line) (Some mark) (tree.get nat_cmp old line) other ∙ are line ∙ mark_is looks line
          ∙ ap (λ b. mark_by b (find (is_of line) looks)) (sym (or_false (list_any (brings_of line) looks)) ∙ ap (λ b. list_any (brings_of line) looks || (b && look.brought || false)) (sym other))
          ∙ ap (mark_by (list_any (brings_of line) looks || (brings_of line look || false))) (sym (or_none (find (is_of line) looks)) ∙ ap (option_or (find (is_of line) looks)) (sym (cond-false (eqb look.line line) (Some look) None other)))
          ∙ sym (mark_more looks look line)
    ]
