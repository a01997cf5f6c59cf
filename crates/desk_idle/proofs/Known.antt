-- What marks know of a line: whether it brings something somewhere, and where it is selected first.
use Rattle.std.proofs.Common.{◌≡◌, ◌∙◌, ℕ, zero, suc, ◌<◌, ◌^◌, ◌++◌, true, false, eqb, List, [], ◌∷◌, Option, Some, None, ap, arith, inl, inr, refl, subst, sym}
use Rattle.std.specs.Prelude.{find}
use Rattle.std.specs.List.{AllByRecursion, AllPairs, Contains, flat_map, list_any}
use Rattle.std.specs.Option.{option_map}
use Rattle.std.proofs.lemmas.Bool.{eqb-true, or_cases, or_parts, eqb-false}
use Rattle.std.proofs.lemmas.List.Elements.{recursion_from_All}
use Rattle.std.proofs.lemmas.List.Kept.{AllPairs-from_increasing}
use Rattle.desk_text.specs.AddrSet.{is_among}
use Rattle.desk_policy.specs.Policy.{AreAscending}
use Rattle.desk_policy.specs.Weights.{selected}
use Rattle.desk_policy.specs.declared.row.Row.{Row}
use Rattle.desk_who.specs.Starts.{AreStarts}
use Rattle.desk_idle.specs.Idle.{IsRepeated}
use Rattle.desk_idle.specs.Laws.{BringsSomewhere, brings}
use Rattle.desk_idle.specs.PrivateMarks.{IsKnown, Look, brings_of, is_of, looks_at, looks_by, mark_of}
use Rattle.desk_idle.proofs.Bringing.{one_line, selected_has}
use Rattle.desk_idle.proofs.Lists.{in_middle}
use Rattle.desk_idle.proofs.Looks.{Rise, any_part, bringer_by, brought_by, first_part, looked_by, none_passes, part_any, seen_by}
use Rattle.desk_idle.proofs.Steady.{last_start}

-- ---- numbers that rise

all_rise : (xs : List ℕ) → AllPairs (λ x y. x < y) xs → Rise xs
unfolding Rise
all_rise [] up = tt
all_rise (x ∷ xs) up = (
  recursion_from_All (λ y. x < y) xs (λ k d inside. up 0 (suc k) d (omega arith) (omega arith)),
  all_rise xs (λ i j d lt inside. up (suc i) (suc j) d (omega arith) (omega arith)),
)

all_positive : (xs : List ℕ) → is_among 0 xs ≡ false → AllByRecursion (λ (x : ℕ). 0 < x) xs
all_positive [] none = tt
all_positive (x ∷ xs) none = let s = or_parts (eqb x 0) (is_among 0 xs) none in ((let h = eqb-false x 0 s.0 in positive x h), all_positive xs s.1)
  where
    positive : (n : ℕ) → (n ≡ 0 → ⊥) → 0 < n
    positive zero h = absurd (h refl)
    positive (suc n) h = omega arith

module _ (rows : List Row) (ascending : AreAscending rows) (starts : List ℕ) (are : AreStarts rows starts) (below : (start : ℕ) → is_among start starts ≡ true → start < 2 ^ 32) (row : Row) (has : Contains rows row) where
  abbrev line : ℕ
  line = row.entry.line

  abbrev looks_in : ℕ → List Look
  looks_in address = looks_by address (selected rows address)

  rise : Rise (0 ∷ starts)
  unfolding Rise
  rise = (all_positive starts are.behind, all_rise starts (AllPairs-from_increasing starts are.ascend))

  is_address : (at : ℕ) → is_among at (0 ∷ starts) ≡ true → at < 2 ^ 32
  is_address at among =
      elim (or_cases (eqb 0 at) (is_among at starts) among) [
        | inl here ↦ (let same = eqb-true 0 at here in omega arith)
        | inr later ↦ below at later
      ]

  -- a selected line of this number is this one
  own : (address : ℕ) (other : Row) → Contains (selected rows address) other → other.entry.line ≡ line → other ≡ row
  own address other chosen same = one_line rows other row ascending (selected_has rows address other chosen) has same

  -- where the line is selected, it is looked at
  looked : (address : ℕ) → Contains (selected rows address) row → list_any (is_of line) (looks_in address) ≡ true
  looked address chosen = looked_by address (selected rows address) row chosen

  brings_if : list_any (brings_of line) (flat_map looks_in (0 ∷ starts)) ≡ true → BringsSomewhere rows row
  brings_if e =
      let part = any_part (brings_of line) looks_in (0 ∷ starts) e in
      let b = bringer_by line part.at (selected rows part.at) part.passes in
      let same : b.row ≡ row = own part.at b.row (subst (λ (ys : List Row). Contains ys b.row) (sym b.are) (in_middle b.before b.row b.later)) b.number in
      record {
        address = part.at;
        is_address = is_address part.at part.among;
        earlier = b.before;
        later = b.later;
        selects = b.are ∙ ap (λ (r : Row). b.before ++ r ∷ b.later) same;
        brought = subst (λ (r : Row). brings b.before r ≡ true) same b.brought;
      }

  if_brings : BringsSomewhere rows row → list_any (brings_of line) (flat_map looks_in (0 ∷ starts)) ≡ true
  if_brings at =
      let last = last_start rows starts are at.address at.is_address in
      part_any (brings_of line) looks_in (0 ∷ starts) last.at last.among
      (brought_by last.at (selected rows last.at) at.earlier row at.later (sym last.same ∙ at.selects) at.brought)

  nowhere : find (is_of line) (flat_map looks_in (0 ∷ starts)) ≡ None → (address : ℕ) → address < 2 ^ 32 → Contains (selected rows address) row → ⊥
  nowhere e address small chosen =
      let last = last_start rows starts are address small in
      none_passes (is_of line) (flat_map looks_in (0 ∷ starts)) e
      (part_any (is_of line) looks_in (0 ∷ starts) last.at last.among (looked last.at (subst (λ (ys : List Row). Contains ys row) last.same chosen)))

  first_of : (look : Look) → find (is_of line) (flat_map looks_in (0 ∷ starts)) ≡ Some look → IsRepeated rows row look.first look.address
  first_of look e =
      let p = first_part (is_of line) looks_in (0 ∷ starts) look rise e in
      let s = seen_by line p.at (selected rows p.at) look p.found in
      let same : s.row ≡ row = own p.at s.row s.has s.number in
      subst (IsRepeated rows row look.first) (sym s.is_address) (record {
        is_address = is_address p.at p.among;
        chosen = subst (Contains (selected rows p.at)) same s.has;
        least = λ other small chosen.
            let last = last_start rows starts are other small in
            let le = p.least last.at last.among (looked last.at (subst (λ (ys : List Row). Contains ys row) last.same chosen)) in
            let b = last.before in
            omega arith;
        earlier = s.is_first;
      })

  by_found : (o : Option Look) → find (is_of line) (flat_map looks_in (0 ∷ starts)) ≡ o
      → IsKnown rows row (option_map (λ (look : Look). record { decides = list_any (brings_of line) (flat_map looks_in (0 ∷ starts)); first = look.first; address = look.address }) o)
  by_found None e = nowhere e
  by_found (Some look) e = record { decides = (brings_if, if_brings); least = first_of look e }

  pub known : IsKnown rows row (mark_of (looks_at rows (0 ∷ starts)) line)
  unfolding looks_at mark_of
  known = by_found (find (is_of line) (flat_map looks_in (0 ∷ starts))) refl
