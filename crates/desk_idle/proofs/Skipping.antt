-- Where the lines under one key, or lines that are selected together, were looked at, another look at them tells nothing more.
use Rattle.std.proofs.Common.{◌≡◌, ◌∙◌, ℕ, ◌<◌, ◌^◌, ◌||◌, ◌++◌, Bool, true, false, List, [], ◌∷◌, Option, Some, None, ap, nat_cmp, refl, subst, sym}
use Rattle.std.specs.Prelude.{find}
use Rattle.std.specs.BTreeMap.{BTreeMap}
use Rattle.std.specs.BTreeMap as tree
use Rattle.std.specs.List.{All, Contains, flat_map, list_any}
use Rattle.std.specs.Option.{is_some, option_map, option_or}
use Rattle.std.proofs.lemmas.Bool.{and_parts, false_from_ne_true, true≢false}
use Rattle.std.proofs.lemmas.Grind.{flat_map-append}
use Rattle.std.proofs.lemmas.List.{append-nil}
use Rattle.std.proofs.lemmas.List.Folds.{find-append, list_any-append}
use Rattle.desk_text.specs.AddrSet.{is_among}
use Rattle.desk_policy.specs.Keys.{HasBlock, LinesAreSelectedByKeys}
use Rattle.desk_policy.specs.Policy.{AreAscending}
use Rattle.desk_policy.specs.Weights.{selected}
use Rattle.desk_policy.specs.declared.row.Row.{Row}
use Rattle.desk_idle.specs.PrivateMarks.{AreMarks, Look, are_known, brings_of, has_one_key, is_of, looks_at, looks_by, mark_of}
use Rattle.desk_idle.specs.declared.marks.Mark.{Mark}
use Rattle.desk_idle.proofs.Bringing.{one_line, selected_has}
use Rattle.desk_idle.proofs.Lists.{in_middle}
use Rattle.desk_idle.proofs.Looks.{any_part, found_passes, none_found, none_passes, part_any, same_brings_by, same_lines_by, seen_by}
use Rattle.desk_idle.proofs.OneKey.{same_lines}

-- ---- more looks that tell nothing new

absorb : (x y : Bool) → (y ≡ true → x ≡ true) → (x || y) ≡ x
absorb true y h = refl
absorb false true h = sym (h refl)
absorb false false h = refl

first_stays : (p : Look → Bool) (looks more : List Look) → (list_any p more ≡ true → list_any p looks ≡ true) → (o : Option Look) → find p looks ≡ o → option_or (find p looks) (find p more) ≡ find p looks
first_stays p looks more h (Some look) e = ap (λ o. option_or o (find p more)) e ∙ sym e
first_stays p looks more h None e =
    ap (λ o. option_or o (find p more)) e ∙ none_found p more (false_from_ne_true (list_any p more) (λ passes. none_passes p looks e (h passes))) ∙ sym e

mark_stays : (looks more : List Look) (line : ℕ) → (list_any (brings_of line) more ≡ true → list_any (brings_of line) looks ≡ true) → (list_any (is_of line) more ≡ true → list_any (is_of line) looks ≡ true)
    → mark_of (looks ++ more) line ≡ mark_of looks line
unfolding mark_of
mark_stays looks more line brings is =
    ap (λ b. option_map (λ (look : Look). let m : Mark = record { decides = b; first = look.first; address = look.address } in m) (find (is_of line) (looks ++ more)))
    (list_any-append (brings_of line) looks more ∙ absorb (list_any (brings_of line) looks) (list_any (brings_of line) more) brings)
    ∙ ap (option_map (λ (look : Look). let m : Mark = record { decides = list_any (brings_of line) looks; first = look.first; address = look.address } in m))
    (find-append (is_of line) looks more ∙ first_stays (is_of line) looks more is (find (is_of line) looks) refl)

-- looks at one more address
pub looks_more : (rows : List Row) (before : List ℕ) (address : ℕ) → looks_at rows (before ++ address ∷ []) ≡ looks_at rows before ++ looks_by address (selected rows address)
unfolding looks_at
looks_more rows before address =
    flat_map-append (λ a. looks_by a (selected rows a)) before (address ∷ []) ∙ ap (λ ys. flat_map (λ a. looks_by a (selected rows a)) before ++ ys) (append-nil (looks_by address (selected rows address)))

-- an address at which no line is selected adds no look
pub no_looks : (rows : List Row) (before : List ℕ) (address : ℕ) → selected rows address ≡ [] → looks_at rows before ≡ looks_at rows (before ++ address ∷ [])
no_looks rows before address none =
    sym (append-nil (looks_at rows before)) ∙ ap (λ (ys : List Row). looks_at rows before ++ looks_by address ys) (sym none) ∙ sym (looks_more rows before address)

-- ---- looks at lines that were looked at together

module _ (rows : List Row) (before : List ℕ) (address : ℕ) where
  abbrev looks_in : ℕ → List Look
  looks_in at = looks_by at (selected rows at)

  -- an earlier address at which the same lines are selected
  pub record Earlier : Type 0 where
    pub at : ℕ
    pub among : is_among at before ≡ true
    pub same : selected rows at ≡ selected rows address

  known_before : (p : Look → Bool) → ((a b : ℕ) (ys : List Row) → list_any p (looks_by a ys) ≡ list_any p (looks_by b ys)) → Earlier → list_any p (looks_in address) ≡ true → list_any p (flat_map looks_in before) ≡ true
  known_before p alike at e =
      part_any p looks_in before at.at at.among (ap (λ (ys : List Row). list_any p (looks_by at.at ys)) at.same ∙ alike at.at address (selected rows address) ∙ e)

  same_marks : Earlier → (line : ℕ) → mark_of (looks_at rows before ++ looks_by address (selected rows address)) line ≡ mark_of (looks_at rows before) line
  unfolding looks_at
  same_marks at line =
      mark_stays (flat_map looks_in before) (looks_in address) line (known_before (brings_of line) (λ a b ys. same_brings_by line a b ys) at) (known_before (is_of line) (λ a b ys. same_lines_by line a b ys) at)

  stay : Earlier → (line : ℕ) → mark_of (looks_at rows (before ++ address ∷ [])) line ≡ mark_of (looks_at rows before) line
  stay at line = ap (λ looks. mark_of looks line) (looks_more rows before address) ∙ same_marks at line

  pub by_earlier : Earlier → (marks : BTreeMap ℕ Mark) → AreMarks (looks_at rows before) marks → AreMarks (looks_at rows (before ++ address ∷ [])) marks
  by_earlier at marks are = λ line. are line ∙ sym (stay at line)

-- ---- looks at the lines under one key

module _ (law : LinesAreSelectedByKeys) (rows : List Row) (ascending : AreAscending rows) (blocks : All (λ (row : Row). HasBlock row.entry.clients) rows) (before : List ℕ)
    (all_below : (other : ℕ) → is_among other before ≡ true → other < 2 ^ 32) (address : ℕ) (below : address < 2 ^ 32) (first : Row) (others : List Row) (chosen : selected rows address ≡ first ∷ others)
    (one : has_one_key first.entry.clients ≡ true) where
  abbrev seen_at : ℕ → List Look
  seen_at at = looks_by at (selected rows at)

  has_first : Contains (selected rows address) first
  has_first = subst (λ (ys : List Row). Contains ys first) (sym chosen) (in_middle [] first others)

  by_look : (at : ℕ) → is_among at before ≡ true → (o : Option Look) → find (is_of first.entry.line) (seen_at at) ≡ o → list_any (is_of first.entry.line) (seen_at at) ≡ true → Earlier rows before address
  by_look at among None e passes = absurd (none_passes (is_of first.entry.line) (seen_at at) e passes)
  by_look at among (Some look) e passes =
      let s = seen_by first.entry.line at (selected rows at) look e in
      let here : Contains rows first = selected_has rows address first has_first in
      let is : s.row ≡ first = one_line rows s.row first ascending (selected_has rows at s.row s.has) here s.number in
      record { at = at; among = among; same = same_lines law rows blocks first here one at address (all_below at among) below (subst (Contains (selected rows at)) is s.has) has_first }

  earlier : list_any (is_of first.entry.line) (flat_map seen_at before) ≡ true → Earlier rows before address
  earlier e =
      let part = any_part (is_of first.entry.line) seen_at before e in
      by_look part.at part.among (find (is_of first.entry.line) (seen_at part.at)) refl part.passes

  marked : (line : ℕ) → is_some (mark_of (looks_at rows before) line) ≡ true → list_any (is_of line) (flat_map seen_at before) ≡ true
  unfolding mark_of looks_at
  marked line e = by_mark (find (is_of line) (flat_map seen_at before)) refl
    where
      by_mark : (o : Option Look) → find (is_of line) (flat_map seen_at before) ≡ o → list_any (is_of line) (flat_map seen_at before) ≡ true
      by_mark None is = absurd (true≢false (sym e ∙ ap (λ o. is_some (option_map (λ (look : Look). let m : Mark = record { decides = list_any (brings_of line) (flat_map seen_at before); first = look.first; address = look.address } in m) o)) is))
      by_mark (Some look) is = found_passes (is_of line) (flat_map seen_at before) look is

  pub by_first : (marks : BTreeMap ℕ Mark) → AreMarks (looks_at rows before) marks → is_some (tree.get nat_cmp marks first.entry.line) ≡ true → AreMarks (looks_at rows (before ++ address ∷ [])) marks
  by_first marks are some = by_earlier rows before address (earlier (marked first.entry.line (ap is_some (sym (are first.entry.line)) ∙ some))) marks are

-- the lines that are selected at an address were looked at where the first of them is known
pub skipped : LinesAreSelectedByKeys → (rows : List Row) → AreAscending rows → All (λ (row : Row). HasBlock row.entry.clients) rows → (before : List ℕ) → ((other : ℕ) → is_among other before ≡ true → other < 2 ^ 32)
    → (address : ℕ) → address < 2 ^ 32 → (marks : BTreeMap ℕ Mark) → AreMarks (looks_at rows before) marks → (chosen : List Row) → selected rows address ≡ chosen → are_known marks chosen ≡ true
    → AreMarks (looks_at rows (before ++ address ∷ [])) marks
skipped law rows ascending blocks before all_below address below marks are [] chosen known = absurd (true≢false (sym known))
skipped law rows ascending blocks before all_below address below marks are (first ∷ others) chosen known =
    let s = and_parts _ _ known in
    by_first law rows ascending blocks before all_below address below first others chosen s.0 marks are s.1
