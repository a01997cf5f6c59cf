-- A line decides nothing just if it grants something to no address: if a verdict that denies names it, it is the first that is
-- selected there, and so it grants its own directories there.
use Rattle.std.proofs.Common.{◌≡◌, ℕ, ◌+◌, ◌-◌, ◌<◌, ◌≤◌, ◌^◌, ◌∙◌, Bool, true, cond, List, [], ◌∷◌, Option, None, Some, ap, arith, find, length, refl, sym}
use Rattle.std.specs.Prelude.{Contains, filter}
use Rattle.std.specs.List.{range_with_len}
use Rattle.std.proofs.lemmas.Bool.{eq-eqb, eqb-true, or_left, true≢false}
use Rattle.std.proofs.lemmas.List.FromFn.{get_or-range_with_len, length-range_with_len}
use Rattle.std.proofs.lemmas.List.Sums.{length-filter}
use Rattle.desk_tables.specs.FileSystems.{fs_of}
use Rattle.desk_policy.specs.Policy.{Content, rows_of}
use Rattle.desk_policy.specs.Verdict.{granted_by, lists, verdict_among, verdict_in, verdict_of}
use Rattle.desk_policy.specs.Weights.{is_greatest, selected, weight_of}
use Rattle.desk_policy.specs.declared.row.Row.{Row}
use Rattle.desk_idle.specs.Idle.{IsNamed, names_line}
use Rattle.page_data.specs.Counts.{count_within}
use Rattle.page_data.specs.Grants.{GrantsTo}
use Rattle.page_data.specs.Laws.{IdleLinesGrantNothing, IsSound}
use Rattle.page_data.proofs.Containing.{here}
use Rattle.page_data.proofs.Grouped.{in_kept, kept_in}
use Rattle.page_data.proofs.Selecting.{all_of_flat, find_in, is_own, own_directory}

-- ---- counts of none
first_in : (xs : List ℕ) (y : ℕ) (ys : List ℕ) → xs ≡ y ∷ ys → Contains xs y
first_in [] y ys e = absurd (cc)
first_in (z ∷ zs) y ys e = (let same : z ≡ y = cc in here z y zs same)

in_range : (n x : ℕ) → x < n → Contains (range_with_len 0 n) x
in_range n x less = (x, (let long = length-range_with_len 0 n in omega arith), get_or-range_with_len 0 n x x less ∙ omega arith)

module _ (test : ℕ → Bool) (last : ℕ) where
  pub none_passes : count_within test 0 last ≡ 0 → (address : ℕ) → address ≤ last → test address ≡ true → ⊥
  unfolding count_within
  none_passes none address le passes =
      let kept = in_kept test (range_with_len 0 (last + 1 - 0)) address (in_range (last + 1 - 0) address (omega arith)) passes in
      let lt = kept.1 in
      omega (arith, length-filter test (range_with_len 0 (last + 1 - 0)))

  pub counts_none : ((address : ℕ) → address ≤ last → test address ≡ true → ⊥) → count_within test 0 last ≡ 0
  unfolding count_within
  counts_none none = sym (length-filter test (range_with_len 0 (last + 1 - 0))) ∙ by (filter test (range_with_len 0 (last + 1 - 0))) refl
    where
      below : (n x : ℕ) → Contains (range_with_len 0 n) x → x < n
      below n x has = (let lt = has.1 in let long = length-range_with_len 0 n in let at = sym has.2 ∙ get_or-range_with_len 0 n has.0 x (omega arith) in omega arith)

      by : (kept : List ℕ) → filter test (range_with_len 0 (last + 1 - 0)) ≡ kept → length kept ≡ 0
      by [] e = refl
      by (x ∷ kept) e =
          let there = kept_in test (range_with_len 0 (last + 1 - 0)) x (first_in (filter test (range_with_len 0 (last + 1 - 0))) x kept e) in
          absurd (none x (let lt = below (last + 1 - 0) x there.0 in omega arith) there.1)

-- ---- a line that a verdict names grants something there
module _ (content : Content) (fs : ℕ) (sound : IsSound content fs) (line address : ℕ) where
  abbrev passes : Row → Bool
  passes row = is_greatest (rows_of content fs) address (weight_of row address)

  verdict_here : (path : List (List ℕ)) → fs_of content.table path ≡ Some fs → verdict_of content address path ≡ verdict_among (record { 0 = fs }) (lists content fs path) (filter passes (rows_of content fs))
  unfolding verdict_of selected
  verdict_here path e = ap (verdict_in content address path) e

  -- the first that is selected grants its own directory
  own_grant : (first : Row) (others : List Row) → filter passes (rows_of content fs) ≡ first ∷ others → first.entry.line ≡ line → GrantsTo content fs line address
  own_grant first others e is =
      let rows = rows_of content fs in
      let chosen = find_in passes (λ row. true) rows first (ap (find (λ (row : Row). true)) e) in
      let dir = own_directory rows sound.directories first chosen.0 in
      let in_dir : fs_of content.table dir.0 ≡ Some fs = all_of_flat (λ (path : List (List ℕ)). fs_of content.table path ≡ Some fs) (λ (row : Row). row.entry.dirs) rows first (sound.own fs) chosen.0 dir.0 dir.1 in
      record {
        path = dir.0;
        here = in_dir;
        grant = record { fs = record { 0 = fs }; line = first.entry.line; terms = first.entry.terms };
        granted = verdict_here dir.0 in_dir ∙ ap (verdict_among (record { 0 = fs }) (lists content fs dir.0)) e
            ∙ ap (λ b. granted_by (record { 0 = fs }) first (cond b (Some first) (find (lists content fs dir.0) others))) (or_left _ _ (is_own first.entry.dirs dir.0 dir.1));
        by_line = is;
      }

  -- the verdict among the lines that are selected
  named_among : (path : List (List ℕ)) → fs_of content.table path ≡ Some fs → (chosen : List Row) → filter passes (rows_of content fs) ≡ chosen
      → names_line line (verdict_among (record { 0 = fs }) (lists content fs path) chosen) ≡ true → GrantsTo content fs line address
  named_among path home [] e names = absurd (true≢false (sym names))
  named_among path home (first ∷ others) e names = by (find (lists content fs path) (first ∷ others)) refl names
    where
      by : (found : Option Row) → find (lists content fs path) (first ∷ others) ≡ found → names_line line (granted_by (record { 0 = fs }) first found) ≡ true → GrantsTo content fs line address
      by None f names = own_grant first others e (eqb-true first.entry.line line names)
      by (Some row) f names = record {
        path = path;
        here = home;
        grant = record { fs = record { 0 = fs }; line = row.entry.line; terms = row.entry.terms };
        granted = verdict_here path home ∙ ap (verdict_among (record { 0 = fs }) (lists content fs path)) e ∙ ap (granted_by (record { 0 = fs }) first) f;
        by_line = eqb-true row.entry.line line names;
      }

  pub named_grants : (path : List (List ℕ)) → fs_of content.table path ≡ Some fs → names_line line (verdict_of content address path) ≡ true → GrantsTo content fs line address
  named_grants path home names = named_among path home (filter passes (rows_of content fs)) refl (ap (names_line line) (sym (verdict_here path home)) ∙ names)

-- what a line grants names it
pub named_by : (content : Content) (fs line address : ℕ) → address < 2 ^ 32 → GrantsTo content fs line address → IsNamed content fs line
named_by content fs line address fits grants = record {
  address = address;
  path = grants.path;
  is_address = fits;
  here = grants.here;
  names = ap (names_line line) grants.granted ∙ eq-eqb grants.grant.line line grants.by_line;
}

pub idle_lines_grant_nothing : IdleLinesGrantNothing
idle_lines_grant_nothing content fs line count sound counts = (
  λ nothing. counts.are ∙ counts_none counts.test (2 ^ 32 - 1)
      (λ address le passes. let fits : address < 2 ^ 32 = omega arith in nothing (named_by content fs line address fits ((counts.decides address fits).0 passes))),
  λ none named. none_passes counts.test (2 ^ 32 - 1) (sym counts.are ∙ none) named.address (let lt = named.is_address in omega arith)
      ((counts.decides named.address named.is_address).1 (named_grants content fs sound line named.address named.path named.here named.names)),
)
