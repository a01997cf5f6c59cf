-- The server grants some path that is denied here exactly where a line that names the client lists what no selected line does.
use Rattle.std.proofs.Common.{◌≡◌, ◌⊎◌, ◌∙◌, ℕ, ◌<◌, ◌^◌, Bool, true, false, List, [], ◌∷◌, Option, Some, None, Ok, Err, IsSome, ap, arith, inl, inr, refl, subst, sym}
use Rattle.std.specs.Prelude.{filter, find, slice_get}
use Rattle.std.specs.List.{Contains, list_all, list_any}
use Rattle.std.specs.Option.{option_map}
use Rattle.std.proofs.lemmas.Bool.{and_from, and_parts, cases_Bool, cond-true, cond-false, eqb-true, false_from_ne_true, le-leb, ltb-false, ltb-true, lt-ltb, not-true, or_cases, or_left, or_right, true≢false}
use Rattle.std.proofs.lemmas.List.Folds.{list_any_at}
use Rattle.desk_tables.specs.FileSystems.{fs_of}
use Rattle.desk_tables.specs.declared.filesystems.FsId.{FsId}
use Rattle.desk_policy.specs.Listings.{written}
use Rattle.desk_policy.specs.Policy.{Content, rows_of}
use Rattle.desk_policy.specs.Verdict.{Grant, granted_by, lists, verdict_among}
use Rattle.desk_policy.specs.Weights.{is_at_most, is_greatest, selected, weight_of}
use Rattle.desk_policy.specs.declared.row.Row.{Row}
use Rattle.desk_policy.specs.declared.verdict.Denial.{Denial}
use Rattle.desk_policy.specs.declared.verdict.Denial.TheVariants.{NoLine, NotListed}
use Rattle.desk_idle.specs.Idle.{first_selected}
use Rattle.desk_idle.specs.Laws.{WriteDirectories, brings}
use Rattle.desk_idle.proofs.Bringing.{Lacks, all_lack, brings_by, each_lacks, elsewhere, lists_is, none_lists, own_dirs, selected_kept, verdict_is, witness}
use Rattle.desk_idle.proofs.Directories.{Path, is_new}
use Rattle.desk_idle.proofs.Heaviest.{filter_from, filter_has}
use Rattle.desk_idle.proofs.Lists.{in_middle}
use Rattle.desk_idle.proofs.Looks.{none_found, none_passes}
use Rattle.desk_idle.proofs.Matching.{selects}
use Rattle.desk_server.specs.PrivateWiderGrants.{Widened}
use Rattle.desk_server.specs.Server.{asked, for_everybody, granting, is_everybody, is_named, named, or_others, server_verdict_among, server_verdict_by, server_verdict_in, server_verdict_of}
use Rattle.desk_server.specs.WiderGrants.{IsWiderAt}

-- ---- lists

-- no element passes
pub fails : {X : Type 0} (p : X → Bool) (xs : List X) (x : X) → list_any p xs ≡ false → Contains xs x → p x ≡ true → ⊥
fails p xs x none has passes = true≢false (sym (list_any_at p xs has.0 x has.1 (ap p has.2 ∙ passes)) ∙ none)

-- ---- lines that mountd asks

pub named_weight : (o : Option ℕ) → is_named o ≡ true → (w : ℕ) × (o ≡ Some w) × (0 < w)
named_weight None e = absurd (true≢false (sym e))
named_weight (Some w) e = (w, refl, ltb-true 0 w e)

pub everybody_weight : (o : Option ℕ) → is_everybody o ≡ true → o ≡ Some 0
everybody_weight None e = absurd (true≢false (sym e))
everybody_weight (Some w) e = ap (λ (n : ℕ). Some n) (eqb-true w 0 e)

low : (o : Option ℕ) → is_named o ≡ false → is_at_most o 0 ≡ true
low None e = refl
low (Some w) e = le-leb w 0 (ltb-false 0 w e)

pub or_either : (ns es : List Row) (row : Row) → Contains (or_others ns es) row → Contains ns row ⊎ ((ns ≡ []) × Contains es row)
or_either [] es row has = inr (refl, has)
or_either (n ∷ ns) es row has = inl has

or_first : (ns es : List Row) (row : Row) → Contains ns row → Contains (or_others ns es) row
or_first [] es row has = absurd (let b = has.1 in omega arith)
or_first (n ∷ ns) es row has = has

module _ (rows : List Row) (address : ℕ) where
  all_low : (rs : List Row) → named rs address ≡ [] → list_all (λ other. is_at_most (weight_of other address) 0) rs ≡ true
  all_low [] e = refl
  all_low (r ∷ rs) e =
      elim (cases_Bool (is_named (weight_of r address))) [
        | inl first ↦ (let wrong : r ∷ named rs address ≡ [] = sym (cond-true (is_named (weight_of r address)) (r ∷ named rs address) (named rs address) first) ∙ e in cc)
        | inr later_on ↦ and_from _ _ (low (weight_of r address) later_on) (all_low rs (sym (cond-false (is_named (weight_of r address)) (r ∷ named rs address) (named rs address) later_on) ∙ e))
      ]

  -- where no line names the client, those for everybody are selected
  everybody_selected : (row : Row) → Contains rows row → weight_of row address ≡ Some 0 → named rows address ≡ [] → Contains (selected rows address) row
  unfolding selected
  everybody_selected row has weighs none =
      filter_has (λ (other : Row). is_greatest rows address (weight_of other address)) rows row has (ap (is_greatest rows address) weighs ∙ all_low rows none)

  -- a line that mountd asks names the client, or is selected
  pub asked_is : (row : Row) → Contains (asked rows address) row → ((weight : ℕ) × Contains rows row × (weight_of row address ≡ Some weight) × (0 < weight)) ⊎ Contains (selected rows address) row
  unfolding asked
  asked_is row has =
      elim (or_either (named rows address) (for_everybody rows address) row has) [
        | inl by_name ↦
            let f = filter_from (λ (other : Row). is_named (weight_of other address)) rows row by_name in
            let w = named_weight (weight_of row address) f.1 in
            inl (w.0, f.0, w.1, w.2)
        | inr none ↦
            let f = filter_from (λ (other : Row). is_everybody (weight_of other address)) rows row none.1 in
            inr (everybody_selected row f.0 (everybody_weight (weight_of row address) f.1) none.0)
      ]

  -- a line that names the client is asked
  pub named_asked : (row : Row) (weight : ℕ) → Contains rows row → weight_of row address ≡ Some weight → 0 < weight → Contains (asked rows address) row
  unfolding asked
  named_asked row weight has weighs names =
      or_first (named rows address) (for_everybody rows address) row
      (filter_has (λ (other : Row). is_named (weight_of other address)) rows row has (ap is_named weighs ∙ lt-ltb 0 weight names))

-- ---- verdicts

some_weight : (o : Option ℕ) (weight : ℕ) → o ≡ Some weight → IsSome o
some_weight o weight is = subst IsSome (sym is) refl

module _ (fs : FsId) (listing : Row → Bool) where
  denied_none : (chosen : List Row) (denial : Denial) → verdict_among fs listing chosen ≡ Err denial → list_any listing chosen ≡ false
  denied_none [] denial e = refl
  denied_none (first ∷ others) denial e = by_found (find listing (first ∷ others)) refl e
    where
      by_found : (o : Option Row) → find listing (first ∷ others) ≡ o → granted_by fs first o ≡ Err denial → list_any listing (first ∷ others) ≡ false
      by_found None is e = false_from_ne_true _ (none_passes listing (first ∷ others) is)
      by_found (Some row) is e = let grant : Grant = record { fs = fs; line = row.entry.line; terms = row.entry.terms } in let wrong : Ok grant ≡ Err denial = e in cc

  denied_if : (chosen : List Row) → list_any listing chosen ≡ false → (denial : Denial) × (verdict_among fs listing chosen ≡ Err denial)
  denied_if [] none = (NoLine fs, refl)
  denied_if (first ∷ others) none = (NotListed fs first.entry.line, ap (granted_by fs first) (none_found listing (first ∷ others) none))

granted_some : (fs : FsId) (chosen grant_it : List Row) (grant : Grant) → server_verdict_by fs chosen grant_it ≡ Ok grant → (row : Row) × Contains grant_it row
granted_some fs [] grant_it grant e = let wrong : Err (NoLine fs) ≡ Ok grant = e in cc
granted_some fs (first ∷ others) [] grant e = let wrong : Err (NotListed fs first.entry.line) ≡ Ok grant = e in cc
granted_some fs (first ∷ others) (row ∷ rows) grant e = (row, in_middle [] row rows)

granted_if : (fs : FsId) (chosen grant_it : List Row) → (chosen ≡ [] → ⊥) → (grant_it ≡ [] → ⊥) → (grant : Grant) × (server_verdict_by fs chosen grant_it ≡ Ok grant)
granted_if fs [] grant_it some found = absurd (some refl)
granted_if fs (first ∷ others) [] some found = absurd (found refl)
granted_if fs (first ∷ others) (row ∷ rows) some found = (record { fs = fs; line = row.entry.line; terms = first.entry.terms }, refl)

some_selected : (chosen : List Row) (line : ℕ) → option_map (λ (row : Row). row.entry.line) (slice_get chosen 0) ≡ Some line → chosen ≡ [] → ⊥
some_selected [] line e none = let wrong : None ≡ Some line = e in cc
some_selected (row ∷ rows) line e none = let wrong : row ∷ rows ≡ [] = none in cc

-- the line that is the first selected
pub record SelectedLine (chosen : List Row) (line : ℕ) : Type 0 where
  pub row : Row
  pub has : Contains chosen row
  pub number : row.entry.line ≡ line

pub selected_line : (chosen : List Row) (line : ℕ) → option_map (λ (row : Row). row.entry.line) (slice_get chosen 0) ≡ Some line → SelectedLine chosen line
selected_line [] line e = let wrong : None ≡ Some line = e in cc
selected_line (row ∷ others) line e = record { row = row; has = in_middle [] row others; number = (let f : Some row.entry.line ≡ Some line = e in cc) }

pub selected_from : (rows : List Row) (address : ℕ) (row : Row) → Contains (selected rows address) row → Contains rows row
unfolding selected
selected_from rows address row has = (filter_from (λ (other : Row). is_greatest rows address (weight_of other address)) rows row has).0

module _ (content : Content) (fs : ℕ) (is : WriteDirectories content fs) (address : ℕ) where
  abbrev rows : List Row
  rows = rows_of content fs

  abbrev chosen : List Row
  chosen = selected rows address

  abbrev here_is : Path → Type 0
  here_is path = fs_of content.table path ≡ Some fs

  server_is : (path : Path) → here_is path → server_verdict_of content address path ≡ server_verdict_among (record { 0 = fs }) (lists content fs path) rows address
  unfolding server_verdict_of
  server_is path here = ap (server_verdict_in content address path) here

  by_asked : (path : Path) → here_is path → list_any (lists content fs path) chosen ≡ false → (row : Row) → Contains (asked rows address) row → lists content fs path row ≡ true → Widened rows address
  by_asked path here none row has passes =
      elim (asked_is rows address row has) [
        | inl by_name ↦ record {
          row = row;
          weight = by_name.0;
          widens = record { has = by_name.1; matches = by_name.2; names = by_name.3; brought = brings_by content fs is row by_name.1 path here chosen none passes };
        }
        | inr also ↦ absurd (fails (lists content fs path) chosen row none also passes)
      ]

  -- where the server grants a path that is denied here, a line widens
  pub wider_widens : (line : ℕ) → IsWiderAt content fs line address → Widened rows address
  wider_widens line at =
      let listing = lists content fs at.path in
      let id : FsId = record { 0 = fs } in
      let none = denied_none id listing chosen at.denial (sym (verdict_is content fs address at.path at.here) ∙ at.denied) in
      let g = granted_some id chosen (granting listing rows address) at.grant (sym (server_is at.path at.here) ∙ at.granted) in
      let f = filter_from listing (asked rows address) g.0 (selected_from (filter listing (asked rows address)) address g.0 g.1) in
      by_asked at.path at.here none g.0 f.0 f.1

  -- a path of the file system that a line lists, and no selected one
  record Beyond (row : Row) : Type 0 where
    path : Path
    here : here_is path
    none : list_any (lists content fs path) chosen ≡ false
    passes : lists content fs path row ≡ true

  beyond : (row : Row) → Contains rows row → brings chosen row ≡ true → Beyond row
  beyond row has brought =
      let s = and_parts _ _ brought in
      let none_all = not-true (list_any (λ (other : Row). other.entry.alldirs) chosen) s.0 in
      elim (or_cases _ _ s.1) [
        | inl all ↦
            let other = elsewhere content fs is row has in
            let lack = selected_kept (Lacks other.path) rows address (each_lacks other.path rows other.unwritten) in
            record {
              path = other.path;
              here = other.here;
              none = none_lists content fs other.path other.here chosen none_all (all_lack other.path chosen lack);
              passes = lists_is content fs other.path other.here row ∙ or_right _ _ all;
            }
        | inr new ↦
            let w = witness (λ (dir : Path). fs_of content.table dir ≡ Some fs) (is_new (written chosen)) row.entry.dirs (own_dirs content fs is row has) new in
            record {
              path = w.dir;
              here = w.has;
              none = none_lists content fs w.dir w.has chosen none_all (not-true _ w.passes);
              passes = lists_is content fs w.dir w.has row ∙ or_left _ _ w.among;
            }
      ]

  -- where a line widens, the server grants a path that is denied here
  pub widens_wider : (line : ℕ) → address < 2 ^ 32 → first_selected rows address ≡ Some line → Widened rows address → IsWiderAt content fs line address
  widens_wider line small first w =
      let b = beyond w.row w.widens.has w.widens.brought in
      let listing = lists content fs b.path in
      let id : FsId = record { 0 = fs } in
      let d = denied_if id listing chosen b.none in
      let granter = filter_has listing (asked rows address) w.row (named_asked rows address w.row w.weight w.widens.has w.widens.matches w.widens.names) b.passes in
      let g = granted_if id chosen (granting listing rows address) (some_selected chosen line first)
      (selects (filter listing (asked rows address)) w.row address granter (some_weight (weight_of w.row address) w.weight w.widens.matches)) in
      record {
        is_address = small;
        first = first;
        path = b.path;
        here = b.here;
        denial = d.0;
        denied = verdict_is content fs address b.path b.here ∙ d.1;
        grant = g.0;
        granted = server_is b.path b.here ∙ g.1;
      }
