-- To whom a line grants something, by the ranges at which it grants a place.
use Rattle.std.proofs.Common.{◌≡◌, ℕ, ◌<◌, ◌^◌, ◌∙◌, Bool, true, List, [], ◌∷◌, Option, None, Some, ap, arith, inl, inr, map, refl, subst, sym}
use Rattle.std.specs.Prelude.{Contains, Result, Ok, Err, filter, find}
use Rattle.std.specs.List.{AllByRecursion, flat_map, list_any}
use Rattle.std.proofs.lemmas.Bool.{and_parts, eq-eqb, eqb-true, leb-true, true≢false}
use Rattle.std.proofs.lemmas.List.Elements.{All-contains, All-from_recursion, Contains-append_cases, Contains-append_left, Contains-append_right}
use Rattle.std.proofs.lemmas.List.Folds.{Any-from_list_any}
use Rattle.desk_tables.specs.FileSystems.{fs_of}
use Rattle.desk_tables.specs.declared.filesystems.FsId.{FsId}
use Rattle.desk_policy.specs.Policy.{Content, rows_of}
use Rattle.desk_policy.specs.Verdict.{Grant, granted_by, is_in, lists, verdict_among, verdict_in, verdict_of}
use Rattle.desk_policy.specs.Weights.{selected}
use Rattle.desk_policy.specs.declared.row.Row.{Row}
use Rattle.desk_policy.specs.declared.verdict.Denial.{Denial}
use Rattle.desk_who.specs.Runs.{HasValue, Run, holds}
use Rattle.desk_impact.specs.Places.{Directory, Others, Place, place_verdict, verdict_elsewhere}
use Rattle.desk_impact.specs.Sections.{HasPathFor, HasPlaceFor, PlaceBreaches, PlacesTellScope}
use Rattle.page_data.specs.Grants.{AreGrants, GrantsTo, IsCountOf}
use Rattle.page_data.specs.PrivateGrants.{LineCount, PieceValue, counts_of, covered, has, is_of_line, line_count, piece_by, piece_of, pieces_in, pieces_of}
use Rattle.page_data.specs.declared.grants.LineGrants.{LineGrants}
use Rattle.page_data.specs.Sections.{AreSections, AreVerdictsAt, is_section_in, path_at}
use Rattle.page_data.proofs.AllRows.{from_map, to_map}
use Rattle.page_data.proofs.Containing.{here, here_or_there, there}
use Rattle.page_data.proofs.Filtered.{both_in, some_in}
use Rattle.page_data.proofs.Grouped.{in_kept, kept_in}

-- ---- a verdict that grants names its file system
among_fs : (fs : FsId) (listing : Row → Bool) (chosen : List Row) (grant : Grant) → verdict_among fs listing chosen ≡ Ok grant → grant.fs ≡ fs
among_fs fs listing [] grant is = cc
among_fs fs listing (first ∷ others) grant is = by (find listing (first ∷ others)) is
  where
    by : (found : Option Row) → granted_by fs first found ≡ Ok grant → grant.fs ≡ fs
    by None e = cc
    by (Some row) e = cc

path_fs : (content : Content) (address : ℕ) (path : List (List ℕ)) (grant : Grant) → verdict_of content address path ≡ Ok grant → fs_of content.table path ≡ Some grant.fs.0
unfolding verdict_of
path_fs content address path grant is = by (fs_of content.table path) refl is
  where
    by : (o : Option ℕ) → fs_of content.table path ≡ o → verdict_in content address path o ≡ Ok grant → fs_of content.table path ≡ Some grant.fs.0
    by None home e = cc
    by (Some fs) home e = home ∙ sym (ap (λ (f : FsId). Some f.0) (among_fs (record { 0 = fs }) (lists content fs path) (selected (rows_of content fs) address) grant e))

place_fs : (content : Content) (address : ℕ) (place : Place) (grant : Grant) → place_verdict content place address ≡ Ok grant → fs_of content.table (path_at place) ≡ Some grant.fs.0
place_fs content address (Directory path) grant is = path_fs content address path grant is
place_fs content address (Others mount) grant is = by (fs_of content.table mount) refl is
  where
    by : (o : Option ℕ) → fs_of content.table mount ≡ o → verdict_elsewhere content address o ≡ Ok grant → fs_of content.table mount ≡ Some grant.fs.0
    by None home e = cc
    by (Some fs) home e = home ∙ sym (ap (λ (f : FsId). Some f.0) (among_fs (record { 0 = fs }) (λ row. row.entry.alldirs) (selected (rows_of content fs) address) grant e))

-- ---- elements of lists that are made of elements
pub record FromFlat {X Y : Type 0} (of : X → List Y) (xs : List X) (y : Y) : Type 0 where
  pub x : X
  pub listed : Contains xs x
  pub own : Contains (of x) y

pub from_flat : {X Y : Type 0} (of : X → List Y) (xs : List X) (y : Y) → Contains (flat_map of xs) y → FromFlat of xs y
from_flat of [] y has' = absurd (let lt = has'.1 in omega arith)
from_flat {X} {Y} of (x ∷ xs) y has' =
    elim (Contains-append_cases (of x) (flat_map of xs) y has') as (λ _. FromFlat of (x ∷ xs) y) [
      | inl first ↦ record { x = x; listed = here x x xs refl; own = first }
      | inr later ↦ (let rest = from_flat of xs y later in record { x = rest.x; listed = there x rest.x xs rest.listed; own = rest.own })
    ]

pub to_flat : {X Y : Type 0} (of : X → List Y) (xs : List X) (x : X) (y : Y) → Contains xs x → Contains (of x) y → Contains (flat_map of xs) y
to_flat of [] x y listed own = absurd (let lt = listed.1 in omega arith)
to_flat {X} {Y} of (first ∷ xs) x y listed own =
    elim (here_or_there first x xs listed) as (λ _. Contains (flat_map of (first ∷ xs)) y) [
      | inl is ↦ Contains-append_left (of first) (flat_map of xs) y (subst (λ (z : X). Contains (of z) y) (sym is) own)
      | inr later ↦ Contains-append_right (of first) (flat_map of xs) y (to_flat of xs x y later own)
    ]

-- a piece is of a range with a verdict that grants
pub record IsPieceOf (range : Run (Result Grant Denial)) (piece : PieceValue) : Type 0 where
  pub grant : Grant
  pub granted : range.value ≡ Ok grant
  pub line : piece.line ≡ grant.line
  pub first : piece.first ≡ range.first
  pub last : piece.last ≡ range.last

piece_is : (range : Run (Result Grant Denial)) (piece : PieceValue) → Contains (piece_of range) piece → IsPieceOf range piece
piece_is range piece has' = by range.value refl has'
  where
    by : (verdict : Result Grant Denial) → range.value ≡ verdict → Contains (piece_by range.first range.last verdict) piece → IsPieceOf range piece
    by (Err denial) e has'' = absurd (let lt = has''.1 in omega arith)
    by (Ok grant) e has'' =
        elim (here_or_there (record { line = grant.line; first = range.first; last = range.last }) piece [] has'') as (λ _. IsPieceOf range piece) [
          | inl is ↦ record {
            grant = grant;
            granted = e;
            line = sym (ap (λ (p : PieceValue). p.line) is);
            first = sym (ap (λ (p : PieceValue). p.first) is);
            last = sym (ap (λ (p : PieceValue). p.last) is);
          }
          | inr none ↦ absurd (let lt = none.1 in omega arith)
        ]

piece_there : (range : Run (Result Grant Denial)) (grant : Grant) → range.value ≡ Ok grant → Contains (piece_of range) (record { line = grant.line; first = range.first; last = range.last })
piece_there range grant is =
    subst (λ (verdict : Result Grant Denial). Contains (piece_by range.first range.last verdict) (record { line = grant.line; first = range.first; last = range.last })) (sym is)
    (here (record { line = grant.line; first = range.first; last = range.last }) (record { line = grant.line; first = range.first; last = range.last }) [] refl)

module _ (tells : PlacesTellScope) (content : Content) (all : List PlaceBreaches) (are : AreSections content all) (fs line address : ℕ) (fits : address < 2 ^ 32) where
  abbrev own : List PlaceBreaches
  own = filter (is_section_in content.table fs) all

  abbrev test : Bool
  test = list_any (has address) (filter (is_of_line line) (pieces_of own))

  -- a range at which the line grants a place tells of a path
  granted : test ≡ true → GrantsTo content fs line address
  granted is =
      let both = both_in (is_of_line line) (has address) (pieces_of own) is in
      let section = from_flat (λ (s : PlaceBreaches). pieces_in s.ranges) own both.value both.has in
      let range = from_flat piece_of section.x.ranges both.value section.own in
      let piece = piece_is range.x both.value range.own in
      let kept = kept_in (is_section_in content.table fs) all section.x section.listed in
      let verdicts : AreVerdictsAt content section.x = All-contains (AreVerdictsAt content) all section.x are.verdicts kept.0 in
      let value : HasValue (λ a. place_verdict content section.x.place a) range.x =
      All-contains (HasValue (λ a. place_verdict content section.x.place a)) section.x.ranges range.x (All-from_recursion (HasValue (λ a. place_verdict content section.x.place a)) section.x.ranges verdicts.values) range.listed in
      let parts = and_parts _ _ both.passed in
      let low = leb-true both.value.first address parts.0 in
      let high = leb-true address both.value.last parts.1 in
      let verdict : place_verdict content section.x.place address ≡ Ok piece.grant = value.values address (omega (arith, piece.first)) (omega (arith, piece.last)) ∙ piece.granted in
      let has_path : HasPathFor content [] true section.x.place = All-contains (HasPathFor content [] true) (map (λ (s : PlaceBreaches). s.place) all) section.x.place
      (tells content [] true (map (λ (s : PlaceBreaches). s.place) all) are.places).1 (to_places section.x all kept.0) in
      let on_path : verdict_of content address has_path.path ≡ Ok piece.grant = has_path.stands address ∙ verdict in
      record {
        path = has_path.path;
        here = path_fs content address has_path.path piece.grant on_path ∙ same_fs (fs_of content.table (path_at section.x.place)) piece.grant.fs.0 (place_fs content address section.x.place piece.grant verdict) kept.1;
        grant = piece.grant;
        granted = on_path;
        by_line = sym piece.line ∙ eqb-true both.value.line line both.tested;
      }
    where
      to_places : (section : PlaceBreaches) (some : List PlaceBreaches) → Contains some section → Contains (map (λ (s : PlaceBreaches). s.place) some) section.place
      to_places section some has' = to_map (λ (s : PlaceBreaches). s.place) some section has'

      same_fs : (o : Option ℕ) (number : ℕ) → o ≡ Some number → is_in o fs ≡ true → Some number ≡ Some fs
      same_fs None number e is' = absurd (true≢false (sym is'))
      same_fs (Some other) number e is' = sym e ∙ ap Some (eqb-true other fs is')

  -- a path that the line grants has such a range
  is_test : GrantsTo content fs line address → test ≡ true
  is_test grants =
      let place : HasPlaceFor content (map (λ (s : PlaceBreaches). s.place) all) grants.path = (tells content [] true (map (λ (s : PlaceBreaches). s.place) all) are.places).0 grants.path refl in
      let section = from_map (λ (s : PlaceBreaches). s.place) all place.place place.listed in
      let verdict : place_verdict content section.x.place address ≡ Ok grants.grant = ap (λ p. place_verdict content p address) section.is ∙ sym (place.stands address) ∙ grants.granted in
      let home : fs_of content.table (path_at section.x.place) ≡ Some fs =
      place_fs content address section.x.place grants.grant verdict ∙ sym (path_fs content address grants.path grants.grant grants.granted) ∙ grants.here in
      let in_own : Contains own section.x = in_kept (is_section_in content.table fs) all section.x section.has (ap (λ o. is_in o fs) home ∙ eq-eqb fs fs refl) in
      let verdicts : AreVerdictsAt content section.x = All-contains (AreVerdictsAt content) all section.x are.verdicts section.has in
      let any = Any-from_list_any (holds address) section.x.ranges (verdicts.complete address fits) in
      let range : Run (Result Grant Denial) = any.1 in
      let listed : Contains section.x.ranges range = (any.0, any.2, any.3) in
      let value : HasValue (λ a. place_verdict content section.x.place a) range =
      All-contains (HasValue (λ a. place_verdict content section.x.place a)) section.x.ranges range (All-from_recursion (HasValue (λ a. place_verdict content section.x.place a)) section.x.ranges verdicts.values) listed in
      let parts = and_parts _ _ any.4 in
      let is : range.value ≡ Ok grants.grant = sym (value.values address (leb-true range.first address parts.0) (leb-true address range.last parts.1)) ∙ verdict in
      let piece : PieceValue = record { line = grants.grant.line; first = range.first; last = range.last } in
      some_in (is_of_line line) (has address) (pieces_of own) piece
      (to_flat (λ (s : PlaceBreaches). pieces_in s.ranges) own section.x piece in_own (to_flat piece_of section.x.ranges range piece listed (piece_there range grants.grant is)))
      (eq-eqb grants.grant.line line grants.by_line) any.4

-- ---- counts
module _ (tells : PlacesTellScope) (content : Content) (all : List PlaceBreaches) (are : AreSections content all) (fs : ℕ) where
  abbrev pieces : List PieceValue
  pieces = pieces_of (filter (is_section_in content.table fs) all)

  counted : (row : Row) (one : LineGrants) → line_count one ≡ record { line = row.entry.line; count = covered (filter (is_of_line row.entry.line) pieces) } → IsCountOf content fs one
  counted row one same = record {
    test = λ address. list_any (has address) (filter (is_of_line one.line) pieces);
    decides = λ address fits. (granted tells content all are fs one.line address fits, is_test tells content all are fs one.line address fits);
    are = ap (λ (c : LineCount). c.count) same ∙ ap (λ line. covered (filter (is_of_line line) pieces)) (sym (ap (λ (c : LineCount). c.line) same));
  }

  each : (rows : List Row) (found : List LineGrants) → map line_count found ≡ counts_of rows pieces → AllByRecursion (IsCountOf content fs) found
  each rows [] e = tt
  each [] (one ∷ found) e = absurd (cc)
  each (row ∷ rows) (one ∷ found) e =
      let head : line_count one ≡ record { line = row.entry.line; count = covered (filter (is_of_line row.entry.line) pieces) } = cc in
      let tail : map line_count found ≡ counts_of rows pieces = cc in
      (counted row one head, each rows found tail)

  lines_of : (found : List LineGrants) → map (λ (one : LineGrants). one.line) found ≡ map (λ (c : LineCount). c.line) (map line_count found)
  lines_of [] = refl
  lines_of (one ∷ found) = ap (λ ls. one.line ∷ ls) (lines_of found)

  lines_in : (rows : List Row) → map (λ (c : LineCount). c.line) (counts_of rows pieces) ≡ map (λ (row : Row). row.entry.line) rows
  lines_in [] = refl
  lines_in (row ∷ rows) = ap (λ ls. row.entry.line ∷ ls) (lines_in rows)

  pub are_grants : (found : List LineGrants) → map line_count found ≡ counts_of (rows_of content fs) pieces → AreGrants content fs found
  are_grants found e = record {
    lines = lines_of found ∙ ap (map (λ (c : LineCount). c.line)) e ∙ lines_in (rows_of content fs);
    counts = All-from_recursion (IsCountOf content fs) found (each (rows_of content fs) found e);
  }
