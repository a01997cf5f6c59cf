-- The lines of a file system, and the lines of file systems, with one more.
use Rattle.std.proofs.Common.{◌≡◌, ℕ, ◌+◌, ◌<◌, ◌++◌, ◌∙◌, List, [], ◌∷◌, ap, arith, get_or, length, map, refl, subst, sym, take}
use Rattle.std.specs.Prelude.{All}
use Rattle.std.specs.List.{flat_map, range_with_len}
use Rattle.std.proofs.lemmas.List.{append-nil, append_assoc, flat_map_more, get_or-map, get_or_default, length-map, map-append, map-id, take_more}
use Rattle.std.proofs.lemmas.List.Elements.{All-append, All-push}
use Rattle.std.proofs.lemmas.List.FromFn.{map-range_with_len_more}
use Rattle.desk_policy.specs.Policy.{Content, rows_of}
use Rattle.desk_policy.specs.declared.row.Row.{Row}
use Rattle.page_data.specs.Grants.{AreGrants}
use Rattle.page_data.specs.Lines.{AreLineReasons}
use Rattle.page_data.specs.Systems.{AreSystems, SystemValue, system_value}
use Rattle.page_data.specs.declared.lines.LineReasons.{LineReasons}
use Rattle.page_data.specs.declared.systems.FileSystemReport.{FileSystemReport}
use Rattle.page_findings.specs.Lines.{AreLinesOfSite, AreReasonsOfSite, IsLineOf, LineValue, placed, placed_in, rows_in}
use Rattle.page_findings.specs.PrivateLines.{AddsLines}

pub adds_none : (content : Content) (fs : ℕ) (old : List LineValue) → AddsLines content fs [] old old
adds_none content fs old = record { added = []; are = sym (append-nil old); are_rows = refl; each = λ k d within. absurd (omega arith) }

pub adds_one : (content : Content) (fs : ℕ) (rows : List Row) (i : ℕ) (row : Row) → i < length rows → row ≡ get_or rows i row → (old now new : List LineValue) (one : LineValue)
    → AddsLines content fs (take i rows) old now → new ≡ now ++ one ∷ [] → placed one ≡ placed_in fs row → IsLineOf content one → AddsLines content fs (take (i + 1) rows) old new
adds_one content fs rows i row within is old now new one so_far pushed place told = record {
  added = so_far.added ++ one ∷ [];
  are = pushed ∙ ap (λ ls. ls ++ one ∷ []) so_far.are ∙ append_assoc old so_far.added (one ∷ []);
  are_rows = map-append placed so_far.added (one ∷ []) ∙ ap (λ rs. rs ++ placed one ∷ []) so_far.are_rows ∙ ap (λ r. map (placed_in fs) (take i rows) ++ r ∷ []) place
      ∙ sym (ap (map (placed_in fs)) (take_more rows i row within ∙ ap (λ r. take i rows ++ r ∷ []) (sym is)) ∙ map-append (placed_in fs) (take i rows) (row ∷ []));
  each = All-push (IsLineOf content) so_far.added one so_far.each told;
}

-- the lines of the first so many file systems
pub record AreLinesOfFirst (content : Content) (count : ℕ) (lines : List LineValue) : Type 0 where
  pub rows : map placed lines ≡ flat_map (rows_in content) (range_with_len 0 count)
  pub each : All (IsLineOf content) lines

pub first_none : (content : Content) → AreLinesOfFirst content 0 []
first_none content = record { rows = refl; each = λ k d within. absurd (omega arith) }

range_more : (n : ℕ) → range_with_len 0 (n + 1) ≡ range_with_len 0 n ++ n ∷ []
range_more n = sym (map-id (range_with_len 0 (n + 1))) ∙ map-range_with_len_more (λ k. k) 0 n n (omega arith) ∙ ap (λ ns. ns ++ n ∷ []) (map-id (range_with_len 0 n))

pub first_more : (content : Content) (count : ℕ) (lines new : List LineValue) → AreLinesOfFirst content count lines → AddsLines content count (rows_of content count) lines new → AreLinesOfFirst content (count + 1) new
first_more content count lines new so_far adds = record {
  rows = ap (map placed) adds.are ∙ map-append placed lines adds.added ∙ ap (λ rs. rs ++ map placed adds.added) so_far.rows ∙ ap (λ rs. flat_map (rows_in content) (range_with_len 0 count) ++ rs) adds.are_rows
      ∙ flat_map_more (rows_in content) [] (range_with_len 0 count) count ∙ ap (flat_map (rows_in content)) (sym (range_more count));
  each = subst (All (IsLineOf content)) (sym adds.are) (All-append (IsLineOf content) lines adds.added so_far.each adds.each);
}

pub all_first : (content : Content) (count : ℕ) (lines : List LineValue) → AreLinesOfFirst content count lines → count ≡ length content.table → AreLinesOfSite content lines
all_first content count lines so_far all = record { rows = so_far.rows ∙ ap (λ n. flat_map (rows_in content) (range_with_len 0 n)) all; each = so_far.each }

-- what is known of a file system
module _ (content : Content) (systems : List FileSystemReport) (are : AreSystems content (map system_value systems)) where
  pub as_many : length systems ≡ length content.table
  as_many = sym (length-map systems system_value) ∙ are.count

  pub grants_at : (place : ℕ) (default : FileSystemReport) → place < length systems → AreGrants content place (get_or systems place default).grants
  grants_at place default within =
      let many = as_many in
      subst (λ (value : SystemValue). AreGrants content place value.grants) (get_or-map system_value systems place default (system_value default) within)
      (are.each place (system_value default) (omega arith)).grants

pub reasons_at : (content : Content) (reasons : List (List LineReasons)) → AreReasonsOfSite content reasons → (place : ℕ) (own : List LineReasons) → place < length reasons → own ≡ get_or reasons place own → AreLineReasons content place own
reasons_at content reasons are place own within is =
    subst (AreLineReasons content place) (get_or_default reasons place [] own within ∙ sym is) (are.each place (omega (arith, are.count)))
