-- A list of the lines that verdicts name at the addresses of a line has just the lines that decide for its clients.
use Rattle.std.proofs.Common.{◌≡◌, ℕ, ◌+◌, ◌<◌, ◌++◌, ◌∙◌, Bool, true, false, cond, List, [], ◌∷◌, ap, get_or, length, map, refl, subst, sym, take}
use Rattle.std.specs.Prelude.{All, Contains, filter}
use Rattle.std.proofs.lemmas.List.{map-append}
use Rattle.std.proofs.lemmas.List.Elements.{All-append, All-cons, All-map, All-nil, All-weaker, Contains-get_or, filter-append}
use Rattle.std.proofs.lemmas.List.Kept.{AllPairs-from_increasing}
use Rattle.std.proofs.lemmas.Option.{get_or_from_slice_get}
use Rattle.desk_text.specs.AddrSet.{is_among}
use Rattle.desk_text.specs.Laws.{CoversBetweenFirstAndLast, IsSetOf}
use Rattle.desk_policy.specs.Keys.{HasBlock}
use Rattle.desk_policy.specs.Policy.{Content, rows_of}
use Rattle.desk_policy.specs.declared.row.Row.{Row}
use Rattle.desk_impact.specs.Sections.{PlaceBreaches, PlacesTellScope}
use Rattle.page_data.specs.declared.lines.LineReasons.{LineReasons}
use Rattle.page_data.proofs.Gathered.{take_next}
use Rattle.page_findings.specs.Deciding.{AreDeciding, AreSectionsOf, DecidedFor, DecidesFor, IsDecidedFor, never_decides}
use Rattle.page_findings.specs.PrivateDeciding.{IsListed, IsWithLine, lines_for}
use Rattle.page_findings.specs.declared.deciding.NeverDecides.{NeverDecides}
use Rattle.page_findings.specs.declared.lists.Lists.{Lists}
use Rattle.page_findings.proofs.Containing.{among_contains, contains_among}
use Rattle.page_findings.proofs.Kept.{all_more}
use Rattle.page_findings.proofs.Matched.{for_has, from_for}
use Rattle.page_findings.proofs.Places.{at_place, on_path}

-- a line of a file system is listed
pub record IsListedIn (content : Content) (fs : ℕ) (sections : List PlaceBreaches) (lists : List (List ℕ)) (one : NeverDecides) : Type 0 where
  pub row : Row
  pub has : Contains (rows_of content fs) row
  pub line : row.entry.line ≡ one.line
  pub listed : IsListed sections lists row one

-- the line with its list
abbrev pub with_list : List (List ℕ) → NeverDecides → DecidedFor
with_list lists one = record { line = one.line; deciding = get_or lists one.list [] }

module _ (tells : PlacesTellScope) (law : CoversBetweenFirstAndLast) (content : Content) (fs : ℕ) (own : List PlaceBreaches) (are : AreSectionsOf content fs own) where
  are_deciding : (row : Row) (lines : List ℕ) → HasBlock row.entry.clients → IsSetOf (lines_for row.entry.clients row.addrs own) lines → AreDeciding content fs row lines
  are_deciding row lines block set =
      let numbers = lines_for row.entry.clients row.addrs own in
      record {
        order = AllPairs-from_increasing lines set.ascend;
        all = λ line decides.
            among_contains line lines (
            set.each line
            ∙ contains_among line numbers (
            for_has law content fs own are row.entry.clients row.addrs line block
            (record {
              address = decides.address;
              is_address = decides.is_address;
              matches = decides.matches;
              named = at_place content fs own are tells decides.address line decides.is_address (record { path = decides.path; here = decides.here; names = decides.names });
            })
            )
            );
        only = λ k d within. decides_for (get_or lines k d) (sym (set.each (get_or lines k d)) ∙ contains_among (get_or lines k d) lines (Contains-get_or lines k d within));
      }
    where
      decides_for : (line : ℕ) → is_among line (lines_for row.entry.clients row.addrs own) ≡ true → DecidesFor content fs row line
      decides_for line is =
          let one = from_for law content fs own are row.entry.clients row.addrs line block (among_contains line (lines_for row.entry.clients row.addrs own) is) in
          let path = on_path content fs own are tells one.address line one.named in
          record { address = one.address; is_address = one.is_address; matches = one.matches; path = path.path; here = path.here; names = path.names }

  is_decided_for : (lists : List (List ℕ)) (one : NeverDecides) → IsListedIn content fs own lists one → IsDecidedFor content fs (with_list lists one)
  is_decided_for lists one listed =
      let has = listed.listed.has in
      record {
        row = listed.row;
        has = listed.has;
        line = listed.line;
        deciding = subst (AreDeciding content fs listed.row) (sym (get_or_from_slice_get lists one.list has.list [] has.there)) (are_deciding listed.row has.list listed.listed.block has.set);
      }

  pub all_decided : (lists : List (List ℕ)) (lines : List NeverDecides) → All (IsListedIn content fs own lists) lines → All (IsDecidedFor content fs) (map (with_list lists) lines)
  all_decided lists lines listed = All-map (IsDecidedFor content fs) (with_list lists) lines (λ k d within. is_decided_for lists (get_or lines k d) (listed k d within))

pub lines_are : (lists : List (List ℕ)) (lines : List NeverDecides) → map (λ (one : DecidedFor). one.line) (map (with_list lists) lines) ≡ map (λ (one : NeverDecides). one.line) lines
lines_are lists [] = refl
lines_are lists (one ∷ lines) = ap (λ rest. one.line ∷ rest) (lines_are lists lines)

-- ---- one more line
abbrev line_in : LineReasons → ℕ
line_in one = one.line

abbrev line_of : NeverDecides → ℕ
line_of one = one.line

abbrev never : LineReasons → Bool
never one = never_decides one.reasons

abbrev told_by : Bool → ℕ → List ℕ
told_by is line = cond is (line ∷ []) []

told_more : (reasons : List LineReasons) (i : ℕ) (one : LineReasons) → i < length reasons → one ≡ get_or reasons i one
    → map line_in (filter never (take (i + 1) reasons)) ≡ map line_in (filter never (take i reasons)) ++ told_by (never one) one.line
told_more reasons i one within is =
    ap (λ some. map line_in (filter never some)) (take_next reasons i one within is) ∙ ap (map line_in) (filter-append never (take i reasons) (one ∷ []))
    ∙ map-append line_in (filter never (take i reasons)) (filter never (one ∷ [])) ∙ ap (λ lines. map line_in (filter never (take i reasons)) ++ lines) (by (never one))
  where
    by : (b : Bool) → map line_in (cond b (one ∷ []) []) ≡ told_by b one.line
    by true = refl
    by false = refl

all_told : (added : List NeverDecides) (is : Bool) (line : ℕ) → map line_of added ≡ told_by is line → All (λ (one : NeverDecides). line ≡ one.line) added
all_told [] is line e = All-nil (λ (one : NeverDecides). line ≡ one.line)
all_told (one ∷ added) false line e = absurd (cc)
all_told (one ∷ []) true line e = All-cons (λ (other : NeverDecides). line ≡ other.line) one [] (let same : line ≡ one.line = cc in same) (All-nil (λ (other : NeverDecides). line ≡ other.line))
all_told (one ∷ other ∷ added) true line e = absurd (cc)

module _ (content : Content) (fs : ℕ) (sections : List PlaceBreaches) (reasons : List LineReasons) (place : ℕ) (row : Row) (one : LineReasons) (old new : Lists) (lines after : List NeverDecides)
    (has : Contains (rows_of content fs) row) (line : row.entry.line ≡ one.line) (step : IsWithLine sections row one old new lines after) where
  pub lines_more : place < length reasons → one ≡ get_or reasons place one → map line_of lines ≡ map line_in (filter never (take place reasons)) → map line_of after ≡ map line_in (filter never (take (place + 1) reasons))
  lines_more within is so_far =
      ap (map line_of) step.behind ∙ map-append line_of lines step.added ∙ ap (λ some. some ++ map line_of step.added) so_far ∙ ap (λ some. map line_in (filter never (take place reasons)) ++ some) step.told
      ∙ sym (told_more reasons place one within is)

  pub each_more : All (IsListedIn content fs sections old.lists) lines → All (IsListedIn content fs sections new.lists) after
  each_more so_far =
      subst (All (IsListedIn content fs sections new.lists)) (sym step.behind)
      (All-append (IsListedIn content fs sections new.lists) lines step.added (All-weaker (IsListedIn content fs sections old.lists) (IsListedIn content fs sections new.lists) kept lines so_far) added)
    where
      kept : (other : NeverDecides) → IsListedIn content fs sections old.lists other → IsListedIn content fs sections new.lists other
      kept other listed = record { row = listed.row; has = listed.has; line = listed.line; listed = all_more sections listed.row old.lists step.more new.lists step.are other listed.listed }

      added : All (IsListedIn content fs sections new.lists) step.added
      added k d within = record {
        row = row;
        has = has;
        line = line ∙ all_told step.added (never one) one.line step.told k d within;
        listed = step.each k d within;
      }
