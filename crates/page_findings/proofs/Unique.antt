-- What is found of the lines of a site is found in one way, by value.
use Rattle.std.proofs.Common.{◌≡◌, ℕ, zero, suc, ◌+◌, ◌-◌, ◌^◌, ◌<◌, ◌≤◌, ◌==◌, ◌∙◌, not, List, [], ◌∷◌, ap, arith, get_or, if◌then◌else◌, length, map, nat_cmp, refl, subst, sym, IsPermutation, IsSortedByKey}
use Rattle.std.specs.Prelude.{All, Contains, filter}
use Rattle.std.specs.Cmp.Lexicographic.{slice_cmp}
use Rattle.std.specs.List.{flat_map, range_with_len}
use Rattle.std.proofs.lemmas.List.{ext_get_or, get_or-map, length-map}
use Rattle.std.proofs.lemmas.List.Elements.{All-append, All-cons, All-contains, All-filter, All-head, All-map, All-nil, All-tail}
use Rattle.std.proofs.lemmas.List.Sorted.{IsPermutation-map}
use Rattle.desk_exports.specs.declared.entry.Flavour.{Flavour}
use Rattle.desk_exports.specs.declared.entry.Flavour.TheVariants.{Sys, Krb5, Krb5i, Krb5p}
use Rattle.desk_impact.specs.Places.{AreInOrder}
use Rattle.desk_policy.specs.Policy.{AreAscending, Content, rows_of}
use Rattle.desk_policy.specs.declared.row.Row.{Row}
use Rattle.page_data.specs.Grants.{GrantsTo, HoldsOf}
use Rattle.page_data.specs.Laws.{IsSound, IsSoundSite}
use Rattle.page_data.specs.Lines.{IsToldOf}
use Rattle.page_data.specs.ReasonValues.{ReasonsValue, reason_value}
use Rattle.page_data.specs.Unique.{WhatIsFoundIsUnique}
use Rattle.page_data.specs.declared.lines.LineReasons.{LineReasons}
use Rattle.page_data.specs.declared.reasons.Level.TheVariants.{LookFirst, Check}
use Rattle.page_data.proofs.Selecting.{one_by_number}
use Rattle.page_html.proofs.OneOrder.{one_order}
use Rattle.page_findings.specs.Deciding.{AreDecidedFor, AreDeciding, DecidedFor, DecidesFor, IsDecidedFor}
use Rattle.page_findings.specs.Figures.{HasDirectories, directories_of}
use Rattle.page_findings.specs.Findings as by_level
use Rattle.page_findings.specs.Findings.{AreFindings, level_rank, stands_out}
use Rattle.page_findings.specs.Flavours.{AreFlavoursInUse, UseValue, each_once, order_of, rank_at, same_flavours, use_of, uses_among, word_rank}
use Rattle.page_findings.specs.Lines.{AreLinesOfSite, AreReasonsOfSite, IsLineOf, KnownLine, LineValue, PlacedRow, flavours_of, grants, known_line, placed, placed_in, rows_in}
use Rattle.page_findings.specs.UniqueLaws.{AllHaveLikeReasons, AreAlike, HasFewFlavours, LinesAreToldInOneWay, known_reasons}
use Rattle.page_findings.proofs.Alike.{directories_alike, first_among, known_standing, level_of_known, never_by, never_lines, stands_by, uses_alike}
use Rattle.page_findings.proofs.Mapped.{sorted_mapped}
use Rattle.page_findings.proofs.OneSorting.{one_sorting, same_values}

unmapped : {X : Type 0} (xs : List X) → map (λ x. x) xs ≡ xs
unmapped [] = refl
unmapped (x ∷ xs) = ap (λ ys. x ∷ ys) (unmapped xs)

-- ---- the lines that decide in place of one that never does

one_list_of_deciding : (content : Content) (fs : ℕ) (row : Row) (lines others : List ℕ) → AreDeciding content fs row lines → AreDeciding content fs row others → lines ≡ others
one_list_of_deciding content fs row lines others are its =
    one_order (λ (line later : ℕ). line < later) (λ line less. omega arith) (λ line other less more. omega arith) lines others are.order its.order
    (λ line has. its.all line (All-contains (DecidesFor content fs row) lines line are.only has))
    (λ line has. are.all line (All-contains (DecidesFor content fs row) others line its.only has))

same_decided : (content : Content) (fs : ℕ) → AreAscending (rows_of content fs) → (one other : DecidedFor) → one.line ≡ other.line → IsDecidedFor content fs one → IsDecidedFor content fs other → one ≡ other
same_decided content fs ascending one other same is its =
    let row : is.row ≡ its.row = one_by_number (rows_of content fs) ascending is.row its.row is.has its.has (is.line ∙ same ∙ sym its.line) in
    let deciding = one_list_of_deciding content fs is.row one.deciding other.deciding is.deciding (subst (λ (r : Row). AreDeciding content fs r other.deciding) (sym row) its.deciding) in
    ap (λ (line : ℕ). record { line = line; deciding = one.deciding }) same ∙ ap (λ (lines : List ℕ). record { line = other.line; deciding = lines }) deciding

one_list_of_decided : (content : Content) (fs : ℕ) (reasons others : List LineReasons) (found other_found : List DecidedFor) → IsSound content fs
    → known_reasons reasons ≡ known_reasons others → AreDecidedFor content fs reasons found → AreDecidedFor content fs others other_found → found ≡ other_found
one_list_of_decided content fs reasons others found other_found sound alike are its =
    let lines = are.lines ∙ never_lines reasons ∙ ap (λ known. map (λ (one : ReasonsValue). one.line) (filter (λ (one : ReasonsValue). never_by one.reasons) known)) alike ∙ sym (never_lines others) ∙ sym its.lines in
    sym (unmapped found)
    ∙ same_values (λ (one : DecidedFor). one.line) (λ (one : DecidedFor). one) (IsDecidedFor content fs) (same_decided content fs sound.ascending) found other_found lines are.each its.each
    ∙ unmapped other_found

-- ---- flavours

from_rank : ℕ → Flavour
from_rank n = if n == 1 then Krb5 else (if n == 2 then Krb5i else (if n == 3 then Krb5p else Sys))

by_rank : (flavour : Flavour) → from_rank (word_rank flavour) ≡ flavour
unfolding from_rank
by_rank Krb5 = refl
by_rank Krb5i = refl
by_rank Krb5p = refl
by_rank Sys = refl

some_rank : (flavour : Flavour) → 0 < word_rank flavour
some_rank Krb5 = omega arith
some_rank Krb5i = omega arith
some_rank Krb5p = omega arith
some_rank Sys = omega arith

same_ranks : (n : ℕ) (flavours others : List Flavour) → length flavours ≤ n → length others ≤ n → ((place : ℕ) → place < n → rank_at flavours place ≡ rank_at others place) → flavours ≡ others
same_ranks n [] [] short short' same = refl
same_ranks n [] (other ∷ others) short short' same = absurd (let ranks : 0 ≡ word_rank other = same 0 (omega arith) in let more = some_rank other in omega arith)
same_ranks n (flavour ∷ flavours) [] short short' same = absurd (let ranks : word_rank flavour ≡ 0 = same 0 (omega arith) in let more = some_rank flavour in omega arith)
same_ranks zero (flavour ∷ flavours) (other ∷ others) short short' same = absurd (omega arith)
same_ranks (suc n) (flavour ∷ flavours) (other ∷ others) short short' same =
    let ranks : word_rank flavour ≡ word_rank other = same 0 (omega arith) in
    let first : flavour ≡ other = sym (by_rank flavour) ∙ ap from_rank ranks ∙ by_rank other in
    ap (λ f. f ∷ flavours) first ∙ ap (λ fs. other ∷ fs) (same_ranks n flavours others (omega arith) (omega arith) (λ place less. same (suc place) (omega arith)))

all_once : (P : List Flavour → Type 0) (lists : List (List Flavour)) → All P lists → All P (each_once lists)
all_once P [] all = All-nil P
all_once P (flavours ∷ lists) all =
    All-cons P flavours (filter (λ other. not (same_flavours other flavours)) (each_once lists)) (All-head P flavours lists all)
    (All-filter (λ other. not (same_flavours other flavours)) P (each_once lists) (all_once P lists (All-tail P flavours lists all)))

-- a use is told by its flavours, which are few
abbrev IsUseOf : List LineValue → UseValue → Type 0
IsUseOf lines one = (one ≡ use_of lines one.flavours) × (length one.flavours ≤ 4)

uses_told : (lines : List LineValue) → All HasFewFlavours lines → All (IsUseOf lines) (uses_among lines)
uses_told lines few =
    All-map (IsUseOf lines) (use_of lines) (each_once (map flavours_of lines))
    (λ k d inside. (refl, all_once (λ (flavours : List Flavour). length flavours ≤ 4) (map flavours_of lines) (All-map (λ (flavours : List Flavour). length flavours ≤ 4) flavours_of lines few) k d inside))

same_use : (lines : List LineValue) (one other : UseValue) → order_of one ≡ order_of other → IsUseOf lines one → IsUseOf lines other → one ≡ other
same_use lines one other same is its =
    let ranks : (place : ℕ) → place < 4 → rank_at one.flavours place ≡ rank_at other.flavours place = at in
    is.0 ∙ ap (use_of lines) (same_ranks 4 one.flavours other.flavours is.1 its.1 ranks) ∙ sym its.0
  where
    at : (place : ℕ) → place < 4 → rank_at one.flavours place ≡ rank_at other.flavours place
    at zero less = ap (λ (key : List ℕ). get_or key 1 0) same
    at (suc zero) less = ap (λ (key : List ℕ). get_or key 2 0) same
    at (suc (suc zero)) less = ap (λ (key : List ℕ). get_or key 3 0) same
    at (suc (suc (suc zero))) less = ap (λ (key : List ℕ). get_or key 4 0) same
    at (suc (suc (suc (suc place)))) less = absurd (omega arith)

one_list_of_flavours : (lines others : List LineValue) (uses other_uses : List UseValue) → AreAlike lines others → All HasFewFlavours lines
    → AreFlavoursInUse lines uses → AreFlavoursInUse others other_uses → uses ≡ other_uses
one_list_of_flavours lines others uses other_uses alike few are its =
    let granting = filter grants lines in
    let given = uses_among granting in
    let told = uses_told granting (All-filter grants HasFewFlavours lines few) in
    one_sorting order_of given uses other_uses are.just are.order
    (subst (λ (some : List UseValue). IsPermutation some other_uses) (sym (uses_alike lines others alike)) its.just) its.order
    (λ one other has has' same. same_use granting one other same (All-contains (IsUseOf granting) given one told has) (All-contains (IsUseOf granting) given other told has'))

-- ---- the values by which lines that stand out are ordered

abbrev order_by : KnownLine → List ℕ
order_by line = level_rank (level_of_known line.reasons) ∷ (2 ^ 64 - 1 - line.count) ∷ line.fs ∷ line.row.entry.line ∷ []

order_is : by_level.order_of ≡ (λ (line : LineValue). order_by (known_line line))
order_is = λ i line. level_rank (if first_among line.reasons i then LookFirst else Check) ∷ (2 ^ 64 - 1 - line.count) ∷ line.fs ∷ line.row.entry.line ∷ []

-- ---- lines

in_range : (content : Content) (first count most : ℕ) → first + count ≤ most → All (λ (line : PlacedRow). line.fs < most) (flat_map (rows_in content) (range_with_len first count))
in_range content first zero most within = All-nil (λ (line : PlacedRow). line.fs < most)
in_range content first (suc count) most within =
    let less : first < most = omega arith in
    All-append (λ (line : PlacedRow). line.fs < most) (rows_in content first) (flat_map (rows_in content) (range_with_len (first + 1) count))
    (All-map (λ (line : PlacedRow). line.fs < most) (placed_in first) (rows_of content first) (λ k d inside. less))
    (in_range content (first + 1) count most (omega arith))

from_map : {X Y : Type 0} (f : X → Y) (P : Y → Type 0) (xs : List X) → All P (map f xs) → All (λ x. P (f x)) xs
from_map f P xs all = λ k d inside. subst P (get_or-map f xs k d (f d) inside) (all k (f d) (omega (arith, length-map xs f)))

-- what is told of a line, which is one of a listed file system
abbrev IsToldIn : Content → LineValue → Type 0
IsToldIn content line = IsLineOf content line × (line.fs < length content.table)

all_told : (content : Content) (lines : List LineValue) → AreLinesOfSite content lines → All (IsToldIn content) lines
all_told content lines are =
    let count = length content.table in
    let within = from_map placed (λ (line : PlacedRow). line.fs < count) lines (subst (All (λ (line : PlacedRow). line.fs < count)) (sym are.rows) (in_range content 0 count count (omega arith))) in
    λ k d inside. (are.each k d inside, within k d inside)

-- a line by value, and one of which it is the value
record IsKnown (content : Content) (known : KnownLine) : Type 0 where
  line : LineValue
  value : known_line line ≡ known
  told : IsToldIn content line

module _ (unique : WhatIsFoundIsUnique) (content : Content) (sound : IsSoundSite content) where
  same_line : (line other : LineValue) → placed line ≡ placed other → IsToldIn content line → IsToldIn content other → known_line line ≡ known_line other
  same_line line other same is its =
      let count : line.count ≡ other.count =
      unique.grants.count content line.fs line.row.entry.line line.count other.count is.0.count
      (subst (λ (p : PlacedRow). HoldsOf (GrantsTo content p.fs p.row.entry.line) other.count) (sym same) its.0.count) in
      let own : LineReasons = record { line = line.row.entry.line; reasons = line.reasons } in
      let those : LineReasons = record { line = line.row.entry.line; reasons = other.reasons } in
      let told = unique.reasons.told content line.fs own those (sound.each line.fs is.1) refl is.0.reasons
      (subst (λ (p : PlacedRow). IsToldOf content p.fs (record { line = p.row.entry.line; reasons = other.reasons })) (sym same) its.0.reasons) in
      ap (λ (p : PlacedRow). record { fs = p.fs; row = p.row; count = line.count; reasons = map reason_value line.reasons }) same
      ∙ ap (λ (n : ℕ). record { fs = other.fs; row = other.row; count = n; reasons = map reason_value line.reasons }) count
      ∙ ap (λ (one : ReasonsValue). record { fs = other.fs; row = other.row; count = other.count; reasons = one.reasons }) told

  one_list_of_lines : (lines others : List LineValue) → AreLinesOfSite content lines → AreLinesOfSite content others → AreAlike lines others
  one_list_of_lines lines others are its =
      same_values placed known_line (IsToldIn content) same_line lines others (are.rows ∙ sym its.rows) (all_told content lines are) (all_told content others its)

  all_known : (lines : List LineValue) → AreLinesOfSite content lines → All (IsKnown content) (map known_line (filter stands_out lines))
  all_known lines are =
      All-map (IsKnown content) known_line (filter stands_out lines)
      (λ k d inside. record {
        line = get_or (filter stands_out lines) k d;
        value = refl;
        told = All-filter stands_out (IsToldIn content) lines (all_told content lines are) k d inside;
      })

  told_apart : (known other : KnownLine) → order_by known ≡ order_by other → IsKnown content known → IsKnown content other → known ≡ other
  told_apart known other same is its =
      let line = is.line in
      let that = its.line in
      let fs : line.fs ≡ that.fs = ap (λ (k : KnownLine). k.fs) is.value ∙ ap (λ (key : List ℕ). get_or key 2 0) same ∙ sym (ap (λ (k : KnownLine). k.fs) its.value) in
      let number : line.row.entry.line ≡ that.row.entry.line =
      ap (λ (k : KnownLine). k.row.entry.line) is.value ∙ ap (λ (key : List ℕ). get_or key 3 0) same ∙ sym (ap (λ (k : KnownLine). k.row.entry.line) its.value) in
      let row : line.row ≡ that.row =
      one_by_number (rows_of content line.fs) (sound.each line.fs is.told.1).ascending line.row that.row is.told.0.has
      (subst (λ (n : ℕ). Contains (rows_of content n) that.row) (sym fs) its.told.0.has) number in
      let at : placed line ≡ placed that = ap (λ (n : ℕ). record { fs = n; row = line.row }) fs ∙ ap (λ (r : Row). record { fs = that.fs; row = r }) row in
      sym is.value ∙ same_line line that at is.told its.told ∙ its.value

  one_list_of_findings : (lines others found other_found : List LineValue) → AreLinesOfSite content lines → AreLinesOfSite content others
      → AreFindings lines found → AreFindings others other_found → AreAlike found other_found
  one_list_of_findings lines others found other_found lines_are others_are are its =
      let given = map known_line (filter stands_out lines) in
      let known = all_known lines lines_are in
      let same_given : given ≡ map known_line (filter stands_out others) =
      known_standing lines ∙ ap (filter stands_by) (one_list_of_lines lines others lines_are others_are) ∙ sym (known_standing others) in
      one_sorting order_by given (map known_line found) (map known_line other_found)
      (IsPermutation-map known_line (filter stands_out lines) found are.just)
      (sorted_mapped known_line order_by (slice_cmp nat_cmp) found (subst (λ (key : LineValue → List ℕ). IsSortedByKey key (slice_cmp nat_cmp) found) order_is are.order))
      (subst (λ (some : List KnownLine). IsPermutation some (map known_line other_found)) (sym same_given) (IsPermutation-map known_line (filter stands_out others) other_found its.just))
      (sorted_mapped known_line order_by (slice_cmp nat_cmp) other_found (subst (λ (key : LineValue → List ℕ). IsSortedByKey key (slice_cmp nat_cmp) other_found) order_is its.order))
      (λ one other has has' same. told_apart one other same (All-contains (IsKnown content) given one known has) (All-contains (IsKnown content) given other known has'))

  one_list_of_reasons : (reasons others : List (List LineReasons)) → AreReasonsOfSite content reasons → AreReasonsOfSite content others → AllHaveLikeReasons reasons others
  one_list_of_reasons reasons others are its =
      ext_get_or [] (map known_reasons reasons) (map known_reasons others)
      (length-map reasons known_reasons ∙ are.count ∙ sym its.count ∙ sym (length-map others known_reasons))
      (λ fs inside.
      let many = length-map reasons known_reasons in
      let own = are.count in
      let others_many = its.count in
      let within : fs < length content.table = omega arith in
      get_or-map known_reasons reasons fs [] [] (omega arith)
      ∙ unique.reasons.lines content fs (get_or reasons fs []) (get_or others fs []) (sound.each fs within) (are.each fs within) (its.each fs within)
      ∙ sym (get_or-map known_reasons others fs [] [] (omega arith)))

one_count_of_directories : WhatIsFoundIsUnique → (lines others : List LineValue) (count other : ℕ) → AreAlike lines others → HasDirectories lines count → HasDirectories others other → count ≡ other
one_count_of_directories unique lines others count other alike are its =
    let given = flat_map directories_of lines in
    let same = unique.places.order given are.directories its.directories are.are
    (subst (λ (some : List (List (List ℕ))). AreInOrder some its.directories) (sym (directories_alike lines others alike)) its.are) in
    are.many ∙ ap length same ∙ sym its.many

pub lines_are_told_in_one_way : WhatIsFoundIsUnique → LinesAreToldInOneWay
lines_are_told_in_one_way unique = record {
  reasons = λ content reasons others sound are its. one_list_of_reasons unique content sound reasons others are its;
  decided = one_list_of_decided;
  lines = λ content lines others sound are its. one_list_of_lines unique content sound lines others are its;
  findings = λ content lines others found other_found sound lines_are others_are are its. one_list_of_findings unique content sound lines others found other_found lines_are others_are are its;
  directories = one_count_of_directories unique;
  flavours = one_list_of_flavours;
}
