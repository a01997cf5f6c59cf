-- What is told of lines depends on their values alone.
use Rattle.std.proofs.Common.{◌≡◌, ℕ, ◌==◌, ◌||◌, ◌++◌, ◌∙◌, Bool, false, List, [], ◌∷◌, ap, if◌then◌else◌, length, map, not, refl, sym}
use Rattle.std.specs.Prelude.{count_by, filter}
use Rattle.std.specs.List.{dedup, flat_map, list_any}
use Rattle.std.proofs.lemmas.List.{length-map}
use Rattle.page_data.specs.Reasons.{is_first, is_first_level, level_of, level_of_all}
use Rattle.page_data.specs.ReasonValues.{ReasonValue, ReasonsValue, reason_value, reasons_value}
use Rattle.page_data.specs.declared.lines.LineReasons.{LineReasons}
use Rattle.page_data.specs.declared.reasons.Level.{Level}
use Rattle.page_data.specs.declared.reasons.Level.TheVariants.{LookFirst, Check}
use Rattle.page_data.specs.declared.reasons.Reason.{Reason}
use Rattle.page_data.proofs.UniqueReasons.{by_kept, reason_kept}
use Rattle.desk_exports.specs.declared.entry.Flavour.{Flavour}
use Rattle.page_findings.specs.Deciding.{is_never, never_decides}
use Rattle.page_findings.specs.Figures.{directories_of}
use Rattle.page_findings.specs.Findings.{stands_out}
use Rattle.page_findings.specs.Flavours.{UseValue, each_once, lines_with, same_flavours, same_number, use_of, uses_among}
use Rattle.page_findings.specs.Lines.{KnownLine, LineValue, flavours_of, grants, is_read_write, known_line}
use Rattle.page_findings.specs.UniqueLaws.{AreAlike, known_reasons}
use Rattle.page_findings.proofs.Mapped.{count_mapped, filter_mapped, map_twice}

-- ---- reasons

abbrev pub is_never_by : ReasonValue → Bool
is_never_by reason = is_never (reason_kept reason)

abbrev pub never_by : List ReasonValue → Bool
never_by [] = false
never_by (reason ∷ reasons) = is_never_by reason

never_first : (reason : Reason) → is_never reason ≡ is_never_by (reason_value reason)
never_first reason = by_kept is_never (λ found other same. refl) reason

pub never_is : (reasons : List Reason) → never_decides reasons ≡ never_by (map reason_value reasons)
never_is [] = refl
never_is (reason ∷ reasons) = never_first reason

-- those that never decide, by the values of the reasons
pub never_lines : (reasons : List LineReasons)
    → map (λ one. one.line) (filter (λ one. never_decides one.reasons) reasons) ≡ map (λ (one : ReasonsValue). one.line) (filter (λ (one : ReasonsValue). never_by one.reasons) (known_reasons reasons))
never_lines reasons =
    let by_value : (λ (one : LineReasons). never_decides one.reasons) ≡ (λ (one : LineReasons). never_by (map reason_value one.reasons)) = λ i one. never_is one.reasons i in
    ap (λ test. map (λ (one : LineReasons). one.line) (filter test reasons)) by_value
    ∙ sym (map_twice reasons_value (λ (one : ReasonsValue). one.line) (filter (λ (one : LineReasons). never_by (map reason_value one.reasons)) reasons))
    ∙ ap (map (λ (one : ReasonsValue). one.line)) (filter_mapped reasons_value (λ (one : ReasonsValue). never_by one.reasons) reasons)

abbrev pub level_by : ReasonValue → Level
level_by reason = level_of (reason_kept reason)

level_is : (reason : Reason) → is_first reason ≡ is_first_level (level_by (reason_value reason))
level_is reason = by_kept is_first (λ found other same. refl) reason

abbrev pub any_first : List ReasonValue → Bool
any_first reasons = list_any (λ reason. is_first_level (level_by reason)) reasons

pub first_among : (reasons : List Reason) → list_any is_first reasons ≡ any_first (map reason_value reasons)
first_among [] = refl
first_among (reason ∷ reasons) = λ i. level_is reason i || first_among reasons i

-- the level of a line by the values of its reasons
abbrev pub level_of_known : List ReasonValue → Level
level_of_known reasons = if any_first reasons then LookFirst else Check

pub level_known : (reasons : List Reason) → level_of_all reasons ≡ level_of_known (map reason_value reasons)
level_known reasons = ap (λ (first : Bool). if first then LookFirst else Check) (first_among reasons)

-- ---- lines

-- a line without its reasons
abbrev pub plain : LineValue → LineValue
plain line = record { fs = line.fs; row = line.row; count = line.count; reasons = [] }

abbrev plain_of : KnownLine → LineValue
plain_of line = record { fs = line.fs; row = line.row; count = line.count; reasons = [] }

pub plain_alike : (lines others : List LineValue) → AreAlike lines others → map plain lines ≡ map plain others
plain_alike lines others alike = sym (map_twice known_line plain_of lines) ∙ ap (map plain_of) alike ∙ map_twice known_line plain_of others

-- a count of lines by a test that does not look at reasons
pub counted_alike : (test : LineValue → Bool) (lines others : List LineValue) → ((line : LineValue) → test (plain line) ≡ test line) → AreAlike lines others
    → count_by test lines ≡ count_by test others
counted_alike test lines others keeps alike =
    let tests : (λ line. test (plain line)) ≡ test = λ i line. keeps line i in
    ap (λ t. count_by t lines) (sym tests) ∙ count_mapped plain test lines ∙ ap (count_by test) (plain_alike lines others alike)
    ∙ sym (count_mapped plain test others) ∙ ap (λ t. count_by t others) tests

pub as_many_alike : (lines others : List LineValue) → AreAlike lines others → length lines ≡ length others
as_many_alike lines others alike = sym (length-map lines known_line) ∙ ap length alike ∙ length-map others known_line

directories_plain : (lines : List LineValue) → flat_map directories_of (map plain lines) ≡ flat_map directories_of lines
directories_plain [] = refl
directories_plain (line ∷ lines) = ap (λ more. directories_of line ++ more) (directories_plain lines)

pub directories_alike : (lines others : List LineValue) → AreAlike lines others → flat_map directories_of lines ≡ flat_map directories_of others
directories_alike lines others alike = sym (directories_plain lines) ∙ ap (flat_map directories_of) (plain_alike lines others alike) ∙ directories_plain others

-- ---- flavours

with_plain : (flavours : List Flavour) (lines : List LineValue) → lines_with flavours (map plain lines) ≡ map plain (lines_with flavours lines)
with_plain flavours lines = sym (filter_mapped plain (λ line. same_flavours (flavours_of line) flavours) lines)

use_plain : (lines : List LineValue) (flavours : List Flavour) → use_of (map plain lines) flavours ≡ use_of lines flavours
use_plain lines flavours =
    let own = lines_with flavours lines in
    ap (λ (some : List LineValue). record { flavours = flavours; lines = length some; read_write = count_by is_read_write some; filesystems = dedup same_number (map (λ line. line.fs) some) })
    (with_plain flavours lines)
    ∙ ap (λ n. record { flavours = flavours; lines = n; read_write = count_by is_read_write (map plain own); filesystems = dedup same_number (map (λ line. line.fs) (map plain own)) })
    (length-map own plain)
    ∙ ap (λ n. record { flavours = flavours; lines = length own; read_write = n; filesystems = dedup same_number (map (λ line. line.fs) (map plain own)) })
    (sym (count_mapped plain is_read_write own))
    ∙ ap (λ (systems : List ℕ). record { flavours = flavours; lines = length own; read_write = count_by is_read_write own; filesystems = dedup same_number systems })
    (map_twice plain (λ line. line.fs) own)

uses_plain : (lines : List LineValue) → uses_among (map plain lines) ≡ uses_among lines
uses_plain lines =
    ap (λ (lists : List (List Flavour)). map (use_of (map plain lines)) (each_once lists)) (map_twice plain flavours_of lines)
    ∙ ap (λ (told : List Flavour → UseValue). map told (each_once (map flavours_of lines))) (λ i flavours. use_plain lines flavours i)

pub uses_alike : (lines others : List LineValue) → AreAlike lines others → uses_among (filter grants lines) ≡ uses_among (filter grants others)
uses_alike lines others alike =
    sym (uses_plain (filter grants lines)) ∙ ap uses_among (filter_mapped plain grants lines)
    ∙ ap (λ some. uses_among (filter grants some)) (plain_alike lines others alike)
    ∙ sym (ap uses_among (filter_mapped plain grants others)) ∙ uses_plain (filter grants others)

-- ---- the lines that stand out

abbrev pub stands_by : KnownLine → Bool
stands_by line = not (length line.reasons == 0)

stands_is : stands_out ≡ (λ (line : LineValue). stands_by (known_line line))
stands_is = λ i line. not (sym (length-map line.reasons reason_value) i == 0)

pub known_standing : (lines : List LineValue) → map known_line (filter stands_out lines) ≡ filter stands_by (map known_line lines)
known_standing lines = ap (λ test. map known_line (filter test lines)) stands_is ∙ filter_mapped known_line stands_by lines
