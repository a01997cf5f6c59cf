-- Warnings that are ignored, since a word lists their numbers. (this project's own)
use Rattle.std.specs.Prelude.{ℕ, ◌==◌, ◌&&◌, ◌||◌, Bool, List, count_by, filter, map, not, unwrap_or}
use Rattle.std.specs.List.{list_all, list_any, slice_split}
use Rattle.desk_text.specs.Bytes.{read_decimal}
use Rattle.desk_policy.specs.Warning.{kind_number, warning_kinds}
use Rattle.desk_remarks.specs.Remark.{remark_number, remarks}
use Rattle.desk_findings.specs.Finding.{is_fault, number_of}
use Rattle.desk_findings.specs.declared.finding.Finding.{Finding}

-- the number that a piece of the word writes; 0, which no warning has, if it writes none
abbrev pub number_in : List ℕ → ℕ
number_in piece = unwrap_or (read_decimal 4294967295 piece) 0

-- the numbers that a word writes, with commas between them
abbrev pub numbers_in : List ℕ → List ℕ
numbers_in word = map number_in (slice_split (λ b. b == 44) word)

-- a kind of warning has this number
abbrev pub is_warning : ℕ → Bool
is_warning number = list_any (λ kind. kind_number kind == number) warning_kinds || list_any (λ remark. remark_number remark == number) remarks

-- how often a number stands among these
abbrev pub times : List ℕ → ℕ → ℕ
times numbers number = count_by (λ other. other == number) numbers

-- each of these is the number of a kind of warning, and stands once
abbrev pub are_warnings : List ℕ → Bool
are_warnings numbers = list_all (λ number. is_warning number && (times numbers number == 1)) numbers

-- A finding is ignored if it is a warning of one of these numbers. A fault never is.
abbrev pub is_ignored : List ℕ → Finding → Bool
is_ignored numbers finding = not (is_fault finding.matter) && list_any (λ number. number == number_of finding.matter) numbers

-- the findings that are left, in their order
abbrev pub heard : List ℕ → List Finding → List Finding
heard numbers findings = filter (λ finding. not (is_ignored numbers finding)) findings

-- how many are not
abbrev pub ignored_count : List ℕ → List Finding → ℕ
ignored_count numbers findings = count_by (is_ignored numbers) findings
