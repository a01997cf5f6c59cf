-- The security flavours of the lines that grant something. (this project's own, over exports(5), `-sec`)
use Rattle.std.specs.Prelude.{ℕ, ◌-◌, ◌^◌, ◌∷◌, [], ◌==◌, not, Bool, List, Option, Some, None, count_by, filter, length, map, slice_get}
use Rattle.std.specs.Cmp.Lexicographic.{pointwise, slice_cmp}
use Rattle.std.specs.List.{dedup}
use Rattle.std.specs.List.Sorted.{IsPermutation, IsSortedByKey}
use Rattle.std.specs.Ordering.{nat_cmp}
use Rattle.desk_exports.specs.Flavours.{same_flavour}
use Rattle.desk_exports.specs.declared.entry.Flavour.{Flavour}
use Rattle.desk_exports.specs.declared.entry.Flavour.TheVariants.{Sys, Krb5, Krb5i, Krb5p}
use Rattle.page_findings.specs.Lines.{LineValue, flavours_of, grants, is_read_write}
use Rattle.page_findings.specs.declared.flavours.FlavourUse.{FlavourUse}

-- the same flavours in the same order
abbrev pub same_flavours : List Flavour → List Flavour → Bool
same_flavours = pointwise same_flavour

-- each list of flavours once, at its first place
abbrev pub each_once : List (List Flavour) → List (List Flavour)
each_once [] = []
each_once (flavours ∷ lists) = flavours ∷ filter (λ other. not (same_flavours other flavours)) (each_once lists)

-- flavours, and of the lines with just these how many there are, how many let clients write, and their file systems
pub record UseValue : Type 0 where
  pub flavours : List Flavour
  pub lines : ℕ
  pub read_write : ℕ
  pub filesystems : List ℕ

abbrev pub use_value : FlavourUse → UseValue
use_value one = record { flavours = one.flavours.now; lines = one.lines; read_write = one.read_write; filesystems = map (λ fs. fs.0) one.filesystems }

-- the same number
abbrev pub same_number : ℕ → ℕ → Bool
same_number number other = number == other

-- those of lines that have just these flavours
abbrev pub lines_with : List Flavour → List LineValue → List LineValue
lines_with flavours lines = filter (λ line. same_flavours (flavours_of line) flavours) lines

-- What is told of flavours. (Lines of one file system stand together, so each is listed once.)
abbrev pub use_of : List LineValue → List Flavour → UseValue
use_of lines flavours = record {
  flavours = flavours;
  lines = length (lines_with flavours lines);
  read_write = count_by is_read_write (lines_with flavours lines);
  filesystems = dedup same_number (map (λ line. line.fs) (lines_with flavours lines));
}

-- that of the flavours of lines, each list of them once
abbrev pub uses_among : List LineValue → List UseValue
uses_among lines = map (use_of lines) (each_once (map flavours_of lines))

-- the rank of a flavour by its word, in byte order, from 1
abbrev pub word_rank : Flavour → ℕ
word_rank Krb5 = 1
word_rank Krb5i = 2
word_rank Krb5p = 3
word_rank Sys = 4

abbrev pub rank_of : Option Flavour → ℕ
rank_of None = 0
rank_of (Some flavour) = word_rank flavour

-- that of the flavour at a place of a list, or 0 if the list is not as long
abbrev pub rank_at : List Flavour → ℕ → ℕ
rank_at flavours place = rank_of (slice_get flavours place)

-- The order of flavours: those of most lines come first, and of as many lines they are ordered flavour by flavour. There are four, and
-- a list has each at most once.
abbrev pub order_of : UseValue → List ℕ
order_of one = (2 ^ 64 - 1 - one.lines) ∷ rank_at one.flavours 0 ∷ rank_at one.flavours 1 ∷ rank_at one.flavours 2 ∷ rank_at one.flavours 3 ∷ []

-- Just the flavours of those of the lines that grant something, in this order: none comes before the one in front of it.
pub record AreFlavoursInUse (lines : List LineValue) (uses : List UseValue) : Type 0 where
  pub just : IsPermutation (uses_among (filter grants lines)) uses
  pub order : IsSortedByKey order_of (slice_cmp nat_cmp) uses
