-- Which lines write which names. (this project's own)
use Rattle.std.specs.Prelude.{◌≡◌, ℕ, ◌==◌, ◌&&◌, Bool, List, filter, length, map}
use Rattle.std.specs.Cmp.Lexicographic.{slice_cmp}
use Rattle.std.specs.List.{dedup, flat_map, range_with_len}
use Rattle.std.specs.List.Sorted.{IsPermutation, IsSortedByKey}
use Rattle.std.specs.Ordering.{nat_cmp}
use Rattle.std.specs.Str.{bytes_eq}
use Rattle.desk_policy.specs.Policy.{Content, rows_of}
use Rattle.desk_policy.specs.Row.{names_of}
use Rattle.desk_policy.specs.declared.row.Row.{Row}
use Rattle.page_lists.specs.declared.name_index.WrittenName.{WrittenName}

-- a name, and a line of a file system that writes it
pub record WrittenValue : Type 0 where
  pub name : List ℕ
  pub fs : ℕ
  pub line : ℕ

abbrev pub written_value : WrittenName → WrittenValue
written_value one = record { name = one.name.now; fs = one.fs.0; line = one.line }

-- a name that a line writes
abbrev pub on_line : ℕ → ℕ → List ℕ → WrittenValue
on_line fs line name = record { name = name; fs = fs; line = line }

-- all names that a line writes
abbrev pub row_names : ℕ → Row → List WrittenValue
row_names fs row = map (on_line fs row.entry.line) (names_of row.entry.clients)

-- that lines of a file system write
abbrev pub filesystem_names : Content → ℕ → List WrittenValue
filesystem_names content fs = flat_map (row_names fs) (rows_of content fs)

-- that the lines of a policy write, in the order of the file systems and of the lines of each
abbrev pub written_names : Content → List WrittenValue
written_names content = flat_map (filesystem_names content) (range_with_len 0 (length content.table))

abbrev pub is_of_name : List ℕ → WrittenValue → Bool
is_of_name name one = bytes_eq name one.name

abbrev pub same_line : WrittenValue → WrittenValue → Bool
same_line one other = one.fs == other.fs && one.line == other.line

-- The lines that write a name, in order. One that writes it twice is one: they stand side by side.
abbrev pub lines_with : Content → List ℕ → List WrittenValue
lines_with content name = dedup same_line (filter (is_of_name name) (written_names content))

-- those of an index that have a name
abbrev pub name_key : WrittenName → List ℕ
name_key one = one.name.now

abbrev pub lent_with : List ℕ → List WrittenName → List WrittenName
lent_with name index = filter (λ one. bytes_eq name (name_key one)) index

-- in byte order of the names
abbrev pub AreByName : List WrittenName → Type 0
AreByName = IsSortedByKey name_key (slice_cmp nat_cmp)

-- those of each name are the same, in their order
abbrev pub KeepsNames : List WrittenName → List WrittenName → Type 0
KeepsNames old new = (name : List ℕ) → lent_with name new ≡ lent_with name old

-- Just the names that the lines of a policy write, in byte order, and those of one name in the order of the lines.
pub record IsIndexOf (content : Content) (index : List WrittenName) : Type 0 where
  pub order : AreByName index
  pub kept : (name : List ℕ) → filter (is_of_name name) (map written_value index) ≡ filter (is_of_name name) (written_names content)
  pub just : IsPermutation (written_names content) (map written_value index)
