-- Paths of files as references of URIs. (RFC 3986)
use Rattle.std.specs.Prelude.{ℕ, ◌==◌, Bool, ◌||◌, List, [], ◌∷◌, ◌++◌, bytes_eq, codes, if◌then◌else◌}
use Rattle.std.specs.Char.{is_ascii_alphanumeric}
use Rattle.std.specs.List.{flat_map, list_any, starts_with}
use Rattle.percent_encoding.specs.Percent.{percent_encode_byte}

-- a byte that stands for itself in a path: an unreserved one (section 2.3), or the slash between segments (section 3.3)
abbrev pub is_kept : ℕ → Bool
is_kept b = is_ascii_alphanumeric b || list_any (λ kept. b == kept) (codes "-._~/")

-- a byte of a path: itself, or `%` and two hexadecimal digits (section 2.1)
abbrev pub escaped : ℕ → List ℕ
escaped b = if is_kept b then b ∷ [] else percent_encode_byte b

-- what has to stand before a path: two slashes at its beginning would be followed by the name of a host (section 4.2)
abbrev pub front : List ℕ → List ℕ
front path = if starts_with (λ one other. one == other) path (codes "//") then codes "/." else []

-- a file by its path; `-` is standard input
abbrev pub uri_of : List ℕ → List ℕ
uri_of path = if bytes_eq path (codes "-") then codes "stdin" else front path ++ flat_map escaped path
