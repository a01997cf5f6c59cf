-- Paths as lists of components.
use Rattle.std.specs.Prelude.{ℕ, ◌==◌, nat_lt, Bool, true, false, not, ◌&&◌, ◌||◌, IsTrue, codes, List, [], ◌∷◌, length, slice_index, filter, Result, Ok, Err, if◌then◌else◌}
use Rattle.std.specs.List.{slice_split, list_any, list_all, join_with_byte}
use Rattle.std.specs.Cmp.Lexicographic.{pointwise}
use Rattle.std.specs.Str.{bytes_eq}
use Rattle.desk_text.specs.declared.path.PathFault.{PathFault}
use Rattle.desk_text.specs.declared.path.PathFault.TheVariants.{NotAbsolute, DotComponent, TooLong, NulByte}

-- the number of a fault
abbrev pub path_fault_number : PathFault → ℕ
path_fault_number NotAbsolute = 1
path_fault_number DotComponent = 2
path_fault_number TooLong = 3
path_fault_number NulByte = 4

-- a text that begins with a slash (of the empty text `slice_index` gives 0, which is not a slash)
abbrev pub is_absolute : List ℕ → Bool
is_absolute text = slice_index text 0 == 47

-- the components of a text: what stands between its slashes, unless it is empty
abbrev pub components : List ℕ → List (List ℕ)
components text = filter (λ part. not (length part == 0)) (slice_split (λ b. b == 47) text)

-- a path as it is printed: `/`, and the components with `/` between them
abbrev pub path_text : List (List ℕ) → List ℕ
path_text path = 47 ∷ join_with_byte 47 path

-- a part of a path that a text can write: it is not empty, and has no slash
abbrev pub is_component : List ℕ → Bool
is_component part = not (length part == 0) && list_all (λ b. not (b == 47)) part

-- the components of a path
abbrev pub IsPath : List (List ℕ) → Type 0
IsPath path = IsTrue (list_all is_component path)

-- a component that is `.` or `..`
abbrev pub is_dot_component : List ℕ → Bool
is_dot_component part = bytes_eq part (codes ".") || bytes_eq part (codes "..")

-- a path is under another whose components are a prefix of its own
abbrev pub is_under : List (List ℕ) → List (List ℕ) → Bool
is_under path [] = true
is_under [] (part ∷ above) = false
is_under (own ∷ path) (part ∷ above) = bytes_eq own part && is_under path above

-- two paths are the same if they have the same components
abbrev pub same_path : List (List ℕ) → List (List ℕ) → Bool
same_path path other = pointwise bytes_eq path other

-- two paths are printed alike; these are just the same ones (law `printed_paths_differ`)
abbrev pub are_printed_alike : List (List ℕ) → List (List ℕ) → Bool
are_printed_alike path other = bytes_eq (path_text path) (path_text other)

-- the most bytes that the text of a path may have
abbrev pub longest_path : ℕ
longest_path = 1024

-- the path that a text writes, or its first fault
abbrev pub read_path : List ℕ → Result (List (List ℕ)) PathFault
read_path text =
    if not (is_absolute text) then Err NotAbsolute
    else (if list_any is_dot_component (slice_split (λ b. b == 47) text) then Err DotComponent
    else (if nat_lt longest_path (length text) then Err TooLong
    else (if list_any (λ b. b == 0) text then Err NulByte
    else Ok (components text))))
