-- The directories that a line is about. (this project's own)
use Rattle.std.specs.Prelude.{ℕ, ◌-◌, ◌==◌, nat_lt, Bool, true, false, List, [], ◌∷◌, Option, Some, None, codes, length, take, drop, if◌then◌else◌}
use Rattle.std.specs.List.{list_any, slice_split}
use Rattle.std.specs.Option.{option_map}
use Rattle.std.specs.Result.{result_ok}
use Rattle.std.specs.Str.{bytes_eq}
use Rattle.desk_text.specs.Path.{read_path}
use Rattle.desk_expect.specs.declared.scope.Scope.{Scope}

-- a text ends in `/...`
abbrev pub ends_in_dots : List ℕ → Bool
ends_in_dots text = if nat_lt (length text) 4 then false else bytes_eq (drop (length text - 4) text) (codes "/...")

-- what stands before `/...` at the end of a text, if it ends so
abbrev pub before_dots : List ℕ → Option (List ℕ)
before_dots text = if ends_in_dots text then Some (take (length text - 4) text) else None

-- a component of a text is `...`
abbrev pub has_dots : List ℕ → Bool
has_dots text = list_any (λ part. bytes_eq part (codes "...")) (slice_split (λ b. b == 47) text)

-- the scope of a directory that is written so; a component `...` stands only at the end, where it means all below
abbrev pub scope_of : List ℕ → Bool → Option Scope
scope_of dir below = if has_dots dir then None else option_map (λ path. record { path = path; below = below }) (result_ok (read_path dir))

-- `/...` by itself is all of `/`
abbrev pub or_root : List ℕ → List ℕ
or_root dir = if length dir == 0 then 47 ∷ [] else dir

abbrev pub scope_by : Option (List ℕ) → List ℕ → Option Scope
scope_by (Some dir) text = scope_of (or_root dir) true
scope_by None text = scope_of text false

-- A directory, or one with `/...` after it, which means it and all below it.
abbrev pub read_scope : List ℕ → Option Scope
read_scope text = scope_by (before_dots text) text
