-- Lines as they are shown, so that nothing in them can write to the terminal. (this project's own)
use Rattle.std.specs.Prelude.{◌≡◌, ℕ, ◌==◌, ◌||◌, Bool, List, not, if◌then◌else◌}
use Rattle.std.specs.Char.{encode_utf8}
use Rattle.std.specs.List.{flat_map}
use Rattle.std.specs.Str.{chars}
use Rattle.desk_shown.specs.ShownText.{code, is_coded}

-- a tab, a line end, and each character that is shown as it is anywhere
abbrev pub is_kept : ℕ → Bool
is_kept c = c == 9 || c == 10 || not (is_coded c)

-- any other character is shown by its code
abbrev pub shown_in_lines : ℕ → List ℕ
shown_in_lines c = if is_kept c then encode_utf8 c else code c

-- whole lines
abbrev pub shown_lines : List ℕ → List ℕ
shown_lines lines = flat_map shown_in_lines (chars lines)

-- some lines that tell this are shown
pub record Shows (Tells : List ℕ → Type 0) (shown : List ℕ) : Type 0 where
  pub told : List ℕ
  pub tells : Tells told
  pub is : shown ≡ shown_lines told
