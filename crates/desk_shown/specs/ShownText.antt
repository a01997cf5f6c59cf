-- Texts as they are shown, so that none of them can write to the terminal, and each character can be seen. (this project's
-- own)
use Rattle.std.specs.Prelude.{ℕ, ◌==◌, ◌||◌, Bool, false, List, [], ◌∷◌, ◌++◌, codes, length, if◌then◌else◌}
use Rattle.std.specs.Char.{encode_utf8, is_control}
use Rattle.std.specs.Fmt.{digits}
use Rattle.std.specs.Int.{is_in_range}
use Rattle.std.specs.List.{flat_map, list_all, list_any, repeat}
use Rattle.std.specs.Str.{chars}

-- The ranges of characters that are shown as nothing, or that turn or break the line that they stand in: Unicode's
-- Default_Ignorable_Code_Point, and its two line separators. (the Unicode Standard, 23.2 and 5.21)
abbrev pub unseen_ranges : List (ℕ × ℕ)
unseen_ranges =
    (0xAD, 0xAD) ∷ (0x34F, 0x34F) ∷ (0x61C, 0x61C) ∷ (0x115F, 0x1160) ∷ (0x17B4, 0x17B5) ∷ (0x180B, 0x180F)
    ∷ (0x200B, 0x200F) ∷ (0x2028, 0x202E) ∷ (0x2060, 0x206F) ∷ (0x3164, 0x3164) ∷ (0xFE00, 0xFE0F) ∷ (0xFEFF, 0xFEFF)
    ∷ (0xFFA0, 0xFFA0) ∷ (0xFFF0, 0xFFF8) ∷ (0x1BCA0, 0x1BCA3) ∷ (0x1D173, 0x1D17A) ∷ (0xE0000, 0xE0FFF) ∷ []

abbrev pub is_unseen : ℕ → Bool
is_unseen c = list_any (λ range. is_in_range range.0 range.1 c) unseen_ranges

-- the code of a character in hexadecimal digits, as `\u{1b}` and `\u{200b}`
abbrev pub code : ℕ → List ℕ
code c = codes "\\u{" ++ digits 16 false c ++ codes "}"

-- a control character, or one that cannot be seen, is shown by its code
abbrev pub is_coded : ℕ → Bool
is_coded c = is_control c || is_unseen c

abbrev pub shown : ℕ → List ℕ
shown c = if is_coded c then code c else encode_utf8 c

-- a text
abbrev pub shown_text : List ℕ → List ℕ
shown_text text = flat_map shown (chars text)

abbrev pub is_tab : ℕ → Bool
is_tab c = c == 9

-- a line of a file, in which a tab stays a tab
abbrev pub shown_in_line : ℕ → List ℕ
shown_in_line c = if is_tab c then c ∷ [] else shown c

abbrev pub shown_line : List ℕ → List ℕ
shown_line line = flat_map shown_in_line (chars line)

-- in how many characters a character is shown
abbrev pub width : ℕ → ℕ
width c = if is_coded c then length (code c) else 1

-- what stands under a character of such a line: a tab under a tab, and else this mark under each character that is shown
abbrev pub under : ℕ → ℕ → List ℕ
under mark c = if is_tab c then c ∷ [] else repeat (width c) (mark ∷ [])

-- what stands under a text: blanks before the slice, and carets under it, at least one
abbrev pub blanks : List ℕ → List ℕ
blanks text = flat_map (under 32) (chars text)

abbrev pub carets : List ℕ → List ℕ
carets text = if list_all is_tab (chars text) then 94 ∷ [] else flat_map (under 94) (chars text)
