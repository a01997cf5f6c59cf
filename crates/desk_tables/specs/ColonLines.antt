-- Lines of fields with colons between them. (passwd(5), group(5))
use Rattle.std.specs.Prelude.{ℕ, ◌==◌, Bool, Option, List, [], slice_index_or}
use Rattle.std.specs.List.{slice_split}
use Rattle.desk_text.specs.Bytes.{first_non_blank, read_decimal}
use Rattle.desk_text.specs.Lines.{skips}

-- the fields of a line, between its colons
abbrev pub fields : List ℕ → List (List ℕ)
fields line = slice_split (λ b. b == 58) line

-- the field at a place, from 0; a line that has no such field has the empty one there
abbrev pub field : ℕ → List ℕ → List ℕ
field place line = slice_index_or (fields line) place []

-- the number that a decimal up to 4294967295 writes; another text writes none
abbrev pub number_in : List ℕ → Option ℕ
number_in text = read_decimal 4294967295 text

-- a line is skipped if its first character that is not a blank is `#`, or if it has none
abbrev pub skips_line : List ℕ → Bool
skips_line line = skips (first_non_blank line)
