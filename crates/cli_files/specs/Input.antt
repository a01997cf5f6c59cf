-- The texts and lines of bytes that come from outside: of files, and of standard input. (this project's own)
use Rattle.std.specs.Prelude.{◌∷◌, [], Option, Some, None, ℕ, ◌+◌, ◌==◌, ◌||◌, nat_le, nat_lt, Bool, List, length, take, count_by, Result, Ok, Err, if◌then◌else◌}
use Rattle.std.specs.Io.BufRead.{ends_with_byte, strip_last}
use Rattle.std.specs.Io.KnownBytes.{Consumes, IsAtEnd, Keeps}
use Rattle.std.specs.List.{after_last}
use Rattle.std.specs.Str.{is_utf8}
use Rattle.std.specs.Str.Lossy.{utf8_valid_len}
use Rattle.cli_output.specs.declared.failure.TextFault.{TextFault}
use Rattle.cli_output.specs.declared.failure.TextFault.TheVariants.{TooLong, NotUtf8}

-- the most bytes of a file, and of the first line of standard input without its line end
abbrev pub longest_input : ℕ
longest_input = 16777216

-- a byte that is the first of a character in UTF-8, where the others are 0x80 to 0xBF
abbrev pub begins_character : ℕ → Bool
begins_character b = nat_lt b 128 || nat_le 192 b

-- the line, from 1, of the byte behind these
abbrev pub line_behind : List ℕ → ℕ
line_behind front = 1 + count_by (λ b. b == 10) front

-- its column, from 1: one more than the characters behind the last line end
abbrev pub column_behind : List ℕ → ℕ
column_behind front = 1 + count_by begins_character (after_last (λ b. b == 10) front)

-- the first byte that breaks UTF-8 stands behind the longest front that is UTF-8
abbrev pub not_utf8_behind : List ℕ → TextFault
not_utf8_behind front = NotUtf8 (line_behind front) (column_behind front)

-- the text of these bytes: just them, if they are at most as many as a text may have and UTF-8
abbrev pub text_of : List ℕ → Result (List ℕ) TextFault
text_of bytes =
    if nat_lt longest_input (length bytes) then Err TooLong
    else (if is_utf8 bytes then Ok bytes
    else Err (not_utf8_behind (take (utf8_valid_len bytes) bytes)))

-- a line without its line end: LF, or CR LF
abbrev pub without_line_end : List ℕ → List ℕ
without_line_end line = if ends_with_byte 10 line then strip_last 13 (strip_last 10 line) else line

-- the first line of standard input without its line end, if it is not too long
abbrev pub first_line : List ℕ → Result (List ℕ) TextFault
first_line line = if nat_lt longest_input (length (without_line_end line)) then Err TooLong else Ok (without_line_end line)

-- an input gave its next byte and has the others left, or has none
abbrev pub GivesByte : Option (List ℕ) → Option (List ℕ) → Option ℕ → Type 0
GivesByte old new (Some byte) = Consumes old new (byte ∷ [])
GivesByte old new None = Keeps old new × IsAtEnd old
