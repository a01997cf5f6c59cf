-- The lines of hosts(5) and networks(5): words between blanks, up to a comment.
use Rattle.std.specs.Prelude.{ℕ, ◌==◌, Bool, not, List, length, filter, nat_lt}
use Rattle.std.specs.List.{before_first, slice_split}
use Rattle.desk_text.specs.Bytes.{is_blank}

-- the words of a text: what is between its blanks
abbrev pub words_of : List ℕ → List (List ℕ)
words_of text = filter (λ word. not (length word == 0)) (slice_split is_blank text)

-- the words of a line before its comment, which begins at the first `#`
abbrev pub words_before_comment : List ℕ → List (List ℕ)
words_before_comment line = words_of (before_first (λ b. b == 35) line)

-- a name of a host or a network is over 255 bytes
abbrev pub is_long_name : List ℕ → Bool
is_long_name name = nat_lt 255 (length name)
