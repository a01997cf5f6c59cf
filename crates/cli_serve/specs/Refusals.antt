-- What is reported of refused edits. (this project's own)
use Rattle.std.specs.Prelude.{ℕ, Bool, ◌++◌, ◌==◌, List, [], codes, if◌then◌else◌}
use Rattle.std.specs.Fmt.{decimal}
use Rattle.std.specs.List.{starts_with}

-- bytes begin as a reply to an edit that is refused for who sends it
abbrev pub is_refusal : List ℕ → Bool
is_refusal reply = starts_with (λ one other. one == other) reply (codes "HTTP/1.1 403 ")

-- the line on so many of one connection, if there are any
abbrev pub refused_line : ℕ → List ℕ
refused_line count =
    if count == 0 then [] else (if count == 1 then codes "exportdesk: 1 edit refused\n"
    else (codes "exportdesk: " ++ (decimal count ++ codes " edits refused\n")))
