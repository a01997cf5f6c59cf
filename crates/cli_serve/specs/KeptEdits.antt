-- Which replies say that an edit is kept. (this project's own)
use Rattle.std.specs.Prelude.{ℕ, Bool, false, ◌==◌, List, Option, Some, None, codes, drop, position}
use Rattle.std.specs.List.{starts_with}

-- bytes have the front of the body of a reply that an edit is stored or proposed, now or before, from this place on, if there is one
abbrev pub is_kept_at : List ℕ → Option ℕ → Bool
is_kept_at reply (Some start) = starts_with (λ one other. one == other) (drop start reply) (codes "{\"already\":")
is_kept_at reply None = false

-- they have it from their first brace on
abbrev pub is_kept : List ℕ → Bool
is_kept reply = is_kept_at reply (position (λ byte. byte == 123) reply)
