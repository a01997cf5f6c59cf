-- What the private contracts of the filter before a list of keys cite.
use Rattle.std.specs.Prelude.{◌≡◌, ℕ, ◌+◌, ◌-◌, ◌*◌, ◌/◌, ◌%◌, ◌^◌, List, IfSome, bit_and, bit_or, length, slice_get}

-- the place of a key's word among so many, and its three bits there
unfoldable pub mark_of : ℕ → ℕ → ℕ × ℕ
mark_of key count =
    let spread = key * 11400714819323198485 % 2 ^ 64 in
    (bit_and (spread / 2 ^ 32) ((count + (2 ^ 64 - 1)) % 2 ^ 64), bit_or (bit_or (2 ^ (spread / 2 ^ 58)) (2 ^ bit_and (spread / 2 ^ 52) 63)) (2 ^ bit_and (spread / 2 ^ 46) 63))

-- a key passes if its bits are set in its word
abbrev pub Passes : List ℕ → ℕ → Type 0
Passes words key = let mark = mark_of key (length words) in IfSome (slice_get words mark.0) (λ word. bit_and word mark.1 ≡ mark.1)
