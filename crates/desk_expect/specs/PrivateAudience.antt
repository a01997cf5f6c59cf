-- What the private contracts and the invariant of an audience cite.
use Rattle.std.specs.Prelude.{◌≡◌, ℕ, ◌+◌, ◌<◌, ◌^◌, true, false, List}
use Rattle.std.specs.List.Sorted.{IsStrictlyIncreasing}
use Rattle.desk_text.specs.AddrSet.{is_among}
use Rattle.desk_expect.specs.Audience.{AudienceValue, contains}

-- ascending addresses, at which alone it changes whether the line is about them; the first address of all is not among them
pub record AreAudienceStarts (audience : AudienceValue) (starts : List ℕ) : Type 0 where
  pub ascend : IsStrictlyIncreasing starts
  pub after_first : is_among 0 starts ≡ false
  pub small : (address : ℕ) → is_among address starts ≡ true → address < 2 ^ 32
  pub steady : (address : ℕ) → address + 1 < 2 ^ 32 → is_among (address + 1) starts ≡ false → contains audience (address + 1) ≡ contains audience address
