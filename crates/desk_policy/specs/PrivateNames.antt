-- What the private contracts of the steps to the addresses of names cite.
use Rattle.std.specs.Prelude.{◌≡◌, ℕ, ◌||◌, Bool, List, map}
use Rattle.desk_text.specs.Address.{number_of}
use Rattle.desk_text.specs.AddrSet.{is_among}
use Rattle.desk_text.specs.declared.address.Addr.{Addr}

-- the new addresses are the old ones and those that pass
abbrev pub Gains : List Addr → List Addr → (ℕ → Bool) → Type 0
Gains old new passes = (address : ℕ) → is_among address (map number_of new) ≡ (is_among address (map number_of old) || passes address)
