-- What the private contracts of the index cite.
use Rattle.std.specs.Prelude.{◌≡◌, List, None, Some, ℕ, String, if◌then◌else◌}
use Rattle.std.specs.BTreeMap.{BTreeMap, get_by_text}
use Rattle.std.specs.List.{position}
use Rattle.std.specs.Option.{option_or}
use Rattle.std.specs.Str.{bytes_eq}
use Rattle.desk_netgroup.specs.declared.group_line.GroupLine.{GroupLine}

module _ {Y : Type 0} where
  -- the index has the place of the first line of each name
  abbrev pub HasNames : List GroupLine → BTreeMap (String Y) ℕ → Type 0
  HasNames lines index = (name : List ℕ) → get_by_text index name ≡ position (λ line. bytes_eq name line.name) lines

  -- the new index has the place under the name, unless the old one has the name; other names are as before
  abbrev pub AddsFirst : BTreeMap (String Y) ℕ → BTreeMap (String Y) ℕ → List ℕ → ℕ → Type 0
  AddsFirst old new name place = (other : List ℕ) → get_by_text new other ≡ option_or (get_by_text old other) (if bytes_eq other name then Some place else None)
