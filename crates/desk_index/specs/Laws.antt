-- What a search by keys finds, in the words of the policy. (this project's own)
use Rattle.std.specs.Prelude.{◌≡◌, ℕ, ◌<◌, ◌^◌, List, Option, IfNone, IfSome}
use Rattle.std.specs.Borrow.{Bor}
use Rattle.std.specs.Option.{option_copied}
use Rattle.desk_policy.specs.Policy.{rows_of}
use Rattle.desk_policy.specs.Weights.{selected}
use Rattle.desk_index.specs.Keys.{HasNoHostBits, HasNoMatch, IsHeaviest, lines_under, listed, numbers}
use Rattle.desk_index.specs.declared.index.Probes.{Probes}

-- What `select` finds through a `Probes` are exactly the selected lines of the policy, by their numbers; it finds nothing
-- exactly if none is selected.
abbrev pub SelectFindsTheSelectedLines : Type 0
SelectFindsTheSelectedLines =
    (probes : Probes) (fs address : ℕ) (found : Option (Bor (List ℕ))) → HasNoHostBits probes.index.now → address < 2 ^ 32
    → IfSome found (λ row. IsHeaviest (lines_under probes.index.now) fs address row.now) → IfNone found (HasNoMatch (lines_under probes.index.now) fs address)
    → option_copied found ≡ listed (numbers (selected (rows_of probes.index.now fs) address))
