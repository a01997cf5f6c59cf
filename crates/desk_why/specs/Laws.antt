-- What the lines that match a client say of a mount. (this project's own)
use Rattle.std.specs.Prelude.{◌≡◌, ℕ, ◌&&◌, ◌≤◌, Bool, All, List, [], ◌∷◌, Option, Some, None, IfSome, IsSome, Result, Err, filter, find}
use Rattle.std.specs.List.{AllByRecursion}
use Rattle.desk_tables.specs.FileSystems.{fs_of}
use Rattle.desk_tables.specs.declared.filesystems.FsId.{FsId}
use Rattle.desk_policy.specs.Keys.{HasBlock}
use Rattle.desk_policy.specs.Policy.{Content, rows_of}
use Rattle.desk_policy.specs.Verdict.{Grant, granted_by, lists, verdict_of}
use Rattle.desk_policy.specs.Weights.{selected, weight_of}
use Rattle.desk_policy.specs.declared.row.Row.{Row}
use Rattle.desk_policy.specs.declared.verdict.Denial.{Denial}
use Rattle.desk_policy.specs.declared.verdict.Denial.TheVariants.{NoLine}
use Rattle.desk_why.specs.Matches.{first_weight, is_as_heavy, matching, weighs}

-- a line is as heavy as the first of these
abbrev pub is_heaviest : List Row → ℕ → Row → Bool
is_heaviest rows address row = is_as_heavy (first_weight rows address) (weight_of row address)

-- What lines that match say, heaviest first: of those that are as heavy as the first, the first that lists the path grants; if none
-- does, the first of all is named; and if no line matches, none is.
abbrev pub said : FsId → ℕ → (Row → Bool) → List Row → Result Grant Denial
said fs address listing [] = Err (NoLine fs)
said fs address listing (first ∷ others) = granted_by fs first (find (λ row. is_heaviest (first ∷ others) address row && listing row) (first ∷ others))

-- The verdict on a path is what the lines that match say.
abbrev pub VerdictsAreWhatLinesSay : Type 0
VerdictsAreWhatLinesSay =
    (content : Content) (fs address : ℕ) (path : List (List ℕ)) → fs_of content.table path ≡ Some fs → All (λ row. HasBlock row.entry.clients) (rows_of content fs)
    → verdict_of content address path ≡ said (record { 0 = fs }) address (lists content fs path) (matching (rows_of content fs) address)

-- Those of them that are as heavy as the first are the selected lines, in their order.
abbrev pub HeaviestAreSelected : Type 0
HeaviestAreSelected =
    (rows : List Row) (address : ℕ) → All (λ row. HasBlock row.entry.clients) rows
    → filter (is_heaviest (matching rows address) address) (matching rows address) ≡ selected rows address

-- a weight that is not greater; a line that does not match has none
abbrev pub IsNotHeavier : Option ℕ → Option ℕ → Type 0
IsNotHeavier earlier None = ⊥
IsNotHeavier earlier (Some weight) = IfSome earlier (λ other. weight ≤ other)

-- no line is heavier than one before it
abbrev pub NoneIsHeavier : ℕ → List Row → Type 0
NoneIsHeavier address [] = Unit {0}
NoneIsHeavier address (row ∷ others) = AllByRecursion (λ later. IsNotHeavier (weight_of row address) (weight_of later address)) others × NoneIsHeavier address others

-- They match. Of each weight they are just the lines that match with it, in their order, and none is heavier than one before it.
pub record AreByWeight (rows : List Row) (address : ℕ) (found : List Row) : Type 0 where
  pub match : AllByRecursion (λ row. IsSome (weight_of row address)) found
  pub each : (weight : ℕ) → filter (weighs address weight) found ≡ filter (weighs address weight) rows
  pub order : NoneIsHeavier address found

-- The lines that match an address are these.
abbrev pub MatchingLinesAreByWeight : Type 0
MatchingLinesAreByWeight =
    (rows : List Row) (address : ℕ) → All (λ row. HasBlock row.entry.clients) rows → AreByWeight rows address (matching rows address)
