-- What is found of each address for a path, by the lines of the path's file system. (this project's own)
use Rattle.std.specs.Prelude.{◌≡◌, ◌⊎◌, ℕ, ◌+◌, ◌<◌, ◌^◌, Bool, false, List, Option, None, Some}
use Rattle.std.specs.List.{AllByRecursion}
use Rattle.std.specs.Option.{option_map}
use Rattle.desk_text.specs.Address.{number_of}
use Rattle.desk_text.specs.AddrSet.{is_among}
use Rattle.desk_text.specs.declared.address.Addr.{Addr}
use Rattle.desk_tables.specs.FileSystems.{fs_of}
use Rattle.desk_tables.specs.declared.filesystems.FsId.{FsId}
use Rattle.desk_policy.specs.Policy.{Content, rows_of}
use Rattle.desk_policy.specs.Verdict.{lists}
use Rattle.desk_policy.specs.Weights.{weight_of}
use Rattle.desk_policy.specs.declared.row.Row.{Row}
use Rattle.desk_who.specs.Runs.{AreStartsOf}

-- What is found of an address: where there is no file system; and among the lines of one, by which of them lists the path.
pub record Rule (A : Type 0) : Type 0 where
  pub nowhere : ℕ → A
  pub among : FsId → (Row → Bool) → List Row → ℕ → A

-- what is found of an address for a path of this file system
abbrev pub found_in : {A : Type 0} → Rule A → Content → List (List ℕ) → Option ℕ → ℕ → A
found_in rule content path None address = rule.nowhere address
found_in rule content path (Some fs) address = rule.among (record { 0 = fs }) (lists content fs path) (rows_of content fs) address

-- what is found of an address for a path
abbrev pub found_at : {A : Type 0} → Rule A → Content → List (List ℕ) → ℕ → A
found_at rule content path address = found_in rule content path (fs_of content.table path) address

-- ascending addresses, at which alone something else is found, but where a line begins or ceases to match
pub record AreRuleStarts {A : Type 0} (rule : Rule A) (starts : List ℕ) : Type 0 where
  pub nowhere : AreStartsOf rule.nowhere starts
  pub among : (fs : FsId) (listing : Row → Bool) (rows : List Row) (address : ℕ) → address + 1 < 2 ^ 32 → is_among (address + 1) starts ≡ false
      → AllByRecursion (λ row. weight_of row (address + 1) ≡ weight_of row address) rows → rule.among fs listing rows (address + 1) ≡ rule.among fs listing rows address

-- Of lines that do not match an address it makes no difference whether they list the path.
abbrev pub AsksThoseThatMatch : {A : Type 0} → Rule A → Type 0
AsksThoseThatMatch rule =
    (fs : FsId) (listing other : Row → Bool) (rows : List Row) (address : ℕ) → AllByRecursion (λ row. (weight_of row address ≡ None) ⊎ (listing row ≡ other row)) rows
    → rule.among fs listing rows address ≡ rule.among fs other rows address

-- Nothing is found at an address, for whichever path; nor at the one before it, unless something else may be found from there on.
pub record IsSilent {T : Type 0} (found : Addr → List (List ℕ) → Option T → Type 0) (turns : List ℕ) (address : ℕ) : Type 0 where
  pub here : (own : Addr) (path : List (List ℕ)) → number_of own ≡ address → found own path None
  pub before : is_among address turns ≡ false → (own : Addr) (path : List (List ℕ)) → number_of own + 1 ≡ address → found own path None

-- A rule says what a search finds: at each address of each path in a policy, given the addresses at which something else may be
-- found though no line begins or ceases to match.
pub record IsRuleOf {T A : Type 0} (meaning : T → A) (found : Addr → List (List ℕ) → Option T → Type 0) (content : Content) (turns : List ℕ) (rule : Rule (Option A)) : Type 0 where
  pub finds : (address : Addr) (path : List (List ℕ)) (value : Option T) → found address path value → option_map meaning value ≡ found_at rule content path (number_of address)
  pub starts : AreRuleStarts rule turns
  pub asks : AsksThoseThatMatch rule

-- so it is by whichever rule says what a search finds
abbrev pub ByRule : {T A : Type 0} → (T → A) → (Addr → List (List ℕ) → Option T → Type 0) → Content → List ℕ → (Rule (Option A) → Type 0) → Type 0
ByRule {T} {A} meaning found content turns Says = (rule : Rule (Option A)) → IsRuleOf meaning found content turns rule → Says rule

-- ascending addresses, at which alone something else is found for a path, and for each other path of its file system
abbrev pub AreFoundStarts : {A : Type 0} → Rule A → Content → List (List ℕ) → List ℕ → Type 0
AreFoundStarts rule content path starts =
    (other : List (List ℕ)) → fs_of content.table other ≡ fs_of content.table path → AreStartsOf (found_at rule content other) starts
