-- What another policy would change for the clients of a path. (this project's own)
use Rattle.std.specs.Prelude.{◌≡◌, ◌≢◌, ◌⊎◌, ℕ, ◌+◌, ◌<◌, ◌^◌, Bool, false, filter, find, slice_get, List, [], Option, Some, None, Result, Ok, Err}
use Rattle.std.specs.Bool.{Decides}
use Rattle.std.specs.Option.{option_map}
use Rattle.desk_text.specs.AddrSet.{is_among}
use Rattle.desk_tables.specs.FileSystems.{fs_of}
use Rattle.desk_exports.specs.declared.entry.Terms.{Terms}
use Rattle.desk_policy.specs.Policy.{Content}
use Rattle.desk_policy.specs.Verdict.{Grant, verdict_of, verdict_result}
use Rattle.desk_policy.specs.declared.verdict.Denial.{Denial}
use Rattle.desk_policy.specs.declared.verdict.Denial.TheVariants.{NoFileSystem, NoLine, NotListed}
use Rattle.desk_who.specs.Runs.{AreRuns, AreStartsOf, Run, holds, run_value}
use Rattle.desk_impact.specs.declared.changes.TwoVerdicts.{TwoVerdicts as KeptVerdicts}
use Rattle.desk_who.specs.declared.runs.Run.{Run as KeptRun}

-- the verdicts of two policies
pub record TwoVerdicts : Type 0 where
  pub before : Result Grant Denial
  pub after : Result Grant Denial

-- those on a mount of a path
abbrev pub verdicts_at : Content → Content → List (List ℕ) → ℕ → TwoVerdicts
verdicts_at before after path address = record { before = verdict_of before address path; after = verdict_of after address path }

-- ascending addresses, at which alone the verdicts on a path change, and on each other path of its file systems
abbrev pub AreStartsOfBoth : Content → Content → List (List ℕ) → List ℕ → Type 0
AreStartsOfBoth before after path starts =
    (other : List (List ℕ)) → fs_of before.table other ≡ fs_of before.table path → fs_of after.table other ≡ fs_of after.table path → AreStartsOf (verdicts_at before after other) starts

-- what a verdict comes to for a client: the terms of the mount, or none where it is denied, whatever line it names
abbrev pub effect : Result Grant Denial → Option Terms
effect (Ok grant) = Some grant.terms
effect (Err denial) = None

-- the mount is granted by one of them alone, or on other terms
abbrev pub Matters : TwoVerdicts → Type 0
Matters verdicts = effect verdicts.after ≢ effect verdicts.before

-- the mount point of a file system, if the table has it
abbrev pub mount_at : Content → ℕ → Option (List (List ℕ))
mount_at content fs = option_map (λ mount. mount.path) (slice_get content.table fs)

-- what a verdict says: the line that grants the mount and its terms; or why it is denied, of which mount point, and by which line
pub data Saying : Type 0 where
  Grants : ℕ → Terms → Saying
  HasNoFileSystem : Saying
  HasNoLine : Option (List (List ℕ)) → Saying
  IsNotListed : Option (List (List ℕ)) → ℕ → Saying

-- what a verdict under this policy says
abbrev pub saying : Content → Result Grant Denial → Saying
saying content (Ok grant) = Grants grant.line grant.terms
saying content (Err NoFileSystem) = HasNoFileSystem
saying content (Err (NoLine fs)) = HasNoLine (mount_at content fs.0)
saying content (Err (NotListed fs line)) = IsNotListed (mount_at content fs.0) line

-- the verdicts of these two policies say something else
abbrev pub SayOtherwise : Content → Content → TwoVerdicts → Type 0
SayOtherwise before after verdicts = saying after verdicts.after ≢ saying before verdicts.before

-- two policies say the same by the verdicts for an address and by those for the next
pub record SayTheSameOn (before after : Content) (verdicts : ℕ → TwoVerdicts) (address : ℕ) : Type 0 where
  pub here : saying after (verdicts address).after ≡ saying before (verdicts address).before
  pub next : saying after (verdicts (address + 1)).after ≡ saying before (verdicts (address + 1)).before

-- this holds of each path that is in the file systems of this one
abbrev pub HoldsBeside : Content → Content → List (List ℕ) → (List (List ℕ) → Type 0) → Type 0
HoldsBeside before after path P = (other : List (List ℕ)) → fs_of before.table other ≡ fs_of before.table path → fs_of after.table other ≡ fs_of after.table path → P other

-- The addresses at which alone what two policies say of a path may change, and of each other path of its file systems: at any
-- other one no verdict changes, or they say the same for it and for the address before.
pub record AreStartsOfChanges (before after : Content) (path : List (List ℕ)) (starts : List ℕ) : Type 0 where
  pub behind : is_among 0 starts ≡ false
  pub steady : (address : ℕ) → address + 1 < 2 ^ 32 → is_among (address + 1) starts ≡ false
      → HoldsBeside before after path (λ other. verdicts_at before after other (address + 1) ≡ verdicts_at before after other address)
      ⊎ HoldsBeside before after path (λ other. SayTheSameOn before after (verdicts_at before after other) address)

-- those of the values of which this holds, in their order
pub record AreThoseThat {X : Type 0} (P : X → Type 0) (values chosen : List X) : Type 0 where
  pub test : X → Bool
  pub decides : (x : X) → Decides (test x) (P x)
  pub are : chosen ≡ filter test values

-- Of the longest ranges of addresses at which these two policies have the same two verdicts, those of which these say something
-- else.
pub record IsImpact (before after : Content) (verdicts : ℕ → TwoVerdicts) (changes : List (Run TwoVerdicts)) : Type 0 where
  pub whole : List (Run TwoVerdicts)
  pub runs : AreRuns verdicts whole
  pub chosen : AreThoseThat (λ run. SayOtherwise before after run.value) whole changes

-- of ranges, those at which the mount is granted by one of two policies alone, or on other terms
abbrev pub ThoseThatMatter : List (Run TwoVerdicts) → List (Run TwoVerdicts) → Type 0
ThoseThatMatter changes chosen = AreThoseThat (λ run. Matters run.value) changes chosen

-- two verdicts by value
abbrev pub two_verdicts : KeptVerdicts → TwoVerdicts
two_verdicts verdicts = record { before = verdict_result verdicts.before; after = verdict_result verdicts.after }

-- a change by value
abbrev pub change_value : KeptRun KeptVerdicts → Run TwoVerdicts
change_value change = run_value two_verdicts change

-- an address of whose two verdicts this holds is held by a range, with these verdicts; any other by none
pub record TellsWhere (P : TwoVerdicts → Type 0) (verdicts : ℕ → TwoVerdicts) (changes : List (Run TwoVerdicts)) (address : ℕ) : Type 0 where
  pub told : P (verdicts address) → option_map (λ run. run.value) (find (holds address) changes) ≡ Some (verdicts address)
  pub silent : (P (verdicts address) → ⊥) → find (holds address) changes ≡ None

-- The ranges hold just the addresses at which the two verdicts say something else.
abbrev pub ImpactsTellChanges : Type 0
ImpactsTellChanges =
    (before after : Content) (verdicts : ℕ → TwoVerdicts) (changes : List (Run TwoVerdicts)) → IsImpact before after verdicts changes
    → (address : ℕ) → address < 2 ^ 32 → TellsWhere (SayOtherwise before after) verdicts changes address

-- Those of the ranges that matter hold just the addresses at which a mount is granted by one of the policies alone, or on other
-- terms.
abbrev pub ImpactsTellEffects : Type 0
ImpactsTellEffects =
    (before after : Content) (verdicts : ℕ → TwoVerdicts) (changes chosen : List (Run TwoVerdicts)) → IsImpact before after verdicts changes → ThoseThatMatter changes chosen
    → (address : ℕ) → address < 2 ^ 32 → TellsWhere Matters verdicts chosen address

-- There is at most one such list.
abbrev pub ImpactsAreUnique : Type 0
ImpactsAreUnique =
    (before after : Content) (verdicts : ℕ → TwoVerdicts) (changes other : List (Run TwoVerdicts)) → IsImpact before after verdicts changes → IsImpact before after verdicts other → other ≡ changes

-- If the verdicts say the same at each address, the list has no change, and so none that matters.
abbrev pub SameSayingsAreNoChange : Type 0
SameSayingsAreNoChange =
    (before after : Content) (verdicts : ℕ → TwoVerdicts) → ((address : ℕ) → address < 2 ^ 32 → saying after (verdicts address).after ≡ saying before (verdicts address).before)
    → IsImpact before after verdicts [] × ThoseThatMatter [] []
