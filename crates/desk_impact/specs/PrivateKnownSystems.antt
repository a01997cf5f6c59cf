-- What the private contracts of what is known cite.
use Rattle.std.specs.Prelude.{◌≡◌, ℕ, ◌<◌, false, All, List, Option, length, map, slice_index_or}
use Rattle.desk_text.specs.AddrSet.{is_among}
use Rattle.desk_text.specs.declared.address.Addr.{Addr}
use Rattle.desk_tables.specs.FileSystems.{fs_of}
use Rattle.desk_policy.specs.Policy.{Content}
use Rattle.desk_who.specs.Runs.{AreRunsWithValue, run_value}
use Rattle.desk_who.specs.Searching.{AreFoundStarts, ByRule, Rule}
use Rattle.desk_impact.specs.declared.changes.TwoVerdicts.{TwoVerdicts as KeptVerdicts}
use Rattle.desk_impact.specs.KnownSystems.{IsKnownChange, fs_number}
use Rattle.desk_impact.specs.Places.{Others}
use Rattle.desk_impact.specs.Sections.{found_of}
use Rattle.desk_impact.specs.declared.known_systems.Known.{Known}

-- at this place something is known of these file systems
pub record IsKnownAt {T : Type 0} (known : List (Known T)) (old new : Option ℕ) (place : ℕ) : Type 0 where
  pub one : Known T
  pub within : place < length known
  pub there : slice_index_or known place one ≡ one
  pub old_is : fs_number one.old ≡ old
  pub new_is : fs_number one.new ≡ new

-- All is known as it should be, and at this place what is known of the file systems of a path.
pub record HasLearnedChange (old new : Content) (path : List (List ℕ)) (known : List (Known KeptVerdicts)) (place : ℕ) : Type 0 where
  pub all : All (IsKnownChange old new) known
  pub own : IsKnownAt known (fs_of old.table path) (fs_of new.table path) place

-- What is found by a rule of the directories that no line writes, in the file system of a path; and where something else may be
-- found.
pub record AreFoundOfOthers {T A : Type 0} (meaning : T → A) (rule : Rule (Option A)) (content : Content) (path : List (List ℕ)) (one : Known T) : Type 0 where
  pub starts : AreFoundStarts rule content path one.starts
  pub runs : AreRunsWithValue (found_of rule content (Others path)) (map (run_value meaning) one.found)

-- What a search finds of them, in the file system of this path.
pub record AreKnownFindings {T A : Type 0} (meaning : T → A) (found : Addr → List (List ℕ) → Option T → Type 0) (content : Content) (turns : List ℕ) (one : Known T) : Type 0 where
  pub path : List (List ℕ)
  pub old_is : fs_number one.old ≡ fs_of content.table path
  pub behind : is_among 0 one.starts ≡ false
  pub by_rule : ByRule meaning found content turns (λ rule. AreFoundOfOthers meaning rule content path one)

-- All is known as it should be, and at this place what is known of the file system of a path.
pub record HasLearnedFindings {T A : Type 0} (meaning : T → A) (found : Addr → List (List ℕ) → Option T → Type 0) (content : Content) (turns : List ℕ) (path : List (List ℕ))
    (known : List (Known T)) (place : ℕ) : Type 0 where
  pub all : All (AreKnownFindings meaning found content turns) known
  pub own : IsKnownAt known (fs_of content.table path) (fs_of content.table path) place
