-- What the private contracts of the note on new grants cite.
use Rattle.std.specs.Prelude.{◌≡◌, ℕ, ◌++◌, Bool, false, List, [], Option, None, Some, if◌then◌else◌}
use Rattle.std.specs.BTreeMap.{BTreeMap}
use Rattle.std.specs.BTreeMap as tree
use Rattle.std.specs.List.{AllPairs}
use Rattle.std.specs.Option.{option_copied}
use Rattle.std.specs.Ordering.{nat_cmp}
use Rattle.desk_text.specs.Address.{number_of}
use Rattle.desk_tables.specs.declared.filesystems.Mount.{Mount}
use Rattle.desk_policy.specs.Policy.{Content}
use Rattle.desk_server.specs.declared.wider_grant.WiderGrant.{WiderGrant}
use Rattle.desk_server_notes.specs.NewsNote.{AreGrants, Grants, TellsNewsOf, is_same_directory, news_at, news_line, was_granted}

-- their addresses differ
abbrev pub AreApart : List WiderGrant → Type 0
AreApart found = AllPairs (λ one later. ¬ (number_of one.address ≡ number_of later.address)) found

-- what was granted at an address, if anything, is the directory of this one
abbrev pub is_known_as : Option WiderGrant → WiderGrant → Bool
is_known_as None one = false
is_known_as (Some old) one = is_same_directory (option_copied old.directory) (option_copied one.directory)

abbrev pub is_known : BTreeMap ℕ WiderGrant → WiderGrant → Bool
is_known known one = is_known_as (tree.get nat_cmp known (number_of one.address)) one

-- the map tells what was granted
abbrev pub AreKnown : List WiderGrant → BTreeMap ℕ WiderGrant → Type 0
AreKnown found known = (one : WiderGrant) → is_known known one ≡ was_granted found one

-- a line for one that is not known
abbrev pub line_if_new : List (List ℕ) → BTreeMap ℕ WiderGrant → WiderGrant → List ℕ
line_if_new mount known one = if is_known known one then [] else news_line mount one

-- a note gains the lines of a mount point
pub record AddsNewsAt (before after : Content) (mount : List (List ℕ)) (old new : List ℕ) : Type 0 where
  pub found : Grants
  pub are : AreGrants before after mount found
  pub text : new ≡ old ++ news_at mount found

-- it gains those of these mount points
pub record AddsNews (before after : Content) (mounts : List Mount) (old new : List ℕ) : Type 0 where
  pub news : List ℕ
  pub tells : TellsNewsOf before after mounts news
  pub text : new ≡ old ++ news
