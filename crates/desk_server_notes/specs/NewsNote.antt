-- What mountd(8) grants more than this desk by one policy that it did not by another. (this project's own)
use Rattle.std.specs.Prelude.{◌≡◌, ℕ, ◌==◌, ◌++◌, ◌&&◌, Bool, true, false, List, [], ◌∷◌, Option, None, Some, codes, if◌then◌else◌}
use Rattle.std.specs.Fmt.{decimal}
use Rattle.std.specs.List.{AllZip, flat_map, list_any}
use Rattle.std.specs.Option.{option_copied}
use Rattle.desk_text.specs.Address.{addr_text, number_of}
use Rattle.desk_text.specs.Path.{path_text, same_path}
use Rattle.desk_tables.specs.declared.filesystems.Mount.{Mount}
use Rattle.desk_policy.specs.Policy.{Content}
use Rattle.desk_server.specs.declared.wider_grant.WiderGrant.{WiderGrant}
use Rattle.desk_server_notes.specs.MountFindings.{AreWiderAt}

-- the same directory, or both none
abbrev pub is_same_directory : Option (List (List ℕ)) → Option (List (List ℕ)) → Bool
is_same_directory None None = true
is_same_directory None (Some other) = false
is_same_directory (Some directory) None = false
is_same_directory (Some directory) (Some other) = same_path directory other

-- at the same address the same directory
abbrev pub is_same_grant : WiderGrant → WiderGrant → Bool
is_same_grant one other = number_of one.address == number_of other.address && is_same_directory (option_copied one.directory) (option_copied other.directory)

-- it was granted before, by whichever lines
abbrev pub was_granted : List WiderGrant → WiderGrant → Bool
was_granted before one = list_any (λ old. is_same_grant old one) before

-- what is granted by a line: a directory, or any directory of a mount point
abbrev pub granted_text : List (List ℕ) → ℕ → Option (List (List ℕ)) → List ℕ
granted_text mount line (Some directory) = path_text directory ++ codes " by line " ++ decimal line ++ codes " of " ++ path_text mount ++ codes "\n"
granted_text mount line None = codes "any directory of " ++ path_text mount ++ codes " by line " ++ decimal line ++ codes "\n"

-- to whom mountd now grants something
abbrev pub now_grants : ℕ → List ℕ
now_grants address = codes "exportdesk: mountd(8) now grants " ++ addr_text address ++ codes " "

abbrev pub news_line : List (List ℕ) → WiderGrant → List ℕ
news_line mount one = now_grants (number_of one.address) ++ granted_text mount one.other (option_copied one.directory)

-- what mountd grants more in one file system, before and after
pub record Grants : Type 0 where
  pub before : List WiderGrant
  pub after : List WiderGrant

-- it does so in the file system of a mount point, by two policies
pub record AreGrants (before after : Content) (mount : List (List ℕ)) (found : Grants) : Type 0 where
  pub are_before : AreWiderAt before mount found.before
  pub are_after : AreWiderAt after mount found.after

-- a line for each that was not granted before
abbrev pub news_at : List (List ℕ) → Grants → List ℕ
news_at mount found = flat_map (λ one. if was_granted found.before one then [] else news_line mount one) found.after

-- those of each of these mount points
abbrev pub news_text : List Mount → List Grants → List ℕ
news_text [] lists = []
news_text (mount ∷ mounts) [] = []
news_text (mount ∷ mounts) (found ∷ lists) = news_at mount.path found ++ news_text mounts lists

-- so it is with these mount points
pub record TellsNewsOf (before after : Content) (mounts : List Mount) (note : List ℕ) : Type 0 where
  pub lists : List Grants
  pub are : AllZip (λ mount found. AreGrants before after mount.path found) mounts lists
  pub text : note ≡ news_text mounts lists

-- Of each mount point of the later policy each client and directory is named, of those that are found where mountd grants more than
-- this desk, that was not found in the file system of this mount point by the earlier one.
abbrev pub TellsNews : Content → Content → List ℕ → Type 0
TellsNews before after note = TellsNewsOf before after after.table note
