-- What the private contracts of the note on lines left out cite.
use Rattle.std.specs.Prelude.{◌≡◌, ℕ, ◌++◌, List}
use Rattle.std.specs.List.{AllZip}
use Rattle.desk_tables.specs.FileSystems.{fs_of}
use Rattle.desk_tables.specs.declared.filesystems.Mount.{Mount}
use Rattle.desk_policy.specs.Policy.{Content}
use Rattle.desk_server.specs.declared.repeated_client.RepeatedClient.{RepeatedClient}
use Rattle.desk_server_prints.specs.LeftOutNote.{AreRepeatedIn, first_notes}

-- the first lines of the file systems of these mount points are added to a note
pub record AddsNote (content : Content) (mounts : List Mount) (old new : List ℕ) : Type 0 where
  pub lists : List (List RepeatedClient)
  pub are : AllZip (λ mount found. AreRepeatedIn content (fs_of content.table mount.path) found) mounts lists
  pub text : new ≡ old ++ first_notes content.origins mounts lists
