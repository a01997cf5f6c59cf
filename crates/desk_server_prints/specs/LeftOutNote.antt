-- What is said of the lines that mountd(8) may leave out. (this project's own)
use Rattle.std.specs.Prelude.{◌≡◌, ℕ, ◌++◌, List, [], ◌∷◌, Option, None, Some, codes}
use Rattle.std.specs.List.{AllZip}
use Rattle.desk_text.specs.Address.{addr_text, number_of}
use Rattle.desk_text.specs.declared.address.Addr.{Addr}
use Rattle.desk_text.specs.Path.{path_text}
use Rattle.desk_tables.specs.FileSystems.{fs_of}
use Rattle.desk_tables.specs.declared.filesystems.Mount.{Mount}
use Rattle.desk_origins.specs.Origins.{line_name}
use Rattle.desk_origins.specs.declared.origins.Origin.{Origin}
use Rattle.desk_policy.specs.Policy.{Content, rows_of}
use Rattle.desk_server.specs.RepeatedClients.{AreRepeatedClients}
use Rattle.desk_server.specs.declared.repeated_client.RepeatedClient.{RepeatedClient}

-- just the lines of this file system, if there is one, that have a client of an earlier one
abbrev pub AreRepeatedIn : Content → Option ℕ → List RepeatedClient → Type 0
AreRepeatedIn content None found = found ≡ []
AreRepeatedIn content (Some fs) found = AreRepeatedClients (rows_of content fs) found

-- mountd may leave out a line of the file system of this mount point
abbrev pub may_leave_out : List Origin → ℕ → List ℕ
may_leave_out origins line = codes "exportdesk: mountd(8) may answer otherwise, since it may leave out line " ++ line_name origins line ++ codes " of "

abbrev pub left_out_text : List Origin → List (List ℕ) → ℕ → List ℕ
left_out_text origins mount line = may_leave_out origins line ++ path_text mount

-- a line has a client of this address
abbrev pub client_text : List Origin → ℕ → Addr → List ℕ
client_text origins line address = codes ": line " ++ line_name origins line ++ codes " has " ++ addr_text (number_of address) ++ codes "\n"

abbrev pub line_note : List Origin → List (List ℕ) → RepeatedClient → List ℕ
line_note origins mount one = left_out_text origins mount one.line ++ client_text origins one.other one.address

-- the first of these lines of the file system of a mount point, if there is one
abbrev pub first_note : List Origin → List (List ℕ) → List RepeatedClient → List ℕ
first_note origins mount [] = []
first_note origins mount (one ∷ others) = line_note origins mount one

-- the first such line of the file system of each of these mount points
abbrev pub first_notes : List Origin → List Mount → List (List RepeatedClient) → List ℕ
first_notes origins [] lists = []
first_notes origins (mount ∷ mounts) [] = []
first_notes origins (mount ∷ mounts) (found ∷ lists) = first_note origins mount.path found ++ first_notes origins mounts lists

-- Of each file system the first line is named that has a client of an earlier one.
pub record TellsLeftOut (content : Content) (note : List ℕ) : Type 0 where
  pub lists : List (List RepeatedClient)
  pub are : AllZip (λ mount found. AreRepeatedIn content (fs_of content.table mount.path) found) content.table lists
  pub text : note ≡ first_notes content.origins content.table lists
