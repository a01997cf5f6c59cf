-- What is found in the file system of a mount point: where mountd(8) grants more than this desk, and what it may leave out. (this
-- project's own)
use Rattle.std.specs.Prelude.{◌≡◌, ◌⊎◌, ℕ, List, [], Option, None, Some, position}
use Rattle.desk_text.specs.Path.{are_printed_alike}
use Rattle.desk_policy.specs.Policy.{Content, rows_of}
use Rattle.desk_idle.specs.Laws.{WriteDirectories}
use Rattle.desk_server.specs.RepeatedClients.{AreRepeatedClients}
use Rattle.desk_server.specs.WiderGrants.{AreWiderGrants}
use Rattle.desk_server.specs.declared.repeated_client.RepeatedClient.{RepeatedClient}
use Rattle.desk_server.specs.declared.wider_grant.WiderGrant.{WiderGrant}

-- the file system of this mount point, if a policy lists it
abbrev pub filesystem_at : Content → List (List ℕ) → Option ℕ
filesystem_at content mount = position (λ one. are_printed_alike one.path mount) content.table

-- Just the lines of a file system that are the first selected at an address at which the server grants more. They are looked for if
-- each line of the file system writes directories of its own, as those do that are read from texts.
abbrev pub AreWiderIn : Content → ℕ → List WiderGrant → Type 0
AreWiderIn content fs found = (WriteDirectories content fs × AreWiderGrants content fs found) ⊎ ((¬ WriteDirectories content fs) × (found ≡ []))

-- those of this file system, if there is one
abbrev pub AreWiderOf : Content → Option ℕ → List WiderGrant → Type 0
AreWiderOf content None found = found ≡ []
AreWiderOf content (Some fs) found = AreWiderIn content fs found

abbrev pub AreWiderAt : Content → List (List ℕ) → List WiderGrant → Type 0
AreWiderAt content mount found = AreWiderOf content (filesystem_at content mount) found

-- just the lines of a file system, if there is one, that have a client of an earlier one
abbrev pub AreRepeatedOf : Content → Option ℕ → List RepeatedClient → Type 0
AreRepeatedOf content None found = found ≡ []
AreRepeatedOf content (Some fs) found = AreRepeatedClients (rows_of content fs) found

abbrev pub AreRepeatedAt : Content → List (List ℕ) → List RepeatedClient → Type 0
AreRepeatedAt content mount found = AreRepeatedOf content (filesystem_at content mount) found
