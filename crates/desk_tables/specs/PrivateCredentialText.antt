-- What the private contracts of credential texts cite.
use Rattle.std.specs.Prelude.{◌≡◌, ◌≤◌, ◌==◌, ℕ, Option, None, Some, Result, List, find, if◌then◌else◌, length, map}
use Rattle.desk_tables.specs.CredentialText.{lone_user_breaks, lone_user_value, cred_faults, gid_of, uid_of, unless_cred_fault, user_and_groups_breaks, user_and_groups_value}
use Rattle.desk_tables.specs.declared.credential_text.CredFault.{CredFault}
use Rattle.desk_tables.specs.declared.credentials.Cred.{Cred}
use Rattle.desk_tables.specs.declared.groups.Group.{Group}
use Rattle.desk_tables.specs.declared.users.User.{User}

-- what a user alone stands for
abbrev pub lone_user_answer : List User → List Group → List ℕ → Option (Result Cred CredFault)
lone_user_answer users groups user = unless_cred_fault (find (lone_user_breaks users groups user) cred_faults) (lone_user_value users groups user)

-- what a user and the groups behind it stand for
abbrev pub user_and_groups_answer : List User → List Group → List ℕ → List (List ℕ) → Option (Result Cred CredFault)
user_and_groups_answer users groups user others = unless_cred_fault (find (user_and_groups_breaks users groups user others) cred_faults) (user_and_groups_value users groups user others)

-- the number of a user, or of a group, if the element is not empty
abbrev pub sound_uid : List User → List ℕ → Option ℕ
sound_uid users element = if length element == 0 then None else uid_of users element

abbrev pub sound_gid : List Group → List ℕ → Option ℕ
sound_gid groups element = if length element == 0 then None else gid_of groups element

-- the numbers of groups, of which each has one
abbrev pub AreSoundGids : List Group → List (List ℕ) → List ℕ → Type 0
AreSoundGids groups others gids = (map (sound_gid groups) others ≡ map Some gids) × (length gids ≤ 16)
