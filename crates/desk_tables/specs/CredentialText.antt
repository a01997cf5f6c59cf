-- What a credential text stands for. (exports(5), with faults, their numbers and their order of this project's own)
use Rattle.std.specs.Prelude.{ℕ, ◌==◌, nat_lt, Bool, false, not, ◌&&◌, Option, Some, None, Result, Ok, Err, is_none, option_and_then, List, [], ◌∷◌, find, length, if◌then◌else◌}
use Rattle.std.specs.List.{filter_map, list_any, slice_split}
use Rattle.std.specs.Option.{option_map, option_map_or}
use Rattle.desk_text.specs.Bytes.{is_digits}
use Rattle.desk_tables.specs.ColonLines.{number_in}
use Rattle.desk_tables.specs.Groups.{gids_of, group_of_name}
use Rattle.desk_tables.specs.Users.{user_of_name, user_of_uid}
use Rattle.desk_tables.specs.declared.credentials.Cred.{Cred}
use Rattle.desk_tables.specs.declared.credential_text.CredFault.{CredFault}
use Rattle.desk_tables.specs.declared.credential_text.CredFault.TheVariants.{UnknownUser, UnknownGroup, TooManyGroups, EmptyElement, Range}
use Rattle.desk_tables.specs.declared.groups.Group.{Group}
use Rattle.desk_tables.specs.declared.users.User.{User}

-- the number of a fault
abbrev pub cred_fault_number : CredFault → ℕ
cred_fault_number UnknownUser = 1
cred_fault_number UnknownGroup = 2
cred_fault_number TooManyGroups = 3
cred_fault_number EmptyElement = 4
cred_fault_number Range = 5

-- the elements of a credential text, between its colons
abbrev pub elements : List ℕ → List (List ℕ)
elements text = slice_split (λ b. b == 58) text

-- an element of digits alone that is no number: it is out of range, and never taken for a name
abbrev pub is_out_of_range : List ℕ → Bool
is_out_of_range element = is_digits element && is_none (number_in element)

-- an element that is neither empty nor of digits alone is a name
abbrev pub is_name : List ℕ → Bool
is_name element = not (is_digits element) && not (length element == 0)

-- the user that an element alone stands for: of a number the first row that has it, of a name its first row
abbrev pub user_named : List User → List ℕ → Option User
user_named users element =
    if is_digits element then option_and_then (user_of_uid users) (number_in element)
    else (if length element == 0 then None else user_of_name users element)

-- Whether a fault holds of a user alone: it is neither empty nor out of range and nobody has it; it has more than
-- sixteen groups, its own among them, each counted once; it is empty; it is out of range.
abbrev pub lone_user_breaks : List User → List Group → List ℕ → CredFault → Bool
lone_user_breaks users groups user UnknownUser = not (length user == 0) && (not (is_out_of_range user) && is_none (user_named users user))
lone_user_breaks users groups user UnknownGroup = false
lone_user_breaks users groups user TooManyGroups = option_map_or (λ u. nat_lt 16 (length (gids_of groups u))) (user_named users user) false
lone_user_breaks users groups user EmptyElement = length user == 0
lone_user_breaks users groups user Range = is_out_of_range user

-- Whether a fault holds of a user and the groups behind it: a name that no user has; a name that no group has; more than
-- sixteen groups, as they are written; an empty element; an element that is out of range.
abbrev pub user_and_groups_breaks : List User → List Group → List ℕ → List (List ℕ) → CredFault → Bool
user_and_groups_breaks users groups user others UnknownUser = is_name user && is_none (user_of_name users user)
user_and_groups_breaks users groups user others UnknownGroup = list_any (λ e. is_name e && is_none (group_of_name groups e)) others
user_and_groups_breaks users groups user others TooManyGroups = nat_lt 16 (length others)
user_and_groups_breaks users groups user others EmptyElement = list_any (λ e. length e == 0) (user ∷ others)
user_and_groups_breaks users groups user others Range = list_any is_out_of_range (user ∷ others)

-- whether a fault holds of the elements of a text, of which there is at least one; `user:` has no groups
abbrev pub cred_breaks : List User → List Group → List (List ℕ) → CredFault → Bool
cred_breaks users groups [] fault = false
cred_breaks users groups (user ∷ []) fault = lone_user_breaks users groups user fault
cred_breaks users groups (user ∷ [] ∷ []) fault = user_and_groups_breaks users groups user [] fault
cred_breaks users groups (user ∷ others) fault = user_and_groups_breaks users groups user others fault

-- the faults, in the order in which they are checked
abbrev pub cred_faults : List CredFault
cred_faults = UnknownUser ∷ UnknownGroup ∷ TooManyGroups ∷ EmptyElement ∷ Range ∷ []

-- the number of a user, which is written or that of the first row of its name
abbrev pub uid_of : List User → List ℕ → Option ℕ
uid_of users element = if is_digits element then number_in element else option_map (λ u. u.uid) (user_of_name users element)

-- the number of a group, which is written or that of the first row of its name
abbrev pub gid_of : List Group → List ℕ → Option ℕ
gid_of groups element = if is_digits element then number_in element else option_map (λ g. g.gid) (group_of_name groups element)

-- the credential of a user alone: its number and its gids
abbrev pub lone_user_value : List User → List Group → List ℕ → Option Cred
lone_user_value users groups user = option_map (λ u. record { uid = u.uid; gids = gids_of groups u }) (user_named users user)

-- the credential of a user and the groups behind it, as they are written
abbrev pub user_and_groups_value : List User → List Group → List ℕ → List (List ℕ) → Option Cred
user_and_groups_value users groups user others = option_map (λ uid. record { uid = uid; gids = filter_map (gid_of groups) others }) (uid_of users user)

-- the credential of the elements of a text
abbrev pub cred_value : List User → List Group → List (List ℕ) → Option Cred
cred_value users groups [] = None
cred_value users groups (user ∷ []) = lone_user_value users groups user
cred_value users groups (user ∷ [] ∷ []) = user_and_groups_value users groups user []
cred_value users groups (user ∷ others) = user_and_groups_value users groups user others

-- the fault if there is one, else the credential
abbrev pub unless_cred_fault : Option CredFault → Option Cred → Option (Result Cred CredFault)
unless_cred_fault (Some fault) cred = Some (Err fault)
unless_cred_fault None cred = option_map Ok cred

-- What elements stand for: their first fault, else their credential. That there is one is part of what `credential`
-- promises.
abbrev pub elements_answer : List User → List Group → List (List ℕ) → Option (Result Cred CredFault)
elements_answer users groups es = unless_cred_fault (find (cred_breaks users groups es) cred_faults) (cred_value users groups es)

-- what a credential text stands for
abbrev pub read_credential : List User → List Group → List ℕ → Option (Result Cred CredFault)
read_credential users groups text = elements_answer users groups (elements text)
