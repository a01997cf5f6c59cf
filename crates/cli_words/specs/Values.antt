-- What the words of a command stand for: an address, a path, the mount points of the file systems, a credential, a
-- digest, a number. (this project's own)
use Rattle.std.specs.Prelude.{◌≡◌, ℕ, ◌==◌, ◌&&◌, Bool, not, codes, length, List, Option, Some, None, Result, Ok, Err, find, is_ok, if◌then◌else◌, option_and_then}
use Rattle.std.specs.Char.{is_ascii_hexdigit, is_ascii_uppercase}
use Rattle.std.specs.List.{filter_map, list_all}
use Rattle.std.specs.Result.{result_ok}
use Rattle.std.specs.String.{string_bytes}
use Rattle.desk_text.specs.Address.{number_of, read_addr}
use Rattle.desk_text.specs.Bytes.{read_decimal}
use Rattle.desk_text.specs.Path.{read_path}
use Rattle.desk_tables.specs.CredentialText.{read_credential}
use Rattle.desk_tables.specs.Rules.{TableFault}
use Rattle.desk_tables.specs.declared.credential_text.CredFault.{CredFault}
use Rattle.desk_tables.specs.declared.credentials.Cred.{Cred}
use Rattle.desk_tables.specs.declared.groups.Group.{Group}
use Rattle.desk_tables.specs.declared.users.User.{User}
use Rattle.desk_text.specs.declared.address.AddrFault.{AddrFault}
use Rattle.desk_text.specs.declared.path.PathFault.{PathFault}
use Rattle.desk_mounts.specs.Table.{TooManyBy}
use Rattle.cli_output.specs.Failure.{IsRefusal}
use Rattle.cli_output.specs.declared.bad_argument.ArgumentFault.{ArgumentFault}
use Rattle.cli_output.specs.declared.bad_argument.ArgumentFault.TheVariants as fault
use Rattle.cli_output.specs.declared.failure.Failure.{Failure}
use Rattle.cli_output.specs.declared.failure.Failure.TheVariants as failure
use Rattle.cli_words.specs.declared.values.Request.{Request}

module _ {T X F : Type 0} where
  -- the answer is what the word reads as, or names the word with its fault; out of memory says nothing
  abbrev pub AnswersArgument : (T → X) → (F → ArgumentFault) → List ℕ → List ℕ → Result X F → Result T Failure → Type 0
  AnswersArgument view wrap argument word read (Ok value) = read ≡ Ok (view value)
  AnswersArgument view wrap argument word (Ok x) (Err other) = other ≡ failure.Memory
  AnswersArgument view wrap argument word (Err bad) (Err other) = IsRefusal argument word (wrap bad) other

-- a word that is not a path
abbrev pub is_no_path : List ℕ → Bool
is_no_path word = not (is_ok (read_path word))

-- the first of these words that is not a path
abbrev pub first_bad_path : List (List ℕ) → Option (List ℕ)
first_bad_path words = find is_no_path words

-- the paths that these words write
abbrev pub paths_of : List (List ℕ) → List (List (List ℕ))
paths_of words = filter_map (λ word. result_ok (read_path word)) words

-- a MOUNT that reads so is refused with its fault
abbrev pub IsRefusedMount : Result (List (List ℕ)) PathFault → List ℕ → ArgumentFault → Type 0
IsRefusedMount (Ok path) argument found = ⊥
IsRefusedMount (Err bad) argument found = (argument ≡ codes "MOUNT") × (found ≡ fault.Path bad)

-- the failure names the first MOUNT that is not a path, with its fault; out of memory says nothing
abbrev pub IsBadMount : List (List ℕ) → Failure → Type 0
IsBadMount words (failure.Argument bad) = (first_bad_path words ≡ Some (string_bytes bad.word)) × IsRefusedMount (read_path (string_bytes bad.word)) bad.argument.now bad.fault
IsBadMount words failure.Memory = Unit {0}
IsBadMount words other = ⊥

-- the failure names the first MOUNT that is not a path, or says rightly that there would be more than 256 file systems, and how many
abbrev pub IsNoTable : List (List ℕ) → Failure → Type 0
IsNoTable words (failure.TooManyMounts argument count) = (argument.now ≡ codes "MOUNT") × (first_bad_path words ≡ None) × TooManyBy (paths_of words) count
IsNoTable words other = IsBadMount words other

-- the failure names the first of HOST and DIR that cannot be parsed; out of memory says nothing
abbrev pub IsBadArgument : List ℕ → Result ℕ AddrFault → List ℕ → Result (List (List ℕ)) PathFault → Failure → Type 0
IsBadArgument host (Err bad) dir path other = IsRefusal (codes "HOST") host (fault.Address bad) other
IsBadArgument host (Ok address) dir (Err bad) other = IsRefusal (codes "DIR") dir (fault.Path bad) other
IsBadArgument host (Ok address) dir (Ok path) other = other ≡ failure.Memory

-- the number of a revision that a word writes
abbrev pub revision_number : List ℕ → Option ℕ
revision_number word = read_decimal 2147483647 word

-- the failure names this argument, which is not such a number; out of memory says nothing
abbrev pub IsBadNumber : List ℕ → List ℕ → Failure → Type 0
IsBadNumber argument word other = IsRefusal argument word (fault.Number 0 2147483647) other

-- a hexadecimal digit, and no capital letter
abbrev pub is_small_digit : ℕ → Bool
is_small_digit b = is_ascii_hexdigit b && not (is_ascii_uppercase b)

-- a word is a digest of a text, as it is told: 64 hexadecimal digits, the letters small
abbrev pub is_digest : List ℕ → Bool
is_digest word = length word == 64 && list_all is_small_digit word

-- the number of a port that a word writes: a decimal up to 65535 that is not 0
abbrev pub port_number : List ℕ → Option ℕ
port_number word = option_and_then (λ number. if number == 0 then None else Some number) (read_decimal 65535 word)

-- the failure names `--port`, which is not such a number; out of memory says nothing
abbrev pub IsBadPort : List ℕ → Failure → Type 0
IsBadPort word other = IsRefusal (codes "--port") word (fault.Number 1 65535) other

-- how many connections or seconds a word writes
abbrev pub count_number : List ℕ → Option ℕ
count_number word = read_decimal 4294967295 word

-- the failure names this argument, which is not such a number; out of memory says nothing
abbrev pub IsBadCount : List ℕ → List ℕ → Failure → Type 0
IsBadCount argument word other = IsRefusal argument word (fault.Number 0 4294967295) other

-- the request that these words of HOST and DIR write
pub record IsRequest (host dir : List ℕ) (request : Request) : Type 0 where
  pub address : read_addr host ≡ Ok (number_of request.address)
  pub path : read_path dir ≡ Ok request.path

-- what CRED stands for with these users and groups, if it is given and neither table has a fault
abbrev pub own_answer : Option (List ℕ) → Result (List User) TableFault → Result (List Group) TableFault → Option (Result Cred CredFault)
own_answer (Some word) (Ok users) (Ok groups) = read_credential users groups word
own_answer word users groups = None

-- the credential that CRED stands for, if it is one
abbrev pub good_own : Option (Result Cred CredFault) → Option Cred
good_own (Some (Ok own)) = Some own
good_own answer = None

-- the failure names CRED with its fault; out of memory says nothing
abbrev pub IsBadOwn : Option (List ℕ) → Option (Result Cred CredFault) → Failure → Type 0
IsBadOwn (Some word) (Some (Err bad)) other = IsRefusal (codes "--as") word (fault.Credential bad) other
IsBadOwn word answer other = other ≡ failure.Memory

-- CRED is not bad
abbrev pub IsNotBad : Option (Result Cred CredFault) → Type 0
IsNotBad (Some (Err bad)) = ⊥
IsNotBad answer = Unit {0}

-- the credential that CRED stands for, or why it stands for none
abbrev pub AnswersOwn : Option (List ℕ) → Option (Result Cred CredFault) → Result (Option Cred) Failure → Type 0
AnswersOwn word answer (Ok own) = IsNotBad answer × (own ≡ good_own answer)
AnswersOwn word answer (Err other) = IsBadOwn word answer other
