-- What the private contracts of the objects of findings cite.
use Rattle.std.specs.Prelude.{ℕ, List, Option, None, Some, codes}
use Rattle.serde_json.specs.Data.{Members, number, put, string, unsigned}
use Rattle.desk_text.specs.Address as addresses
use Rattle.desk_text.specs.Address.{addr_text}
use Rattle.desk_text.specs.Path.{path_text}
use Rattle.desk_text.specs.declared.address.Addr.{Addr}
use Rattle.desk_origins.specs.Origins.{origin_of, own_number}
use Rattle.desk_origins.specs.declared.origins.Origin.{Origin}

-- the members with that of an address, if there is one
abbrev pub put_address : Option Addr → Members → Members
put_address None members = members
put_address (Some address) members = put (codes "address") (string (addr_text (addresses.number_of address))) members

-- the members with that of a directory, if there is one
abbrev pub put_directory : Option (List (List ℕ)) → Members → Members
put_directory None members = members
put_directory (Some directory) members = put (codes "directory") (string (path_text directory)) members

-- the members with that of another line, if there is one
abbrev pub put_other : List Origin → Option ℕ → Members → Members
put_other origins None members = members
put_other origins (Some line) members = put (codes "other") (number (unsigned (own_number origins line))) members

-- the members with the path of its file, if there is one, and several texts were read as one
abbrev pub put_path_of : Option Origin → Members → Members
put_path_of None members = members
put_path_of (Some origin) members = put (codes "other_path") (string origin.path) members

abbrev pub put_other_path : List Origin → Option ℕ → Members → Members
put_other_path origins None members = members
put_other_path origins (Some line) members = put_path_of (origin_of origins line) members
