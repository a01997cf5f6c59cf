-- What is said of a line by itself: that its network has every address, and opinions. (this project's own)
use Rattle.std.specs.Prelude.{ℕ, ◌==◌, ◌&&◌, Bool, true, false, not, List, [], ◌∷◌, ◌++◌, None, if◌then◌else◌}
use Rattle.std.specs.List.{list_any}
use Rattle.desk_exports.specs.declared.entry.Clients.{Clients}
use Rattle.desk_exports.specs.declared.entry.Clients.TheVariants.{Hosts, Net, Net6, World}
use Rattle.desk_exports.specs.declared.entry.Entry.{Entry}
use Rattle.desk_exports.specs.declared.entry.Flavour.{Flavour}
use Rattle.desk_exports.specs.declared.entry.Flavour.TheVariants.{Sys, Krb5, Krb5i, Krb5p}
use Rattle.desk_exports.specs.declared.entry.Mapping.{Mapping}
use Rattle.desk_exports.specs.declared.entry.Mapping.TheVariants.{Root, All}
use Rattle.desk_exports.specs.declared.entry.Terms.{Terms}
use Rattle.desk_remarks.specs.declared.remark.LineRemark.{LineRemark}
use Rattle.desk_remarks.specs.declared.remark.Remark.{Remark}
use Rattle.desk_remarks.specs.declared.remark.Remark.TheVariants as remark

-- clients are a network of every address: its prefix is 0
abbrev pub is_every_address : Clients → Bool
is_every_address (Hosts names) = false
is_every_address (Net net noted) = net.prefix == 0
is_every_address (Net6 value) = false
is_every_address World = false

-- clients are everybody: neither hosts nor a network are written, or a network of every address is
abbrev pub are_all : Clients → Bool
are_all (Hosts names) = false
are_all (Net net noted) = net.prefix == 0
are_all (Net6 value) = false
are_all World = true

-- clients are not named one by one: they are a network, whatever its prefix, or everybody
abbrev pub are_many : Clients → Bool
are_many (Hosts names) = false
are_many (Net net noted) = true
are_many (Net6 value) = false
are_many World = true

-- with the flavour sys a client says who its users are, and proves nothing
abbrev pub is_sys : Flavour → Bool
is_sys Sys = true
is_sys Krb5 = false
is_sys Krb5i = false
is_sys Krb5p = false

abbrev pub accepts_sys : Terms → Bool
accepts_sys terms = list_any is_sys terms.flavours

-- root, or everybody, acts as a user of the number 0
abbrev pub acts_as_root : Mapping → Bool
acts_as_root (Root cred) = cred.uid == 0
acts_as_root (All cred) = cred.uid == 0

-- a line lets everybody write: it is for everybody, not read-only, and accepts sys
abbrev pub is_writable_by_all : Entry → Bool
is_writable_by_all entry = are_all entry.clients && (not entry.terms.ro && accepts_sys entry.terms)

-- a line lets the root of many clients act as root: it is for a network or everybody, and accepts sys
abbrev pub is_root_for_many : Entry → Bool
is_root_for_many entry = are_many entry.clients && (acts_as_root entry.terms.map && accepts_sys entry.terms)

-- what is said of a line, if it is said
abbrev pub remark_if : Bool → ℕ → Remark → List LineRemark
remark_if said line remark = if said then record { line = line; remark = remark; example = None; directory = None } ∷ [] else []

-- what is said of a line by itself, with opinions or without
abbrev pub entry_remarks : Bool → Entry → List LineRemark
entry_remarks opinions entry =
    remark_if (is_every_address entry.clients) entry.line remark.EveryAddress
    ++ (remark_if (opinions && is_writable_by_all entry) entry.line remark.WritableByAll
    ++ remark_if (opinions && is_root_for_many entry) entry.line remark.RootForMany)
