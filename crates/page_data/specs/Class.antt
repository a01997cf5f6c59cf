-- What a mount comes to for a client: it is denied, or granted read-only, or read-write, or so that root is kept. (this project's
-- own, over exports(5))
use Rattle.std.specs.Prelude.{ℕ, ◌==◌, nat_lt, Bool, [], Result, Ok, Err, if◌then◌else◌}
use Rattle.desk_exports.specs.declared.entry.Terms.{Terms}
use Rattle.desk_policy.specs.ActingAs.{act_as}
use Rattle.desk_policy.specs.Verdict.{Grant}
use Rattle.desk_policy.specs.declared.verdict.Denial.{Denial}
use Rattle.page_data.specs.declared.class.Class.{Class}
use Rattle.page_data.specs.declared.class.Class.TheVariants.{Denied, ReadOnly, ReadWrite, RootKept}

-- root of the client, or each of its users, acts as root
abbrev pub keeps_root : Terms → Bool
keeps_root terms = (act_as terms (record { uid = 0; gids = [] })).uid == 0

-- the class of a mount on these terms: whether root is kept comes before whether the mount is read-only
abbrev pub class_of_terms : Terms → Class
class_of_terms terms = if keeps_root terms then RootKept else if terms.ro then ReadOnly else ReadWrite

-- what a verdict comes to
abbrev pub class_of : Result Grant Denial → Class
class_of (Ok grant) = class_of_terms grant.terms
class_of (Err denial) = Denied

-- the place of a class in their order, from the least to the most
abbrev pub rank_of : Class → ℕ
rank_of Denied = 0
rank_of ReadOnly = 1
rank_of ReadWrite = 2
rank_of RootKept = 3

-- the same class
abbrev pub same_class : Class → Class → Bool
same_class class other = rank_of class == rank_of other

-- the greater of two
abbrev pub most_of : Class → Class → Class
most_of class other = if nat_lt (rank_of class) (rank_of other) then other else class
