-- What may be done in a directory. (this project's own, over exports(5))
use Rattle.std.specs.Prelude.{ℕ, ◌==◌, not, Bool, true, false, List, [], Option, Some, Result, Ok, Err, codes, if◌then◌else◌}
use Rattle.std.specs.List.{list_any}
use Rattle.std.specs.Option.{option_map}
use Rattle.std.specs.Str.{bytes_eq}
use Rattle.desk_exports.specs.Flavours.{flavour_of, same_flavour}
use Rattle.desk_exports.specs.declared.entry.Terms.{Terms}
use Rattle.desk_policy.specs.ActingAs.{act_as}
use Rattle.desk_policy.specs.Verdict.{Grant}
use Rattle.desk_policy.specs.declared.verdict.Denial.{Denial}
use Rattle.desk_expect.specs.declared.action.Action.{Action}
use Rattle.desk_expect.specs.declared.action.Action.TheVariants as action

-- the action of a word: `mount`, `write`, `root`, or that of a flavour
abbrev pub action_of : List ℕ → Option Action
action_of word =
    if bytes_eq word (codes "mount") then Some action.Mount
    else if bytes_eq word (codes "write") then Some action.Write
    else if bytes_eq word (codes "root") then Some action.Root
    else option_map action.Flavour (flavour_of word)

-- uid 0 acts as uid 0
abbrev pub keeps_root : Terms → Bool
keeps_root terms = (act_as terms (record { uid = 0; gids = [] })).uid == 0

-- A mount on these terms allows it: the mount itself always; to write if it is not read-only; root if uid 0 acts as uid 0; a
-- flavour if it is accepted.
abbrev pub is_within : Action → Terms → Bool
is_within action.Mount terms = true
is_within action.Write terms = not terms.ro
is_within action.Root terms = keeps_root terms
is_within (action.Flavour flavour) terms = list_any (λ other. same_flavour other flavour) terms.flavours

-- a verdict allows it: the mount is granted on terms that do
abbrev pub is_allowed_by : Action → Result Grant Denial → Bool
is_allowed_by action (Ok grant) = is_within action grant.terms
is_allowed_by action (Err denial) = false
