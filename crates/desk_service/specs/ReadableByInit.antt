-- Newest revisions as `init` reads them: by profile 2. (this project's own)
use Rattle.std.specs.Prelude.{Result, Ok, Err}
use Rattle.std.specs.Option.{option_map}
use Rattle.desk_text.specs.declared.reading.ReadError.{ReadError}
use Rattle.desk_text.specs.declared.reading.ReadError.TheVariants.{Fault, Memory}
use Rattle.desk_exports.specs.declared.profile.Profile.TheVariants.{Two}
use Rattle.desk_policy.specs.View.{HasFault}
use Rattle.desk_policy.specs.declared.site_fault.SiteFault.{SiteFault}
use Rattle.desk_core.specs.Head.{Newest, Revision}
use Rattle.desk_core.specs.Site.{IsConsistent, site_in}

-- a revision, to be read by profile 2
abbrev pub second : Revision → Revision
second revision = record revision { profile = Two }

-- newest revisions, each to be read by profile 2
abbrev pub by_second : Newest → Newest
by_second newest file = option_map second (newest file)

-- the site that newest revisions write is consistent, or has this fault; out of memory says nothing
abbrev pub Reads : {T : Type 0} → Newest → Result T (ReadError SiteFault) → Type 0
Reads newest (Ok read) = IsConsistent (site_in newest)
Reads newest (Err (Fault fault)) = HasFault (site_in newest) fault
Reads newest (Err Memory) = Unit {0}
