-- What would be in force if a file had another text. (this project's own)
use Rattle.std.specs.Prelude.{◌≡◌, ◌<◌, ℕ, List, [], None, Some, Result, Ok, Err, length}
use Rattle.desk_text.specs.declared.reading.ReadError.{ReadError}
use Rattle.desk_text.specs.declared.reading.ReadError.TheVariants.{Fault, Memory}
use Rattle.desk_exports.specs.declared.profile.Profile.TheVariants.{Two}
use Rattle.desk_policy.specs.Parsing.{read_site_tables}
use Rattle.desk_policy.specs.Policy.{Content, content_of_lines, rows_of, with_lines_of}
use Rattle.desk_policy.specs.Site.{SiteTexts}
use Rattle.desk_policy.specs.View.{HasFault}
use Rattle.desk_policy.specs.declared.site_fault.SiteFault.{SiteFault}
use Rattle.desk_policy.specs.SiteFile.{exports_place}
use Rattle.desk_core.specs.Head.{Newest, Revision, newest_in, put}
use Rattle.desk_core.specs.Site.{IsInForce, site_in}
use Rattle.desk_core.specs.Views.{Kept}
use Rattle.desk_core.specs.declared.foresight.ForeseenSite.{ForeseenSite}
use Rattle.desk_core.specs.declared.foresight.Foresight.{Foresight}
use Rattle.desk_core.specs.declared.foresight.Foresight.TheVariants.{Lines, Whole}

-- a revision of a file with this text, read by profile 2 as that of an edit is; its number and its author say nothing
abbrev pub revision_with : List ℕ → List ℕ → Revision
revision_with file text = record { file = file; rev = 1; author = []; approver = None; profile = Two; body = text }

-- the newest revisions, but that a file has this text
abbrev pub with_text : Newest → List ℕ → List ℕ → Newest
with_text newest file text = put newest (revision_with file text)

-- a policy with the file systems of another one, that has lines in this one alone
pub record HasLinesAlone (content : Content) (fs : ℕ) (lines : Content) : Type 0 where
  pub file_system : fs < length content.table
  pub alone : lines ≡ content_of_lines content.table fs (rows_of lines fs)

-- Of the exports file of a listed mount point the lines of its file system are foreseen alone; of any other file the whole site.
abbrev pub IsForesightOf : {V : Type 0} → (V → Content) → Content → List ℕ → Foresight V → Type 0
IsForesightOf in_force content file (Whole view) = exports_place content.table file ≡ None
IsForesightOf in_force content file (Lines fs view) = (exports_place content.table file ≡ Some fs.0) × HasLinesAlone content fs.0 (in_force view)

-- the policy that is foreseen, where this one is in force
abbrev pub foreseen_content : {V : Type 0} → (V → Content) → Content → Foresight V → Content
foreseen_content in_force content (Whole view) = in_force view
foreseen_content in_force content (Lines fs view) = with_lines_of content fs.0 (in_force view)

-- What is foreseen of a file's text is the policy of the site with it, in force; or the site's fault is reported; out of memory says
-- nothing.
abbrev pub Foresees : {V : Type 0} → (V → Content) → Kept V → List ℕ → List ℕ → Result (Foresight V) (ReadError SiteFault) → Type 0
Foresees in_force state file text (Ok foresight) =
    IsForesightOf in_force (in_force state.view) file foresight
    × IsInForce (site_in (with_text (newest_in state.heads) file text)) (foreseen_content in_force (in_force state.view) foresight)
Foresees in_force state file text (Err (Fault fault)) = HasFault (site_in (with_text (newest_in state.heads) file text)) fault
Foresees in_force state file text (Err Memory) = Unit {0}

-- a site in force: its policy, and the tables that its exports files are read with
pub record IsForeseenSite {V : Type 0} (in_force : V → Content) (texts : SiteTexts) (site : ForeseenSite V) : Type 0 where
  pub view : IsInForce texts (in_force site.view)
  pub tables : read_site_tables texts ≡ Ok site.tables

-- what is told of a site: it, in force; or its fault; out of memory says nothing
abbrev pub TellsSite : {V : Type 0} → (V → Content) → SiteTexts → Result (ForeseenSite V) (ReadError SiteFault) → Type 0
TellsSite in_force texts (Ok site) = IsForeseenSite in_force texts site
TellsSite in_force texts (Err (Fault fault)) = HasFault texts fault
TellsSite in_force texts (Err Memory) = Unit {0}

-- What is foreseen of a whole site is the site with a file's text, in force, or its fault.
abbrev pub ForeseesSite : {V : Type 0} → (V → Content) → Kept V → List ℕ → List ℕ → Result (ForeseenSite V) (ReadError SiteFault) → Type 0
ForeseesSite in_force state file text = TellsSite in_force (site_in (with_text (newest_in state.heads) file text))
