-- The site that newest revisions write, when a site is consistent, and when its policy is in force. (this project's own)
use Rattle.std.specs.Prelude.{◌≡◌, ◌++◌, ℕ, List, [], Result, Ok, Err, codes}
use Rattle.desk_policy.specs.declared.site.ExportsText.{ExportsText}
use Rattle.std.specs.Option.{option_map_or}
use Rattle.std.specs.Result.{result_unwrap_or}
use Rattle.desk_tables.specs.Custodians.{read_custodians}
use Rattle.desk_tables.specs.declared.custodians.Custodian.{Custodian}
use Rattle.desk_policy.specs.Contradiction.{HasNoContradiction}
use Rattle.desk_policy.specs.Parsing.{read_site}
use Rattle.desk_policy.specs.Policy.{Content}
use Rattle.desk_policy.specs.PerSite.{by_file}
use Rattle.desk_policy.specs.Site.{SiteTexts, no_exports}
use Rattle.desk_policy.specs.SiteFile.{file_name}
use Rattle.desk_policy.specs.declared.site_fault.SiteFault.{SiteFault}
use Rattle.desk_core.specs.Head.{Newest, Revision}

-- the text of a revision, and the profile by which it is read
abbrev pub revision_text : Revision → ExportsText
revision_text revision = record { profile = revision.profile; body = revision.body }

-- the text in force of a file: that of its newest revision, and empty if it has none
abbrev pub text_in : Newest → List ℕ → ExportsText
text_in newest file = option_map_or revision_text (newest file) no_exports

-- the site whose files have these texts; only of an exports file the profile counts
abbrev pub site_by : (List ℕ → ExportsText) → SiteTexts
site_by text = record {
  files = by_file (λ file. (text (file_name file)).body);
  exports = λ mount. text (codes "exports:" ++ mount);
}

-- the site in force: of each file the text in force
abbrev pub site_in : Newest → SiteTexts
site_in newest = site_by (text_in newest)

-- the custodians of a site; none if their text is faulty
abbrev pub custodians_of : SiteTexts → List Custodian
custodians_of texts = result_unwrap_or (read_custodians texts.files.custodians) []

abbrev pub policy_read : Result Content SiteFault → Content
policy_read (Ok policy) = policy
policy_read (Err fault) = record { table = []; rows = []; warnings = []; origins = [] }

-- the policy of a site; an empty one if a file is faulty
abbrev pub policy_of : SiteTexts → Content
policy_of texts = policy_read (read_site texts)

abbrev pub IsSound : Result Content SiteFault → Type 0
IsSound (Ok policy) = HasNoContradiction policy
IsSound (Err fault) = ⊥

-- no file of a site is faulty, and no two of its lines contradict each other
abbrev pub IsConsistent : SiteTexts → Type 0
IsConsistent texts = IsSound (read_site texts)

-- a policy with the file systems and the lines of another, and the same names of lines; its warnings may be older
pub record HasLinesOf (policy content : Content) : Type 0 where
  pub table : content.table ≡ policy.table
  pub rows : content.rows ≡ policy.rows
  pub origins : content.origins ≡ policy.origins

-- the policy of a consistent site is in force: its file systems and its lines
pub record IsInForce (texts : SiteTexts) (content : Content) : Type 0 where
  pub consistent : IsConsistent texts
  pub lines : HasLinesOf (policy_of texts) content
