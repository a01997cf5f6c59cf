-- The texts of a site. (this project's own)
use Rattle.std.specs.Prelude.{ℕ, ◌≤◌, List, [], length, unwrap_or}
use Rattle.std.specs.BTreeMap.{get_by_text}
use Rattle.desk_text.specs.Lines.{longest_text}
use Rattle.desk_exports.specs.declared.profile.Profile.TheVariants.{Two}
use Rattle.desk_policy.specs.PerSite.{by_file, of_file}
use Rattle.desk_policy.specs.declared.per_site.PerSite.{PerSite}
use Rattle.desk_policy.specs.declared.site.ExportsText.{ExportsText}
use Rattle.desk_policy.specs.declared.site.Site.{Site}
use Rattle.desk_policy.specs.declared.site_file.SiteFile.{SiteFile}

-- the texts of a site: of the seven files, and of the exports files, each with the profile by which it is read, under their
-- printed mount points
pub record SiteTexts : Type 0 where
  pub files : PerSite (List ℕ)
  pub exports : List ℕ → ExportsText

-- an empty exports file: no line of it depends on its profile
abbrev pub no_exports : ExportsText
no_exports = record { profile = Two; body = [] }

-- texts of which each is empty
abbrev pub no_texts : SiteTexts
no_texts = record { files = by_file (λ file. []); exports = λ mount. no_exports }

-- the texts that a site has; an exports file that it has not is empty
abbrev pub texts_of : Site → SiteTexts
texts_of site = record {
  files = site.files;
  exports = λ mount. unwrap_or (get_by_text site.exports mount) no_exports;
}

-- the text of one of the seven files
abbrev pub text_of : SiteTexts → SiteFile → List ℕ
text_of texts file = of_file texts.files file

-- no text has more bytes than the limit
pub record HaveLengthsWithin (limit : ℕ) (texts : SiteTexts) : Type 0 where
  pub files : (file : SiteFile) → length (text_of texts file) ≤ limit
  pub exports : (mount : List ℕ) → length (texts.exports mount).body ≤ limit

-- no text is too long to be read
abbrev pub HaveReadableLengths : SiteTexts → Type 0
HaveReadableLengths texts = HaveLengthsWithin longest_text texts
