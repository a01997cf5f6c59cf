-- What the private contracts of the lengths of a site's texts cite.
use Rattle.std.specs.Prelude.{ℕ, Bool, List, length, nat_le}
use Rattle.std.specs.List.{list_all}
use Rattle.desk_policy.specs.PerSite.{of_file}
use Rattle.desk_policy.specs.SiteFile.{all_files}
use Rattle.desk_policy.specs.declared.per_site.PerSite.{PerSite}
use Rattle.desk_policy.specs.declared.site.ExportsText.{ExportsText}

-- a text has at most so many bytes
abbrev pub is_within : ℕ → List ℕ → Bool
is_within limit text = nat_le (length text) limit

-- the text of an exports file has at most so many bytes
abbrev pub has_body_within : ℕ → ExportsText → Bool
has_body_within limit text = is_within limit text.body

-- each of the seven files has at most so many bytes
abbrev pub are_files_within : ℕ → PerSite (List ℕ) → Bool
are_files_within limit files = list_all (λ file. is_within limit (of_file files file)) all_files
