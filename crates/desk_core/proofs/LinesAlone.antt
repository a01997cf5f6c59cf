-- A view of the lines of one file system alone, for `State::view_of_lines`.
use Rattle.std.proofs.Common.{◌≡◌, ◌≢◌, ◌∙◌, ◌<◌, ℕ, zero, suc, List, [], Some, Result, Ok, Err, ap, arith, inl, inr, length, get_or, refl, replicate, subst, sym}
use Rattle.std.specs.Prelude.{Contains, slice_get, slice_set}
use Rattle.std.specs.Option.{option_map}
use Rattle.std.proofs.lemmas.Bool.{cases_eq}
use Rattle.std.proofs.lemmas.List.{get_or-set_other, get_or-set_same, length-replicate}
use Rattle.desk_text.specs.Address.{number_of}
use Rattle.desk_text.specs.declared.reading.ReadError.{ReadError}
use Rattle.desk_text.specs.declared.reading.ReadError.TheVariants.{Fault, Memory}
use Rattle.desk_tables.specs.declared.filesystems.Mount.{Mount}
use Rattle.desk_policy.specs.Contradiction.{AreConsistent, IsLeastIn}
use Rattle.desk_policy.specs.Parsing.{read_site}
use Rattle.desk_policy.specs.Policy.{Content, content_of_lines, rows_of}
use Rattle.desk_policy.specs.SiteFault.{contradiction_fault, exports_name}
use Rattle.desk_policy.specs.Site.{SiteTexts}
use Rattle.desk_policy.specs.View.{Builds, IsLeastContradiction, NamesLeast}
use Rattle.desk_policy.specs.declared.row.Row.{Row}
use Rattle.desk_policy.specs.declared.site_fault.SiteFault.{SiteFault}
use Rattle.desk_policy.proofs.SiteOrigins.{no_origins}
use Rattle.desk_core.specs.PrivateState.{AreLinesOf, ReadsRows, ShowsLines}
use Rattle.desk_core.specs.Site.{IsInForce, policy_read}
use Rattle.desk_core.specs.Views.{Kept}

none_there : {X : Type 0} (n i : ℕ) → get_or (replicate {A = List X} n []) i [] ≡ []
none_there zero i = refl
none_there (suc n) zero = refl
none_there (suc n) (suc i) = none_there n i

module _ (table : List Mount) (fs : ℕ) (rows : List Row) where
  abbrev alone : Content
  alone = content_of_lines table fs rows

  own : fs < length table → rows_of alone fs ≡ rows
  own within = get_or-set_same (replicate (length table) []) fs rows [] (subst (λ n. fs < n) (sym (length-replicate (length table) [])) within)

  no_other : (place : ℕ) → place ≢ fs → rows_of alone place ≡ []
  no_other place ne = get_or-set_other (replicate (length table) []) fs place rows [] ne ∙ none_there (length table) place

  -- their least contradiction is one of these lines
  names : (content : Content) → content.table ≡ table → fs < length table → (fault : SiteFault) → IsLeastContradiction alone fault → NamesLeast content fs rows fault
  names content same within fault is = elim (cases_eq is.fs fs) [
    | inl eq ↦ record {
      found = is.found;
      named = ap (λ ms. option_map (λ (mount : Mount). contradiction_fault (exports_name mount.path) is.found) (slice_get ms fs)) same
          ∙ subst (λ n. option_map (λ (mount : Mount). contradiction_fault (exports_name mount.path) is.found) (slice_get table n) ≡ Some fault) eq is.named;
      least = subst (λ rs. IsLeastIn rs is.found.line is.found.other (number_of is.found.address)) (ap (rows_of alone) eq ∙ own within) is.here;
    }
    | inr ne ↦
        let here = subst (λ rs. IsLeastIn rs is.found.line is.found.other (number_of is.found.address)) (no_other is.fs ne) is.here in
        absurd (none_in here.is.row here.is.has_row)
  ]
    where
      none_in : (row : Row) → Contains [] row → ⊥
      none_in row has = let below = has.1 in absurd (omega arith)

-- the lines of a site are not those of several texts
policy_unnamed : (texts : SiteTexts) (read : Result Content SiteFault) → read_site texts ≡ read → (policy_read read).origins ≡ []
policy_unnamed texts (Ok policy) is = no_origins texts policy is
policy_unnamed texts (Err fault) is = refl

unnamed : (texts : SiteTexts) (content : Content) → IsInForce texts content → content.origins ≡ []
unnamed texts content force = force.lines.origins ∙ policy_unnamed texts (read_site texts) refl

-- the view that was built, or the fault of the site
pub lines_shown : {V : Type 0} (in_force : V → Content) (state : Kept V) (fs : ℕ) (texts : SiteTexts) (rows : List Row) (result : Result V (ReadError SiteFault))
    → AreLinesOf in_force state fs texts rows → Builds in_force (content_of_lines (in_force state.view).table fs rows) result → ShowsLines in_force state fs texts result
lines_shown in_force state fs texts rows (Ok view) are built =
    let own_rows = own (in_force state.view).table fs rows are.file_system in
    let consistent = subst AreConsistent own_rows (built.1 fs) in
    let same : rows_of (in_force view) fs ≡ rows = ap (λ c. rows_of c fs) built.0 ∙ own_rows in
    let force = (are.puts consistent).view in (
      record { file_system = are.file_system; alone = built.0 ∙ ap (content_of_lines (in_force state.view).table fs) (sym same) },
      record {
        consistent = force.consistent;
        lines = record {
          table = force.lines.table;
          rows = ap (slice_set (in_force state.view).rows fs) same ∙ force.lines.rows;
          origins = ap (λ (c : Content). c.origins) built.0 ∙ sym (unnamed texts _ force) ∙ force.lines.origins;
        };
      },
    )
lines_shown in_force state fs texts rows (Err (Fault fault)) are built = are.contradict fault (names (in_force state.view).table fs rows (in_force state.view) refl are.file_system fault built)
lines_shown in_force state fs texts rows (Err Memory) are built = tt

-- no lines were read
pub none_shown : {V : Type 0} (in_force : V → Content) (state : Kept V) (fs : ℕ) (texts : SiteTexts) (error : ReadError SiteFault) → ReadsRows in_force state fs texts (Err error) → ShowsLines in_force state fs texts (Err error)
none_shown in_force state fs texts (Fault fault) told = told
none_shown in_force state fs texts Memory told = tt
