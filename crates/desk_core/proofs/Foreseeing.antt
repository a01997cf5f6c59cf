-- What is foreseen of a file's text, for `State::foresee`; and that it is the site by which an edit with that text is judged.
use Rattle.std.proofs.Common.{◌≤◌, ℕ, List, Ok, Err, All, arith, length, refl}
use Rattle.desk_text.specs.Lines.{longest_text}
use Rattle.desk_text.specs.declared.reading.ReadError.{ReadError}
use Rattle.desk_text.specs.declared.reading.ReadError.TheVariants.{Fault, Memory}
use Rattle.desk_policy.specs.Policy.{Content}
use Rattle.desk_policy.specs.Site.{HaveReadableLengths}
use Rattle.desk_policy.specs.declared.site_fault.SiteFault.{SiteFault}
use Rattle.desk_core.specs.Edit.{revision_of}
use Rattle.desk_core.specs.Foresight.{Foresees, ForeseesSite, revision_with, with_text}
use Rattle.desk_core.specs.Head.{CanBeKept, longest_revision, newest_in}
use Rattle.desk_core.specs.Laws.{ForeseenSitesAreJudged}
use Rattle.desk_core.specs.PrivateState.{IsSiteInForce, PutsInForce, ShowsLines, site_with}
use Rattle.desk_core.specs.Site.{site_in}
use Rattle.desk_core.specs.Views.{Kept}
use Rattle.desk_core.specs.declared.change.SiteInForce.{SiteInForce}
use Rattle.desk_core.specs.declared.head.Head.{Head}
use Rattle.desk_core.proofs.SiteLemmas.{put_readable, same_site}

module _ {V : Type 0} (in_force : V → Content) (state : Kept V) (file text : List ℕ) where
  pub lines_faulty : (fs : ℕ) (error : ReadError SiteFault) → ShowsLines in_force state fs (site_with state file text) (Err error) → Foresees in_force state file text (Err error)
  lines_faulty fs (Fault fault) told = told
  lines_faulty fs Memory told = tt

  pub site_faulty : (error : ReadError SiteFault) → PutsInForce in_force (site_with state file text) (Err error) → Foresees in_force state file text (Err error)
  site_faulty (Fault fault) told = told
  site_faulty Memory told = tt

  pub whole_faulty : (error : ReadError SiteFault) → PutsInForce in_force (site_with state file text) (Err error) → ForeseesSite in_force state file text (Err error)
  whole_faulty (Fault fault) told = told
  whole_faulty Memory told = tt

  pub whole_foreseen : (made : SiteInForce V) → IsSiteInForce in_force (site_with state file text) made → ForeseesSite in_force state file text (Ok (record { view = made.view; tables = made.tables }))
  whole_foreseen made is = record { view = is.view; tables = is.tables }

-- a text that is as short as that of an edit can be read
pub text_readable : (heads : List Head) (file text : List ℕ) → All CanBeKept heads → length text ≤ longest_revision → HaveReadableLengths (site_in (with_text (newest_in heads) file text))
text_readable heads file text kept short =
    let own : length text ≤ longest_text = omega (arith, short) in
    put_readable heads (revision_with file text) kept own

pub foreseen_sites_are_judged : ForeseenSitesAreJudged
foreseen_sites_are_judged newest e = same_site newest (revision_with e.file e.text) (revision_of e) refl refl
