-- The state of the first revisions of a site, or what the site is refused for.
use Rattle.std.proofs.Common.{◌≡◌, ◌∙◌, sym, ap, subst, inr, true, false, List, [], None, Result, Ok, Err, IfOk, IfErr, OnOk, All}
use Rattle.std.specs.Prelude.{option_map}
use Rattle.desk_tables.specs.Laws.{MountPointsReadBack, TablesAreInOrder}
use Rattle.desk_tables.specs.declared.filesystems.Mount.{Mount}
use Rattle.desk_policy.specs.Site.{SiteTexts}
use Rattle.desk_policy.specs.SiteFault.{exports_name}
use Rattle.desk_policy.specs.View.{HasFault}
use Rattle.desk_policy.specs.declared.site_fault.SiteFault.{SiteFault}
use Rattle.desk_policy.specs.SiteFile.{is_of_seven}
use Rattle.desk_core.specs.Head.{CanBeKept, Revision, newest_in}
use Rattle.desk_core.specs.Site.{IsConsistent, IsSound, site_in}
use Rattle.desk_core.specs.Views.{Kept}
use Rattle.desk_store.specs.Create.{IsFaultOfSeven, IsFaultOrMemory, IsFirstState, IsSevenOrMemory, IsUtf8Revision, RefusesSite, first_long, first_long_mount, first_revisions, mounts_of, revisions_with}
use Rattle.desk_store.specs.declared.error.CreateError.{CreateError}
use Rattle.desk_store.specs.declared.error.CreateError.TheVariants as refused
use Rattle.desk_store.proofs.FirstHistory.{can_be_kept, listed_ascend, listed_read_back, newest_first, site_history}
use Rattle.desk_store.proofs.FirstSite.{fault_of_site, no_seven_fault, other_fault, seven_fault, site_reads}

pub heads_kept : (texts : SiteTexts) (heads : List Revision) (ms : List Mount) → heads ≡ revisions_with texts ms → ms ≡ mounts_of texts → first_long texts ≡ None → first_long_mount texts (mounts_of texts) ≡ None → All CanBeKept heads
heads_kept texts heads ms made listed short rest =
    subst (All CanBeKept) (sym (made ∙ ap (revisions_with texts) listed)) (can_be_kept texts (mounts_of texts) short rest)

module _ (texts : SiteTexts) (heads : List Revision) (made : heads ≡ first_revisions texts) where
  pub if_made : {V : Type 0} → TablesAreInOrder → MountPointsReadBack → first_long texts ≡ None → first_long_mount texts (mounts_of texts) ≡ None → All IsUtf8Revision heads → (r : Result (Kept V) CreateError)
      → IfOk r (λ state. state.heads ≡ heads) → IfOk r (λ state. IsConsistent (site_in (newest_in heads))) → IfOk r (λ state. IsFirstState texts state.heads)
  if_made order back short rest utf8 (Ok state) same sound =
      let up = listed_ascend order texts in
      let consistent = subst (λ hs. IsConsistent (site_in (newest_in hs))) made sound in
      record {
        heads_are = same ∙ made;
        stored = site_history texts (mounts_of texts) up (listed_read_back back texts) short rest (subst (All IsUtf8Revision) made utf8) consistent;
        newest = ap newest_in (same ∙ made) ∙ newest_first texts (mounts_of texts) up;
        consistent = subst IsSound (site_reads texts) consistent;
      }
  if_made order back short rest utf8 (Err e) same sound = tt

  refuses : first_long texts ≡ None → first_long_mount texts (mounts_of texts) ≡ None → (e : CreateError) → IsFaultOrMemory (site_in (newest_in heads)) e → RefusesSite texts e
  refuses short rest (refused.Fault fault) h = (
    short,
    fault_of_site texts fault (subst (λ hs. HasFault (site_in (newest_in hs)) fault) made h),
    inr (ap (option_map (λ (m : Mount). exports_name m.path)) rest),
  )
  refuses short rest refused.Memory h = tt
  refuses short rest (refused.TooLarge file) h = absurd h
  refuses short rest (refused.Store fault) h = absurd h
  refuses short rest refused.Schema h = absurd h

  pub if_refused : {V : Type 0} → first_long texts ≡ None → first_long_mount texts (mounts_of texts) ≡ None → (r : Result (Kept V) CreateError) → IfErr r (IsFaultOrMemory (site_in (newest_in heads))) → IfErr r (RefusesSite texts)
  if_refused short rest (Ok state) h = tt
  if_refused short rest (Err e) h = refuses short rest e h

-- the heads of the seven files alone
module _ (texts : SiteTexts) (heads : List Revision) (made : heads ≡ revisions_with texts []) where
  pub none_of_seven : IsConsistent (site_in (newest_in heads)) → (fault : SiteFault) → IsFaultOfSeven texts fault → ⊥
  none_of_seven sound = no_seven_fault texts (subst (λ hs. IsConsistent (site_in (newest_in hs))) made sound)

  pub none_but : {F : Type 0} (found : SiteFault) → HasFault (site_in (newest_in heads)) found → (r : Result F CreateError) → OnOk r (is_of_seven found.file ≡ false)
      → OnOk r ((fault : SiteFault) → IsFaultOfSeven texts fault → ⊥)
  none_but found has (Ok x) not = other_fault texts found (subst (λ hs. HasFault (site_in (newest_in hs)) found) made has) not
  none_but found has (Err e) not = tt

  pub if_seven : {F : Type 0} (found : SiteFault) → HasFault (site_in (newest_in heads)) found → (r : Result F CreateError) → IfErr r (λ e. (e ≡ refused.Fault found) × (is_of_seven found.file ≡ true))
      → IfErr r (IsSevenOrMemory texts)
  if_seven found has (Ok x) h = tt
  if_seven found has (Err e) h =
      subst (IsSevenOrMemory texts) (sym h.0) (seven_fault texts found (subst (λ hs. HasFault (site_in (newest_in hs)) found) made has) h.1, h.1)
