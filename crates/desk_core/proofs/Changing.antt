-- A change of what is in force, made and put.
use Rattle.std.proofs.Common.{◌≡◌, ◌∙◌, ℕ, List, Option, Some, None, Ok, Err, All, ap, refl, subst, sym}
use Rattle.std.specs.Option.{option_map}
use Rattle.desk_text.specs.declared.reading.ReadError.{ReadError}
use Rattle.desk_text.specs.declared.reading.ReadError.TheVariants.{Fault, Memory}
use Rattle.desk_tables.specs.Custodians.{read_custodians}
use Rattle.desk_tables.specs.declared.custodians.Custodian.{Custodian}
use Rattle.desk_tables.specs.declared.filesystems.FsId.{FsId}
use Rattle.desk_policy.specs.Parsing.{read_site_tables}
use Rattle.desk_policy.specs.Policy.{Content}
use Rattle.desk_policy.specs.Site.{SiteTexts}
use Rattle.desk_policy.specs.SiteContents.{AreWritten, ReadsSite}
use Rattle.desk_policy.specs.View.{Builds, IsFaultOf}
use Rattle.desk_policy.specs.declared.parsing.SiteContents.{SiteContents}
use Rattle.desk_policy.specs.declared.parsing.SiteTables.{SiteTables}
use Rattle.desk_policy.specs.declared.row.Row.{Row}
use Rattle.desk_policy.specs.declared.site_fault.SiteFault.{SiteFault}
use Rattle.desk_core.specs.Head.{CanBeKept, newest_in, put}
use Rattle.desk_core.specs.PrivateState.{IsSiteInForce, IsState, MakesChange, MayStand, PutsInForce, custodians_after, tables_after}
use Rattle.desk_core.specs.Site.{IsInForce, site_in}
use Rattle.desk_core.specs.Standing.{CanBePending}
use Rattle.desk_core.specs.State.{PutsSite, RestsOn, changed}
use Rattle.desk_core.specs.Views.{Changed, Kept, Lines, Whole}
use Rattle.desk_core.specs.declared.change.SiteInForce.{SiteInForce}
use Rattle.desk_core.specs.declared.head.Head.{Head}
use Rattle.desk_core.specs.declared.proposal.Proposal.{Proposal}
use Rattle.desk_core.proofs.SiteLemmas.{in_force as policy_in_force}

pub is_no_place : (found : Option ℕ) → option_map (λ place. let fs : FsId = record { 0 = place } in fs) found ≡ None → found ≡ None
is_no_place None is = refl
is_no_place (Some place) is = cc

pub is_place : (found : Option ℕ) (fs : FsId) → option_map (λ place. record { 0 = place }) found ≡ Some fs → found ≡ Some fs.0
is_place None fs is = ap (option_map (λ (f : FsId). f.0)) is
is_place (Some place) fs is = ap (option_map (λ (f : FsId). f.0)) is

-- ---- made

pub site_refused : {V : Type 0} (in_force : V → Content) (texts : SiteTexts) (error : ReadError SiteFault) → ReadsSite (Err error) texts → PutsInForce in_force texts (Err error)
site_refused in_force texts (Fault fault) told = subst (λ read. IsFaultOf read fault) (sym told) refl
site_refused in_force texts Memory told = tt

pub policy_refused : {V : Type 0} (in_force : V → Content) (texts : SiteTexts) (contents : SiteContents) (error : ReadError SiteFault) → AreWritten texts contents → Builds in_force contents.policy (Err error) → PutsInForce in_force texts (Err error)
policy_refused in_force texts contents (Fault fault) written built = subst (λ read. IsFaultOf read fault) (sym written.policy) built
policy_refused in_force texts contents Memory written built = tt

pub site_made : {V : Type 0} (in_force : V → Content) (texts : SiteTexts) (contents : SiteContents) (view : V) → AreWritten texts contents → Builds in_force contents.policy (Ok view)
    → IsSiteInForce in_force texts (record { custodians = contents.custodians; tables = contents.tables; view = view })
site_made in_force texts contents view written built = record {
  custodians = written.custodians;
  tables = written.tables;
  view = subst (IsInForce texts) (sym built.0) (policy_in_force texts contents.policy written.policy built.1);
}

pub whole_refused : {V P : Type 0} (in_force : V → Content) (part_rows : P → List Row) (state : Kept V) (file : List ℕ) (texts : SiteTexts) (error : ReadError SiteFault) → PutsInForce in_force texts (Err error) → MakesChange in_force part_rows state file texts (Err error)
whole_refused in_force part_rows state file texts (Fault fault) told = told
whole_refused in_force part_rows state file texts Memory told = tt

pub whole_put : {V : Type 0} (in_force : V → Content) (state : Kept V) (texts : SiteTexts) (made : SiteInForce V) → IsSiteInForce in_force texts made → PutsSite in_force state (Whole made) texts
whole_put in_force state texts made is = record { view = is.view; rests_on = (is.custodians, is.tables) }

-- ---- put

pub may_stand : {V : Type 0} (content : Content) (old new : SiteTexts) (change : Changed V) → RestsOn content old new change → MayStand content change
may_stand content old new (Whole made) rests_on = tt
may_stand content old new (Lines fs rows) rests_on = rests_on.0

custodians_put : {V : Type 0} (content : Content) (old new : SiteTexts) (change : Changed V) (custodians : List Custodian) → RestsOn content old new change → read_custodians old.files.custodians ≡ Ok custodians
    → read_custodians new.files.custodians ≡ Ok (custodians_after custodians change)
custodians_put content old new (Whole made) custodians rests_on is = rests_on.0
custodians_put content old new (Lines fs rows) custodians rests_on is = rests_on.1 ∙ is

tables_put : {V : Type 0} (content : Content) (old new : SiteTexts) (change : Changed V) (tables : SiteTables) → RestsOn content old new change → read_site_tables old ≡ Ok tables → read_site_tables new ≡ Ok (tables_after tables change)
tables_put content old new (Whole made) tables rests_on is = rests_on.1
tables_put content old new (Lines fs rows) tables rests_on is = rests_on.2 ∙ is

-- the policy in force after a change, whose revision is the newest of its file
pub view_revised : {V : Type 0} (in_force : V → Content) (state : Kept V) (change : Changed V) (head : Head) (heads' : List Head) (content' : Content) → PutsSite in_force state change (site_in (put (newest_in state.heads) head))
    → newest_in heads' ≡ put (newest_in state.heads) head → content' ≡ changed in_force (in_force state.view) change → IsInForce (site_in (newest_in heads')) content'
view_revised in_force state change head heads' content' puts newest view =
    subst (IsInForce (site_in (newest_in heads'))) (sym view) (subst (λ texts. IsInForce texts (changed in_force (in_force state.view) change)) (sym (ap site_in newest)) puts.view)

-- a state after a change, whose revision is the newest of its file
pub revised : {V : Type 0} (in_force : V → Content) (state : Kept V) (custodians custodians' : List Custodian) (tables tables' : SiteTables) (change : Changed V) (head : Head) (heads' : List Head) (proposals' : List Proposal) (content' : Content)
    → read_custodians (site_in (newest_in state.heads)).files.custodians ≡ Ok custodians → read_site_tables (site_in (newest_in state.heads)) ≡ Ok tables
    → PutsSite in_force state change (site_in (put (newest_in state.heads) head)) → newest_in heads' ≡ put (newest_in state.heads) head → All CanBeKept heads' → All CanBePending proposals'
    → custodians' ≡ custodians_after custodians change → tables' ≡ tables_after tables change → content' ≡ changed in_force (in_force state.view) change → IsState heads' proposals' content' custodians' tables'
revised in_force state custodians custodians' tables tables' change head heads' proposals' content' custodians_are tables_are puts newest kept pending c t v =
    let old = site_in (newest_in state.heads) in
    let new = site_in (put (newest_in state.heads) head) in
    let site : site_in (newest_in heads') ≡ new = ap site_in newest in
    record {
      in_force = view_revised in_force state change head heads' content' puts newest v;
      custodians_are = ap (λ (texts : SiteTexts). read_custodians texts.files.custodians) site ∙ custodians_put (in_force state.view) old new change custodians puts.rests_on custodians_are ∙ ap Ok (sym c);
      tables_are = ap read_site_tables site ∙ tables_put (in_force state.view) old new change tables puts.rests_on tables_are ∙ ap Ok (sym t);
      kept = kept;
      pending = pending;
    }
