-- What is made of an edit of which no case holds.
use Rattle.std.proofs.Common.{◌≡◌, ◌∙◌, sym, ap, subst, refl, ℕ, ◌+◌, ◌<◌, ◌≤◌, Bool, true, false, cond, List, [], ◌∷◌, Some, None, Ok, Err, All, inl, inr, length, arith}
use Rattle.std.specs.Prelude.{find}
use Rattle.std.specs.List.{AllByRecursion}
use Rattle.std.specs.Str.{bytes_eq}
use Rattle.std.proofs.lemmas.List.Elements.{recursion_from_All}
use Rattle.desk_text.specs.declared.reading.ReadError.{ReadError}
use Rattle.desk_text.specs.declared.reading.ReadError.TheVariants.{Fault, Memory}
use Rattle.desk_policy.specs.Policy.{Content}
use Rattle.desk_policy.specs.Site.{SiteTexts}
use Rattle.desk_policy.specs.View.{HasFault}
use Rattle.desk_policy.specs.declared.row.Row.{Row}
use Rattle.desk_policy.specs.declared.site_fault.SiteFault.{SiteFault}
use Rattle.desk_core.specs.Edit.{Edit, revision_of}
use Rattle.desk_core.specs.Head.{CanBeKept, Revision, last_revision, longest_revision, newest_in, newest_number, put}
use Rattle.desk_core.specs.History.{entry_file}
use Rattle.desk_core.specs.Judging.{AnswersBySite, answer_of, entry_of, first_case}
use Rattle.desk_core.specs.PrivateState.{Accepts, MakesChange, refusal_of, site_with}
use Rattle.desk_core.specs.Site.{IsConsistent, revision_text, site_in}
use Rattle.desk_core.specs.Standing.{Standing, standing_in}
use Rattle.desk_core.specs.State.{IsChangeOf, PutsEntry, PutsRevision, PutsSite, standing}
use Rattle.desk_core.specs.Views.{Kept, Ready}
use Rattle.desk_core.specs.declared.entry.Entry.{Entry}
use Rattle.desk_core.specs.declared.entry.Entry.TheVariants as entry
use Rattle.desk_core.specs.declared.head.Head.{Head}
use Rattle.desk_core.specs.declared.proposal.Proposal.{Proposal}
use Rattle.desk_core.proofs.FirstCase.{without_case}
use Rattle.desk_core.proofs.Foreseeing.{foreseen_sites_are_judged}
use Rattle.desk_core.proofs.Seconds.{ways}
use Rattle.desk_core.proofs.SiteLemmas.{same_site}

rev_bound : (heads : List Head) (file : List ℕ) → AllByRecursion CanBeKept heads → newest_number (newest_in heads file) ≤ last_revision
unfolding newest_in
rev_bound [] file kept = omega arith
rev_bound (h ∷ hs) file kept = step (bytes_eq h.file file) kept.0.to (rev_bound hs file kept.1)
  where
    step : (b : Bool) → h.rev ≤ last_revision → newest_number (newest_in hs file) ≤ last_revision → newest_number (cond b (Some h) (find (λ x. bytes_eq x.file file) hs)) ≤ last_revision
    step true own rest = own
    step false own rest = rest

-- where no case holds the base is below the last number, and the text is short
pub within : (heads : List Head) (proposals : List Proposal) (e : Edit) → All CanBeKept heads → first_case (standing_in heads proposals) e ≡ None → (e.base < last_revision) × (length e.text ≤ longest_revision)
within heads proposals e kept none =
    let free = without_case (standing_in heads proposals) e none in
    let bound = rev_bound heads e.file (recursion_from_All CanBeKept heads kept) in
    (omega (arith, free.1, free.2, bound), free.0.short)

by_entry : (site : SiteTexts) (stored own : Entry) → own ≡ stored → IsConsistent site → AnswersBySite site stored (answer_of own)
by_entry site stored (entry.Revised r) is sound = (ap answer_of is, sound)
by_entry site stored (entry.Proposed p) is sound = (ap answer_of is, sound)

-- what is to be stored of an edit is of its file
file_of_entry : (stands : Standing) (e : Edit) → entry_file (entry_of stands e) ≡ e.file
file_of_entry stands e = elim (ways stands e) [
  | inl itself ↦ ap entry_file itself.1
  | inr guarded ↦ elim guarded [ inl approval ↦ ap entry_file approval.1.2 | inr proposal ↦ ap entry_file proposal.2 ]
]

module _ {V : Type 0} (in_force : V → Content) (state : Kept V) (e : Edit) (ready : Ready V) where
  abbrev own_site : SiteTexts
  own_site = site_in (put (newest_in state.heads) (revision_of e))

  -- a revision with the text of the edit
  puts : (r : Revision) → r.file ≡ e.file → r.rev ≡ e.base + 1 → revision_text r ≡ revision_text (revision_of e) → e.base < last_revision → length e.text ≤ longest_revision
      → PutsSite in_force state ready.change own_site → PutsRevision in_force state ready r
  puts r file rev text below short site =
      let same : site_in (put (newest_in state.heads) r) ≡ own_site = same_site (newest_in state.heads) r (revision_of e) file text in
      let body : length r.body ≡ length e.text = ap (λ t. length t.body) text in
      record {
        can_be_kept = record { from = omega (arith, rev); to = omega (arith, rev, below); short = omega (arith, body, short) };
        site = subst (PutsSite in_force state ready.change) (sym same) site;
      }

  pub accepted : All CanBeKept state.heads → first_case (standing state) e ≡ None → ready.entry ≡ entry_of (standing state) e → length state.heads < ready.room → length state.proposals < ready.proposal_room
      → IsChangeOf (in_force state.view).table e.file ready.change → PutsSite in_force state ready.change (site_with state e.file e.text) → Accepts in_force state e (Ok ready)
  accepted kept none is room proposal_room own foreseen =
      let site : PutsSite in_force state ready.change own_site = subst (PutsSite in_force state ready.change) (foreseen_sites_are_judged (newest_in state.heads) e) foreseen in
      let w = within state.heads state.proposals e kept none in
      let P : Entry → Type 0 = PutsEntry in_force state ready in
      let puts_own : P (entry_of (standing state) e) = elim (ways (standing state) e) [
        | inl itself ↦ subst P (sym itself.1) (puts (revision_of e) refl refl refl w.0 w.1 site)
        | inr guarded ↦ elim guarded [
          | inl approval ↦ subst P (sym approval.1.2) (puts _ refl refl refl w.0 w.1 site)
          | inr proposal ↦ subst P (sym proposal.2) (omega (arith, w.0))
        ]
      ] in
      let file : entry_file ready.entry ≡ e.file = ap entry_file is ∙ file_of_entry (standing state) e in
      let change : IsChangeOf (in_force state.view).table (entry_file ready.entry) ready.change = subst (λ f. IsChangeOf (in_force state.view).table f ready.change) (sym file) own in
      (by_entry own_site (entry_of (standing state) e) ready.entry is site.view.consistent, is, record { room = room; proposal_room = proposal_room; own = change; puts = subst P (sym is) puts_own })

-- the fault of the site with the edit's text
pub not_accepted : {V P : Type 0} (in_force : V → Content) (part_rows : P → List Row) (state : Kept V) (e : Edit) (error : ReadError SiteFault)
    → MakesChange in_force part_rows state e.file (site_with state e.file e.text) (Err error) → Accepts in_force state e (Err (refusal_of error))
not_accepted in_force part_rows state e (Fault fault) has = (fault, refl, subst (λ texts. HasFault texts fault) (foreseen_sites_are_judged (newest_in state.heads) e) has)
not_accepted in_force part_rows state e Memory has = tt
