-- For the law `answered_edits_keep_site_histories`.
use Rattle.std.proofs.Common.{◌≡◌, ◌≢◌, ◌∙◌, sym, ap, subst, inl, inr, refl, ◌+◌, ◌≤◌, ◌++◌, ℕ, Bool, true, false, cond, not, List, [], ◌∷◌, Option, Some, None, All, length, arith, append-nil}
use Rattle.std.specs.Prelude.{codes, find, nat_lt, position, slice_index_or}
use Rattle.std.specs.List.{AllByRecursion, cons_option, position_or_len, prefix_len}
use Rattle.std.specs.Option.{option_map_or}
use Rattle.std.specs.Str.{IsUtf8, bytes_eq}
use Rattle.std.proofs.Math.Path.{fun_ext}
use Rattle.std.proofs.lemmas.Bool.{cases_Bool, cond-false, false≢true, le-ltb}
use Rattle.std.proofs.lemmas.List.Elements.{All-append, All-from_recursion, recursion_from_All}
use Rattle.std.proofs.lemmas.Slice.Eq.{bytes_eq-Decides}
use Rattle.desk_text.specs.Path.{path_text}
use Rattle.desk_tables.specs.FileSystemsText.{is_guarded}
use Rattle.desk_tables.specs.declared.filesystems.Mount.{Mount}
use Rattle.desk_policy.specs.Site.{no_exports}
use Rattle.desk_policy.specs.SiteFault.{exports_name}
use Rattle.desk_policy.specs.SiteFile.{is_of_seven}
use Rattle.desk_core.specs.Edit.{Already, Edit, Pending, Proposed, Refused, Stored, proposal_of, revision_by, revision_of}
use Rattle.desk_core.specs.Head.{Newest, Revision, last_revision, put}
use Rattle.desk_core.specs.History.{IsHistory, newest_of, pending_in, revisions_of, standing_of}
use Rattle.desk_core.specs.Judging.{IsExportsName, is_guarded_file, seven, table_in}
use Rattle.desk_core.specs.Laws.{AnsweredEditsKeepTheNumbers, AnswersAreRight, KnownFilesHaveNames, MayBeAccepted, StandingOfALongerHistory}
use Rattle.desk_core.specs.Site.{IsConsistent, revision_text, site_by, site_in}
use Rattle.desk_core.specs.Standing.{proposals_in}
use Rattle.desk_core.specs.declared.entry.Entry.{Entry}
use Rattle.desk_core.specs.declared.entry.Entry.TheVariants as entry
use Rattle.desk_core.specs.declared.proposal.Proposal.{Proposal}
use Rattle.desk_store.specs.Desk.{IsInUtf8, IsSiteHistory, IsStorable, MayPend}
use Rattle.desk_store.specs.History.{revisions_in}
use Rattle.desk_store.specs.Laws.{AnsweredEditsKeepSiteHistories}
use Rattle.desk_store.proofs.LongerHistory.{others, others_keep, own_more, pending_more, revisions_more}
use Rattle.desk_store.proofs.NextNumbers.{low_newest}

some_more : {X : Type 0} (xs ys : List X) → xs ≢ [] → xs ++ ys ≢ []
some_more [] ys h e = h refl
some_more (x ∷ xs) ys h e = cc

-- ---- the numbers of revisions

-- the base of an edit that takes effect is not the last number
next_number : (history : List Entry) (e : Edit) → All IsStorable (revisions_in history) → MayBeAccepted (standing_of history) e → e.base + 1 ≤ last_revision
unfolding newest_of
next_number history e each may =
    let low = low_newest (revisions_in history) each e.file in
    let base = may.names_newest in
    let room = may.room in
    omega (arith, low, base, room)

-- ---- a guarded file is an exports file

none_pass : (p : Mount → Bool) (xs : List Mount) → ((x : Mount) → p x ≡ false) → prefix_len (λ x. not (p x)) xs ≡ length xs
none_pass p [] h = refl
none_pass p (x ∷ xs) h =
    let rest = none_pass p xs h in
    ap (λ b. cond (not b) (1 + prefix_len (λ y. not (p y)) xs) 0) (h x) ∙ omega (arith, rest)

no_place : (p : Mount → Bool) (xs : List Mount) → ((x : Mount) → p x ≡ false) → position p xs ≡ None
no_place p xs h =
    let all = none_pass p xs h in
    let n = position_or_len p xs in
    cond-false (nat_lt n (length xs)) (Some n) None (le-ltb n (length xs) (omega (arith, all)))

not_of_seven : (rest : List ℕ) → is_of_seven (codes "exports:" ++ rest) ≡ false
not_of_seven rest = refl

none_of_seven : (table : List Mount) (file : List ℕ) → is_of_seven file ≡ true → is_guarded_file table file ≡ false
none_of_seven table file own = ap (λ place. option_map_or (is_guarded table) place false) (no_place (λ mount. bytes_eq (exports_name mount.path) file) table each)
  where
    each : (mount : Mount) → bytes_eq (exports_name mount.path) file ≡ false
    each mount = elim (cases_Bool (bytes_eq (exports_name mount.path) file)) [
      | inl holds_here ↦ absurd (false≢true (sym (not_of_seven (path_text mount.path)) ∙ ap is_of_seven ((bytes_eq-Decides (exports_name mount.path) file).0 holds_here) ∙ own))
      | inr fails_here ↦ fails_here
    ]

-- ---- what an edit stores

-- what is found among proposals that may be pending may be
found_step : (b : Bool) (q : Proposal) (found : Option Proposal) (p : Proposal) → MayPend q → (found ≡ Some p → MayPend p) → cond b (Some q) found ≡ Some p → MayPend p
found_step true q found p own rest e = let same : q ≡ p = cc in subst MayPend same own
found_step false q found p own rest e = rest e

found_kept : (file : List ℕ) (proposals : List Proposal) (p : Proposal) → AllByRecursion MayPend proposals → find (λ (q : Proposal). bytes_eq q.file file) proposals ≡ Some p → MayPend p
found_kept file [] p all e = cc
found_kept file (q ∷ qs) p all e = found_step (bytes_eq q.file file) q (find (λ (o : Proposal). bytes_eq o.file file) qs) p all.0 (found_kept file qs p all.1) e

found_pending : (proposals : List Proposal) (file : List ℕ) (p : Proposal) → All MayPend proposals → proposals_in proposals file ≡ Some p → MayPend p
unfolding proposals_in
found_pending proposals file p all e = found_kept file proposals p (recursion_from_All MayPend proposals all) e

-- revisions of one file with one text write one site
same_site : (newest : Newest) (e : Edit) (author : List ℕ) (approver : Option (List ℕ)) → site_in (put newest (revision_by e author approver)) ≡ site_in (put newest (revision_of e))
same_site newest e author approver = ap site_by (fun_ext (λ file. step (bytes_eq e.file file) (newest file)))
  where
    step : (b : Bool) (o : Option Revision) → option_map_or revision_text (cond b (Some (revision_by e author approver)) o) no_exports ≡ option_map_or revision_text (cond b (Some (revision_of e)) o) no_exports
    step true o = refl
    step false o = refl

module _ (right : AnswersAreRight) (names : KnownFilesHaveNames) (longer : StandingOfALongerHistory) (numbers : AnsweredEditsKeepTheNumbers) where
  revised : (history : List Entry) (e : Edit) (author : List ℕ) (approver : Option (List ℕ)) → IsSiteHistory history → MayBeAccepted (standing_of history) e → IsInUtf8 e → IsUtf8 author
      → All IsUtf8 (cons_option approver []) → IsHistory (history ++ entry.Revised (revision_by e author approver) ∷ []) → IsSiteHistory (history ++ entry.Revised (revision_by e author approver) ∷ [])
  revised history e author approver site may utf8 by approved numbered =
      let r : Revision = revision_by e author approver in
      let storable : IsStorable r = record {
        name = names (site_in (newest_of history)) e.file may.allowed.known;
        from = omega arith;
        rev = next_number history e site.each may;
        file = utf8.file;
        author = by;
        approver = approved;
        body = utf8.text;
        short = may.allowed.short;
      } in
      record {
        numbered = numbered;
        each = subst (All IsStorable) (sym (revisions_more history (entry.Revised r))) (All-append IsStorable (revisions_in history) (r ∷ []) site.each (All-from_recursion IsStorable (r ∷ []) (storable, tt)));
        pending = subst (All MayPend) (sym (pending_more history (entry.Revised r) ∙ append-nil (others r.file (pending_in history)))) (others_keep MayPend r.file (pending_in history) site.pending);
        complete = λ k d below is.
            let file : List ℕ = slice_index_or seven k d in
            some_more (revisions_of file history) _ (site.complete k d below) (sym (own_more file history (entry.Revised r)) ∙ is);
        consistent = subst (λ (n : Newest). IsConsistent (site_in n)) (sym (ap (λ s. s.newest) (longer history (entry.Revised r))))
            (subst IsConsistent (sym (same_site (newest_of history) e author approver)) may.consistent);
      }

  exports_of : (history : List Entry) (e : Edit) → MayBeAccepted (standing_of history) e → is_guarded_file (table_in (newest_of history)) e.file ≡ true → IsExportsName e.file
  exports_of history e may guarded = elim (names (site_in (newest_of history)) e.file may.allowed.known) [
    | inl own ↦ absurd (false≢true (sym (none_of_seven (table_in (newest_of history)) e.file own) ∙ guarded))
    | inr exports ↦ exports
  ]

  proposed : (history : List Entry) (e : Edit) → IsSiteHistory history → MayBeAccepted (standing_of history) e → is_guarded_file (table_in (newest_of history)) e.file ≡ true → IsInUtf8 e
      → IsHistory (history ++ entry.Proposed (proposal_of e) ∷ []) → IsSiteHistory (history ++ entry.Proposed (proposal_of e) ∷ [])
  proposed history e site may guarded utf8 numbered =
      let p : Proposal = proposal_of e in
      let own : MayPend p = record { name = exports_of history e may guarded; file = utf8.file; author = utf8.caller; body = utf8.text; short = may.allowed.short } in
      record {
        numbered = numbered;
        each = subst (All IsStorable) (sym (revisions_more history (entry.Proposed p) ∙ append-nil (revisions_in history))) site.each;
        pending = subst (All MayPend) (sym (pending_more history (entry.Proposed p)))
            (All-append MayPend (others p.file (pending_in history)) (p ∷ []) (others_keep MayPend p.file (pending_in history) site.pending) (All-from_recursion MayPend (p ∷ []) (own, tt)));
        complete = λ k d below is.
            let file : List ℕ = slice_index_or seven k d in
            some_more (revisions_of file history) _ (site.complete k d below) (sym (own_more file history (entry.Proposed p)) ∙ is);
        consistent = subst (λ (n : Newest). IsConsistent (site_in n)) (sym (ap (λ s. s.newest) (longer history (entry.Proposed p)))) site.consistent;
      }

  pub answered_edits_keep_site_histories : AnsweredEditsKeepSiteHistories
  answered_edits_keep_site_histories history e (Already number) site answers utf8 = subst IsSiteHistory (sym (append-nil history)) site
  answered_edits_keep_site_histories history e (Pending number) site answers utf8 = subst IsSiteHistory (sym (append-nil history)) site
  answered_edits_keep_site_histories history e (Refused refused) site answers utf8 = subst IsSiteHistory (sym (append-nil history)) site
  answered_edits_keep_site_histories history e (Stored number) site answers utf8 =
      let it = right history e (Stored number) answers in
      let may = ((it.effect number).0 refl).1.0 in
      let numbered = numbers history e (Stored number) site.numbered answers in
      let P : List Entry → Type 0 = λ added. IsSiteHistory (history ++ added) in
      let Q : List Entry → Type 0 = λ added. IsHistory (history ++ added) in
      elim (it.stored number refl) [
        | inl itself ↦ subst P (sym itself.1) (revised history e e.caller None site may utf8 utf8.caller (All-from_recursion IsUtf8 [] tt) (subst Q itself.1 numbered))
        | inr approval ↦
            let pending = found_pending (pending_in history) e.file approval.0 site.pending approval.1.pending in
            subst P (sym approval.2) (revised history e approval.0.author (Some e.caller) site may utf8 pending.author (All-from_recursion IsUtf8 (e.caller ∷ []) (utf8.caller, tt)) (subst Q approval.2 numbered))
      ]
  answered_edits_keep_site_histories history e (Proposed number) site answers utf8 =
      let it = right history e (Proposed number) answers in
      let may = ((it.proposal number).0 refl).1 in
      let numbered = numbers history e (Proposed number) site.numbered answers in
      let added = it.proposed number refl in
      subst (λ more. IsSiteHistory (history ++ more)) (sym added) (proposed history e site may.accepted may.guarded utf8 (subst (λ more. IsHistory (history ++ more)) added numbered))
