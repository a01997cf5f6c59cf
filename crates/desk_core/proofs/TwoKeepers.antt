-- Behind each revision of a guarded file stand two custodians.
use Rattle.std.proofs.Common.{◌≡◌, ◌∙◌, ◌⊎◌, inl, inr, sym, ap, subst, refl, ℕ, ◌++◌, Bool, true, false, cond, not, List, [], ◌∷◌, Option, Some, None, suc, arith, append-nil}
use Rattle.std.specs.List.{Contains}
use Rattle.std.specs.Str.{bytes_eq}
use Rattle.desk_core.specs.Edit.{Already, Answer, Edit, Pending, Proposed, Refused, Stored, approved_revision, proposal_of, revision_of}
use Rattle.desk_core.specs.Head.{Revision}
use Rattle.desk_core.specs.History.{Exchange, IsAnswered, Run, added_if, history_after, history_through, pending_in, standing_of}
use Rattle.desk_core.specs.Judging.{is_guarded_file, table_in}
use Rattle.desk_core.specs.Laws.{GuardedFilesHaveTwoKeepers, IsSeconded, MayTakeEffect, NeedsNoSecond}
use Rattle.desk_core.specs.Standing.{Standing, proposals_in}
use Rattle.desk_core.specs.declared.entry.Entry.{Entry}
use Rattle.desk_core.specs.declared.entry.Entry.TheVariants as entry
use Rattle.desk_core.specs.declared.proposal.Proposal.{Proposal}
use Rattle.desk_core.proofs.Histories.{pending_pushed}
use Rattle.desk_core.proofs.ProposalLemmas.{found, others}
use Rattle.desk_core.proofs.RightAnswers.{answers_are_right}

-- one is among others, by recursion
abbrev IsIn : {X : Type 0} → X → List X → Type 0
IsIn x [] = ⊥
IsIn x (y ∷ ys) = (y ≡ x) ⊎ IsIn x ys

contained : {X : Type 0} (x : X) (xs : List X) → IsIn x xs → Contains xs x
contained x [] h = absurd h
contained x (y ∷ ys) (inl is) = (0, omega arith, is)
contained x (y ∷ ys) (inr later) = let at = contained x ys later in (suc at.0, omega (arith, at.1), at.2)

in_others : (p : Proposal) (gone : List ℕ) (proposals : List Proposal) → IsIn p (others gone proposals) → IsIn p proposals
in_others p gone [] h = h
in_others p gone (q ∷ qs) h = step (not (bytes_eq q.file gone)) h (λ later. in_others p gone qs later)
  where
    step : (b : Bool) → IsIn p (cond b (q ∷ others gone qs) (others gone qs)) → (IsIn p (others gone qs) → IsIn p qs) → IsIn p (q ∷ qs)
    step true (inl is) deeper = inl is
    step true (inr later) deeper = inr (deeper later)
    step false later deeper = inr (deeper later)

in_pushed : (p q : Proposal) (proposals : List Proposal) → IsIn p (proposals ++ q ∷ []) → IsIn p proposals ⊎ (q ≡ p)
in_pushed p q [] (inl is) = inr is
in_pushed p q [] (inr none) = absurd none
in_pushed p q (r ∷ rs) (inl is) = inl (inl is)
in_pushed p q (r ∷ rs) (inr later) = elim (in_pushed p q rs later) [
  | inl here ↦ inl (inr here)
  | inr is ↦ inr is
]

found_in : (file : List ℕ) (proposals : List Proposal) (p : Proposal) → found file proposals ≡ Some p → IsIn p proposals
found_in file [] p h = cc
found_in file (q ∷ qs) p h = step (bytes_eq q.file file) h (λ later. found_in file qs p later)
  where
    step : (b : Bool) → cond b (Some q) (found file qs) ≡ Some p → (found file qs ≡ Some p → IsIn p qs) → IsIn p (q ∷ qs)
    step true h deeper = let same : q ≡ p = cc in inl same
    step false h deeper = inr (deeper h)

pending_found : (history : List Entry) (file : List ℕ) (p : Proposal) → (standing_of history).proposals file ≡ Some p → IsIn p (pending_in history)
unfolding proposals_in
pending_found history file p h = found_in file (pending_in history) p h

-- what is pending after an entry was pending before, or is that entry
pending_before : (history : List Entry) (stored : Entry) (p : Proposal) → IsIn p (pending_in (history ++ stored ∷ [])) → IsIn p (pending_in history) ⊎ (stored ≡ entry.Proposed p)
pending_before history (entry.Revised r) p h =
    inl (in_others p r.file (pending_in history) (subst (IsIn p) (pending_pushed history (entry.Revised r) ∙ append-nil (others r.file (pending_in history))) h))
pending_before history (entry.Proposed q) p h =
    elim (in_pushed p q (others q.file (pending_in history)) (subst (IsIn p) (pending_pushed history (entry.Proposed q)) h)) [
      | inl old ↦ inl (in_others p q.file (pending_in history) old)
      | inr is ↦ inr (ap entry.Proposed is)
    ]

proposed_is : {p q : Proposal} → entry.Proposed p ≡ entry.Proposed q → p ≡ q
proposed_is e = cc

revised_not : {r : Revision} {q : Proposal} → entry.Revised r ≡ entry.Proposed q → ⊥
revised_not e = cc

-- an answer as proposed, and its proposal
abbrev WasAnswered : Edit → Option Answer → Proposal → Type 0
WasAnswered e answer p = (number : ℕ) × (answer ≡ Some (Proposed number)) × (p ≡ proposal_of e)

-- what is pending after an exchange was pending before, or is its proposal
pending_after_one : (history : List Entry) (e : Edit) (answer : Option Answer) → IsAnswered history e answer → (p : Proposal)
    → IsIn p (pending_in (history ++ added_if (standing_of history) e answer)) → IsIn p (pending_in history) ⊎ WasAnswered e answer p
pending_after_one history e None answered p h = inl (subst (λ hs. IsIn p (pending_in hs)) (append-nil history) h)
pending_after_one history e (Some (Already number)) answered p h = inl (subst (λ hs. IsIn p (pending_in hs)) (append-nil history) h)
pending_after_one history e (Some (Pending number)) answered p h = inl (subst (λ hs. IsIn p (pending_in hs)) (append-nil history) h)
pending_after_one history e (Some (Refused refused)) answered p h = inl (subst (λ hs. IsIn p (pending_in hs)) (append-nil history) h)
pending_after_one history e (Some (Stored number)) answered p h =
    let right = answers_are_right history e (Stored number) answered in
    let P : List Entry → Type 0 = λ added. IsIn p (pending_in (history ++ added)) in
    elim (right.stored number refl) [
      | inl itself ↦ elim (pending_before history (entry.Revised (revision_of e)) p (subst P itself.1 h)) [ inl old ↦ inl old | inr is ↦ absurd (revised_not is) ]
      | inr approval ↦ elim (pending_before history (entry.Revised (approved_revision approval.0 e)) p (subst P approval.2 h)) [ inl old ↦ inl old | inr is ↦ absurd (revised_not is) ]
    ]
pending_after_one history e (Some (Proposed number)) answered p h =
    let right = answers_are_right history e (Proposed number) answered in
    let P : List Entry → Type 0 = λ added. IsIn p (pending_in (history ++ added)) in
    elim (pending_before history (entry.Proposed (proposal_of e)) p (subst P (right.proposed number refl) h)) [
      | inl old ↦ inl old
      | inr is ↦ inr (number, refl, sym (proposed_is is))
    ]

abbrev Was : List Entry → List Exchange → Proposal → Type 0
Was old before p = IsIn p (pending_in old) ⊎ ((x : Exchange) × (number : ℕ) × IsIn x before × (x.answer ≡ Some (Proposed number)) × (p ≡ proposal_of x.edit))

was_proposed : (old new : List Entry) (before after : List Exchange) → Run old (before ++ after) new → (p : Proposal) → IsIn p (pending_in (history_through old before)) → Was old before p
was_proposed old new [] after run p h = inl h
was_proposed old new (x ∷ xs) after (answered, rest) p h = elim (was_proposed (history_after old x) new xs after rest p h) [
  | inr later ↦ inr (later.0, later.1, inr later.2, later.3, later.4)
  | inl first ↦ elim (pending_after_one old x.edit x.answer answered p first) [
    | inl old_one ↦ inl old_one
    | inr now ↦ inr (x, now.0, inl refl, now.1, now.2)
  ]
]

answered_there : (old new : List Entry) (before after : List Exchange) (x : Exchange) → Run old (before ++ x ∷ after) new → IsAnswered (history_through old before) x.edit x.answer
answered_there old new [] after x (answered, rest) = answered
answered_there old new (b ∷ bs) after x (answered, rest) = answered_there (history_after old b) new bs after x rest

second_there : (standing : Standing) (e : Edit) → is_guarded_file (table_in standing.newest) e.file ≡ true → NeedsNoSecond standing e → (proposal : Proposal) × IsSeconded standing e proposal
second_there standing e guarded (inl denied) = cc
second_there standing e guarded (inr both) = both.1

pub guarded_files_have_two_keepers : GuardedFilesHaveTwoKeepers
guarded_files_have_two_keepers old new before after e number run guarded =
    let x : Exchange = record { edit = e; answer = Some (Stored number) } in
    let at : List Entry = history_through old before in
    let right = answers_are_right at e (Stored number) (answered_there old new before after x run) in
    let may : MayTakeEffect (standing_of at) e = ((right.effect number).0 refl).1 in
    let second = second_there (standing_of at) e guarded may.1 in
    let was = was_proposed old new before (x ∷ after) run second.0 (pending_found at e.file second.0 second.1.pending) in (
      second.0,
      second.1,
      elim was [
        | inl old_one ↦ inl (contained second.0 (pending_in old) old_one)
        | inr answered ↦ inr (answered.0, answered.1, contained answered.0 before answered.2, answered.3, answered.4)
      ],
    )
