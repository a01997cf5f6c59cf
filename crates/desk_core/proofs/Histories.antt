-- Histories with one entry more.
use Rattle.std.proofs.Common.{◌≡◌, ◌∙◌, sym, ap, subst, inl, inr, refl, ℕ, zero, suc, ◌+◌, ◌-◌, ◌<◌, ◌++◌, ◌||◌, Bool, true, false, cond, not, List, [], ◌∷◌, Option, Some, None, All, map, length, get_or, arith, append-nil, length-append}
use Rattle.std.specs.Prelude.{slice_get}
use Rattle.std.specs.List.{AllByRecursion, cons_option, filter, filter_map, list_any, range_with_len}
use Rattle.std.specs.Str.{bytes_eq}
use Rattle.std.proofs.Math.Path.{fun_ext}
use Rattle.std.proofs.lemmas.Bool.{cases_Bool}
use Rattle.std.proofs.lemmas.List.Elements.{All-append, All-from_recursion, filter-append, filter_map-append, recursion_from_All}
use Rattle.std.proofs.lemmas.List.FromFn.{get_or-range_with_len}
use Rattle.std.proofs.lemmas.Slice.Eq.{bytes_eq-Decides}
use Rattle.desk_core.specs.Edit.{Already, Pending, Proposed, Refused, Stored, approved_revision, proposal_of, revision_of}
use Rattle.desk_core.specs.Head.{Newest, Revision, newest_number, put}
use Rattle.desk_core.specs.History.{IsHistory, entry_file, newest_of, pending_in, proposal_in, revision_in, revisions_of}
use Rattle.desk_core.specs.Laws.{AnsweredEditsKeepTheNumbers, StandingOfALongerHistory}
use Rattle.desk_core.specs.Standing.{proposals_in}
use Rattle.desk_core.specs.declared.entry.Entry.{Entry}
use Rattle.desk_core.specs.declared.entry.Entry.TheVariants as entry
use Rattle.desk_core.specs.declared.proposal.Proposal.{Proposal}
use Rattle.desk_core.proofs.ProposalLemmas.{others, others_keep, proposals_last, proposals_without}
use Rattle.desk_core.proofs.RightAnswers.{answers_are_right}

abbrev last : List Revision → Option Revision
last xs = slice_get xs (length xs - 1)

at_end : (xs : List Revision) (r : Revision) → slice_get (xs ++ r ∷ []) (length xs) ≡ Some r
at_end [] r = refl
at_end (x ∷ xs) r = at_end xs r

last_more : (xs : List Revision) (r : Revision) → last (xs ++ r ∷ []) ≡ Some r
last_more xs r =
    let n : length (xs ++ r ∷ []) - 1 ≡ length xs = omega (arith, length-append xs (r ∷ [])) in
    ap (λ i. slice_get (xs ++ r ∷ []) i) n ∙ at_end xs r

-- the revisions of a file, with one entry more
revisions_more : (file : List ℕ) (history : List Entry) (stored : Entry)
    → revisions_of file (history ++ stored ∷ []) ≡ revisions_of file history ++ filter (λ r. bytes_eq r.file file) (cons_option (revision_in stored) [])
revisions_more file history stored =
    ap (filter (λ r. bytes_eq r.file file)) (filter_map-append revision_in history (stored ∷ []))
    ∙ filter-append (λ r. bytes_eq r.file file) (filter_map revision_in history) (cons_option (revision_in stored) [])

same_revisions : (file : List ℕ) (history : List Entry) (proposal : Proposal) → revisions_of file (history ++ entry.Proposed proposal ∷ []) ≡ revisions_of file history
same_revisions file history proposal = revisions_more file history (entry.Proposed proposal) ∙ append-nil (revisions_of file history)

-- with one revision more that one is the newest of its file
newest_revised : (history : List Entry) (r : Revision) → newest_of (history ++ entry.Revised r ∷ []) ≡ put (newest_of history) r
unfolding newest_of
newest_revised history r = fun_ext (λ file. ap last (revisions_more file history (entry.Revised r)) ∙ step (bytes_eq r.file file) (revisions_of file history))
  where
    step : (b : Bool) (xs : List Revision) → last (xs ++ cond b (r ∷ []) []) ≡ cond b (Some r) (last xs)
    step true xs = last_more xs r
    step false xs = ap last (append-nil xs)

-- and with a proposal more it stays
newest_proposed : (history : List Entry) (proposal : Proposal) → newest_of (history ++ entry.Proposed proposal ∷ []) ≡ newest_of history
unfolding newest_of
newest_proposed history proposal = fun_ext (λ file. ap last (same_revisions file history proposal))

-- the proposals that are pending, with one entry more: those of other files, and that of the entry, if it is one
any_pushed : (t : Entry → Bool) (xs : List Entry) (x : Entry) → list_any t (xs ++ x ∷ []) ≡ (list_any t xs || t x)
any_pushed t [] x = or_none (t x)
  where
    or_none : (b : Bool) → (b || false) ≡ b
    or_none true = refl
    or_none false = refl
any_pushed t (y ∷ ys) x = ap (λ b. t y || b) (any_pushed t ys x) ∙ or_assoc (t y) (list_any t ys) (t x)
  where
    or_assoc : (a b c : Bool) → (a || (b || c)) ≡ ((a || b) || c)
    or_assoc true b c = refl
    or_assoc false b c = refl

flipped : (a b : List ℕ) → bytes_eq a b ≡ bytes_eq b a
flipped a b = by_cases (bytes_eq a b) (bytes_eq b a) (λ h. (bytes_eq-Decides b a).1 (sym ((bytes_eq-Decides a b).0 h))) (λ h. (bytes_eq-Decides a b).1 (sym ((bytes_eq-Decides b a).0 h)))
  where
    by_cases : (x y : Bool) → (x ≡ true → y ≡ true) → (y ≡ true → x ≡ true) → x ≡ y
    by_cases true y f g = sym (f refl)
    by_cases false true f g = g refl
    by_cases false false f g = refl

none_pending : (b : Bool) (rest : List Proposal) → cons_option (cond b None None) rest ≡ rest
none_pending true rest = refl
none_pending false rest = refl

stays_or_goes : (b c : Bool) (p : Proposal) (rest more : List Proposal) → b ≡ c → cons_option (cond b None (Some p)) (rest ++ more) ≡ cond (not c) (p ∷ rest) rest ++ more
stays_or_goes true true p rest more e = refl
stays_or_goes true false p rest more e = cc
stays_or_goes false true p rest more e = cc
stays_or_goes false false p rest more e = refl

one_pushed : (a b : Bool) (p : Proposal) (file : List ℕ) (rest more : List Proposal) → b ≡ bytes_eq p.file file
    → cons_option (cond (a || b) None (Some p)) (others file rest ++ more) ≡ others file (cons_option (cond a None (Some p)) rest) ++ more
one_pushed true b p file rest more e = refl
one_pushed false b p file rest more e = stays_or_goes b (bytes_eq p.file file) p (others file rest) more e

pub pending_pushed : (history : List Entry) (stored : Entry) → pending_in (history ++ stored ∷ []) ≡ others (entry_file stored) (pending_in history) ++ cons_option (proposal_in stored) []
pending_pushed [] (entry.Revised r) = refl
pending_pushed [] (entry.Proposed p) = refl
pending_pushed (entry.Revised r ∷ xs) stored =
    none_pending (list_any (λ o. bytes_eq (entry_file o) r.file) (xs ++ stored ∷ [])) (pending_in (xs ++ stored ∷ []))
    ∙ pending_pushed xs stored
    ∙ ap (λ ps. others (entry_file stored) ps ++ cons_option (proposal_in stored) []) (sym (none_pending (list_any (λ o. bytes_eq (entry_file o) r.file) xs) (pending_in xs)))
pending_pushed (entry.Proposed p ∷ xs) stored =
    ap (λ b. cons_option (cond b None (Some p)) (pending_in (xs ++ stored ∷ []))) (any_pushed (λ o. bytes_eq (entry_file o) p.file) xs stored)
    ∙ ap (cons_option (cond (list_any (λ o. bytes_eq (entry_file o) p.file) xs || bytes_eq (entry_file stored) p.file) None (Some p))) (pending_pushed xs stored)
    ∙ one_pushed (list_any (λ o. bytes_eq (entry_file o) p.file) xs) (bytes_eq (entry_file stored) p.file) p (entry_file stored) (pending_in xs) (cons_option (proposal_in stored) []) (flipped (entry_file stored) p.file)

-- with one entry more
pub standing_of_a_longer_history : StandingOfALongerHistory
standing_of_a_longer_history history (entry.Revised r) =
    ap (λ n. record { newest = n; proposals = proposals_in (pending_in (history ++ entry.Revised r ∷ [])) }) (newest_revised history r)
    ∙ ap (λ ps. record { newest = put (newest_of history) r; proposals = ps })
    (ap proposals_in (pending_pushed history (entry.Revised r) ∙ append-nil (others r.file (pending_in history))) ∙ proposals_without (pending_in history) r.file)
standing_of_a_longer_history history (entry.Proposed p) =
    ap (λ n. record { newest = n; proposals = proposals_in (pending_in (history ++ entry.Proposed p ∷ [])) }) (newest_proposed history p)
    ∙ ap (λ ps. record { newest = newest_of history; proposals = ps }) (ap proposals_in (pending_pushed history (entry.Proposed p)) ∙ proposals_last (pending_in history) p)

number_get : (xs : List Revision) (i : ℕ) → newest_number (slice_get xs i) ≡ get_or (map (λ r. r.rev) xs) i 0
number_get [] i = refl
number_get (x ∷ xs) zero = refl
number_get (x ∷ xs) (suc i) = number_get xs i

-- the number of the newest of numbered revisions is how many there are
count_is : (xs : List Revision) → map (λ r. r.rev) xs ≡ range_with_len 1 (length xs) → newest_number (last xs) ≡ length xs
count_is [] e = refl
count_is (x ∷ xs) e =
    let n = length (x ∷ xs) in
    let below : n - 1 < n = omega arith in
    let at = get_or-range_with_len 1 n (n - 1) 0 below in
    number_get (x ∷ xs) (n - 1) ∙ ap (λ ns. get_or ns (n - 1) 0) e ∙ at ∙ omega arith

range_more : (a n : ℕ) → range_with_len a n ++ (a + n) ∷ [] ≡ range_with_len a (n + 1)
range_more a zero = let e : a + 0 ≡ a = omega arith in ap (λ k. k ∷ []) e
range_more a (suc n) =
    let e : suc n + 1 ≡ suc (n + 1) = omega arith in
    let f : a + suc n ≡ a + 1 + n = omega arith in
    ap (λ k. a ∷ (range_with_len (a + 1) n ++ k ∷ [])) f ∙ ap (λ ns. a ∷ ns) (range_more (a + 1) n) ∙ ap (range_with_len a) (sym e)

map_more : (xs : List Revision) (r : Revision) → map (λ x. x.rev) (xs ++ r ∷ []) ≡ map (λ x. x.rev) xs ++ r.rev ∷ []
map_more [] r = refl
map_more (x ∷ xs) r = ap (λ ns. x.rev ∷ ns) (map_more xs r)

abbrev AreNumbered : List Revision → Type 0
AreNumbered xs = map (λ r. r.rev) xs ≡ range_with_len 1 (length xs)

numbered_more : (xs : List Revision) (r : Revision) → AreNumbered xs → r.rev ≡ length xs + 1 → AreNumbered (xs ++ r ∷ [])
numbered_more xs r h e =
    let n : length xs + 1 ≡ length (xs ++ r ∷ []) = omega (arith, length-append xs (r ∷ [])) in
    let same : r.rev ≡ 1 + length xs = omega (arith, e) in
    map_more xs r ∙ ap (λ ns. ns ++ r.rev ∷ []) h ∙ ap (λ k. range_with_len 1 (length xs) ++ k ∷ []) same ∙ range_more 1 (length xs) ∙ ap (range_with_len 1) n

-- a revision with the next number keeps the numbers
numbers_more : (history : List Entry) (r : Revision) → IsHistory history → newest_number (newest_of history r.file) + 1 ≡ r.rev → (file : List ℕ) → AreNumbered (revisions_of file (history ++ entry.Revised r ∷ []))
unfolding newest_of
numbers_more history r h is file = elim (cases_Bool (bytes_eq r.file file)) [
  | inl own ↦
      let same : r.file ≡ file = (bytes_eq-Decides r.file file).0 own in
      let count = count_is (revisions_of r.file history) (h.numbered r.file) in
      let base : r.rev ≡ length (revisions_of r.file history) + 1 = omega (arith, is, count) in
      let next : r.rev ≡ length (revisions_of file history) + 1 = base ∙ ap (λ f. length (revisions_of f history) + 1) same in
      let more : revisions_of file (history ++ entry.Revised r ∷ []) ≡ revisions_of file history ++ r ∷ [] =
      revisions_more file history (entry.Revised r) ∙ ap (λ b. revisions_of file history ++ cond b (r ∷ []) []) own in
      subst AreNumbered (sym more) (numbered_more (revisions_of file history) r (h.numbered file) next)
  | inr other ↦
      let same : revisions_of file (history ++ entry.Revised r ∷ []) ≡ revisions_of file history =
      revisions_more file history (entry.Revised r) ∙ ap (λ b. revisions_of file history ++ cond b (r ∷ []) []) other ∙ append-nil (revisions_of file history) in
      subst AreNumbered (sym same) (h.numbered file)
]

abbrev Follows : Newest → Proposal → Type 0
Follows newest proposal = newest_number (newest proposal.file) ≡ proposal.base

-- proposals of other files follow the newest revisions also with one revision more
others_follow : (newest : Newest) (r : Revision) (proposals : List Proposal) → AllByRecursion (Follows newest) proposals → AllByRecursion (Follows (put newest r)) (others r.file proposals)
others_follow newest r [] all = tt
others_follow newest r (p ∷ ps) all = step (bytes_eq p.file r.file) refl (others_follow newest r ps all.1)
  where
    step : (b : Bool) → bytes_eq p.file r.file ≡ b → AllByRecursion (Follows (put newest r)) (others r.file ps) → AllByRecursion (Follows (put newest r)) (cond (not b) (p ∷ others r.file ps) (others r.file ps))
    step true is rest = rest
    step false is rest = (ap (λ b. newest_number (cond b (Some r) (newest p.file))) (flipped r.file p.file ∙ is) ∙ all.0, rest)

-- an entry that follows the newest revision
pub keeps_history : (history : List Entry) (r : Revision) → IsHistory history → newest_number (newest_of history r.file) + 1 ≡ r.rev → IsHistory (history ++ entry.Revised r ∷ [])
keeps_history history r h is = record {
  numbered = numbers_more history r h is;
  follow =
      let P : Newest → Type 0 = λ newest. All (Follows newest) (others r.file (pending_in history)) in
      let rest : P (newest_of (history ++ entry.Revised r ∷ [])) =
      subst P (sym (newest_revised history r)) (All-from_recursion _ _ (others_follow (newest_of history) r (pending_in history) (recursion_from_All _ (pending_in history) h.follow))) in
      let same : others r.file (pending_in history) ≡ pending_in (history ++ entry.Revised r ∷ []) = sym (pending_pushed history (entry.Revised r) ∙ append-nil (others r.file (pending_in history))) in
      subst (All (Follows (newest_of (history ++ entry.Revised r ∷ [])))) same rest;
}

pub keeps_proposed : (history : List Entry) (p : Proposal) → IsHistory history → newest_number (newest_of history p.file) ≡ p.base → IsHistory (history ++ entry.Proposed p ∷ [])
keeps_proposed history p h is = record {
  numbered = λ file. subst AreNumbered (sym (same_revisions file history p)) (h.numbered file);
  follow =
      let P : Newest → Type 0 = λ newest. All (Follows newest) (others p.file (pending_in history) ++ p ∷ []) in
      let rest : P (newest_of history) = All-append (Follows (newest_of history)) (others p.file (pending_in history)) (p ∷ []) (others_keep (Follows (newest_of history)) p.file (pending_in history) h.follow) (All-from_recursion (Follows (newest_of history)) (p ∷ []) (is, tt)) in
      subst (All (Follows (newest_of (history ++ entry.Proposed p ∷ [])))) (sym (pending_pushed history (entry.Proposed p))) (subst P (sym (newest_proposed history p)) rest);
}

pub answered_edits_keep_the_numbers : AnsweredEditsKeepTheNumbers
answered_edits_keep_the_numbers history e (Already number) h answered = subst IsHistory (sym (append-nil history)) h
answered_edits_keep_the_numbers history e (Pending number) h answered = subst IsHistory (sym (append-nil history)) h
answered_edits_keep_the_numbers history e (Refused refused) h answered = subst IsHistory (sym (append-nil history)) h
answered_edits_keep_the_numbers history e (Stored number) h answered =
    let right = answers_are_right history e (Stored number) answered in
    let may = ((right.effect number).0 refl).1 in
    let P : List Entry → Type 0 = λ added. IsHistory (history ++ added) in
    elim (right.stored number refl) [
      | inl itself ↦ subst P (sym itself.1) (keeps_history history (revision_of e) h (ap (λ n. n + 1) may.0.names_newest))
      | inr approval ↦ subst P (sym approval.2) (keeps_history history (approved_revision approval.0 e) h (ap (λ n. n + 1) may.0.names_newest))
    ]
answered_edits_keep_the_numbers history e (Proposed number) h answered =
    let right = answers_are_right history e (Proposed number) answered in
    let may = ((right.proposal number).0 refl).1 in
    subst (λ added. IsHistory (history ++ added)) (sym (right.proposed number refl)) (keeps_proposed history (proposal_of e) h may.accepted.names_newest)
