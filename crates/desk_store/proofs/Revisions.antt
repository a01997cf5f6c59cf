-- Lists of revisions, of each file numbered 1, 2, .. without a gap: those of a history.
use Rattle.std.proofs.Common.{◌≡◌, ◌∙◌, sym, ap, subst, refl, ℕ, ◌+◌, ◌-◌, ◌<◌, ◌≤◌, List, [], ◌∷◌, Option, All, map, length, get_or, arith}
use Rattle.std.specs.Prelude.{Contains, filter, slice_get}
use Rattle.std.specs.List.{range_with_len}
use Rattle.std.specs.Str.{bytes_eq}
use Rattle.std.proofs.lemmas.List.Elements.{All-from_recursion}
use Rattle.std.proofs.lemmas.List.FromFn.{get_or-range_with_len}
use Rattle.desk_core.specs.Head.{Newest, Revision, newest_number}
use Rattle.desk_core.specs.History.{IsHistory, newest_of, pending_in}
use Rattle.desk_core.specs.declared.entry.Entry.{Entry}
use Rattle.desk_core.specs.declared.entry.Entry.TheVariants.{Revised}
use Rattle.desk_core.specs.declared.proposal.Proposal.{Proposal}
use Rattle.desk_store.specs.History.{revisions_in}
use Rattle.desk_store.proofs.LongerHistory.{none_pending}
use Rattle.desk_store.proofs.Members.{default, same_lists}
use Rattle.std.proofs.lemmas.List.{get_or-map}

-- the revisions of a file, and the newest of each file
abbrev pub own : List ℕ → List Revision → List Revision
own file xs = filter (λ r. bytes_eq r.file file) xs

abbrev pub last : List Revision → Option Revision
last xs = slice_get xs (length xs - 1)

abbrev pub newest_by : List Revision → Newest
newest_by xs file = last (own file xs)

abbrev pub AreNumbered : List Revision → Type 0
AreNumbered xs = map (λ r. r.rev) xs ≡ range_with_len 1 (length xs)

abbrev pub IsNumbered : List Revision → Type 0
IsNumbered xs = (file : List ℕ) → AreNumbered (own file xs)

pub newest_is : (history : List Entry) → newest_of history ≡ newest_by (revisions_in history)
unfolding newest_of
newest_is history = refl

-- ---- a history of revisions alone

pub revised_back : (xs : List Revision) → revisions_in (map Revised xs) ≡ xs
revised_back [] = refl
revised_back (x ∷ xs) = ap (λ ys. x ∷ ys) (revised_back xs)

pub none_of_revised : (xs : List Revision) → pending_in (map Revised xs) ≡ []
none_of_revised [] = refl
none_of_revised (x ∷ xs) = none_pending _ (pending_in (map Revised xs)) ∙ none_of_revised xs

pub numbered_in : (xs : List Revision) → IsHistory (map Revised xs) → IsNumbered xs
numbered_in xs h = λ file. subst (λ ys. AreNumbered (own file ys)) (revised_back xs) (h.numbered file)

pub history_of : (xs : List Revision) → IsNumbered xs → IsHistory (map Revised xs)
history_of xs h =
    let Follows : Proposal → Type 0 = λ proposal. newest_number (newest_of (map Revised xs) proposal.file) ≡ proposal.base in
    record {
      numbered = λ file. subst (λ ys. AreNumbered (own file ys)) (sym (revised_back xs)) (h file);
      follow = subst (All Follows) (sym (none_of_revised xs)) (All-from_recursion Follows [] tt);
    }

pub newest_revised : (xs : List Revision) → newest_of (map Revised xs) ≡ newest_by xs
newest_revised xs = newest_is (map Revised xs) ∙ ap newest_by (revised_back xs)

-- ---- numbered revisions

pub rev_at : (xs : List Revision) (k : ℕ) (d : Revision) → AreNumbered xs → k < length xs → (get_or xs k d).rev ≡ 1 + k
rev_at xs k d numbered below = sym (get_or-map (λ (r : Revision). r.rev) xs k d 0 below) ∙ ap (λ ns. get_or ns k 0) numbered ∙ get_or-range_with_len 1 (length xs) k 0 below

-- two with one number are one
pub one_number : (xs : List Revision) (a b : Revision) → AreNumbered xs → Contains xs a → Contains xs b → a.rev ≡ b.rev → a ≡ b
one_number xs a b numbered (i, at_i, is_i) (j, at_j, is_j) same =
    let first : a.rev ≡ 1 + i = ap (λ (r : Revision). r.rev) (sym is_i) ∙ rev_at xs i a numbered at_i in
    let second : b.rev ≡ 1 + j = ap (λ (r : Revision). r.rev) (sym is_j) ∙ rev_at xs j b numbered at_j in
    let place : i ≡ j = omega (arith, first, second, same) in
    sym is_i ∙ ap (λ k. get_or xs k a) place ∙ default xs j a b at_j ∙ is_j

no_longer : (xs ys : List Revision) → AreNumbered xs → AreNumbered ys → ((r : Revision) → Contains xs r → Contains ys r) → length xs ≤ length ys
no_longer [] ys mine other all = omega arith
no_longer (a ∷ xs) ys mine other all =
    let n = length (a ∷ xs) in
    let end : Revision = get_or (a ∷ xs) (n - 1) a in
    let below : n - 1 < n = omega arith in
    let there = all end (n - 1, below, default (a ∷ xs) (n - 1) end a below) in
    let here : end.rev ≡ 1 + (n - 1) = rev_at (a ∷ xs) (n - 1) a mine below in
    let its : end.rev ≡ 1 + there.0 = ap (λ (r : Revision). r.rev) (sym there.2) ∙ rev_at ys there.0 end other there.1 in
    omega (arith, here, its, there.1)

-- numbered revisions with the same elements are the same
pub same_numbered : (xs ys : List Revision) → AreNumbered xs → AreNumbered ys → ((r : Revision) → Contains xs r → Contains ys r) → ((r : Revision) → Contains ys r → Contains xs r) → xs ≡ ys
same_numbered xs ys mine other all back =
    let one = no_longer xs ys mine other all in
    let two = no_longer ys xs other mine back in
    same_lists xs ys (omega (arith, one, two)) (λ k d below.
    let r : Revision = get_or xs k d in
    let there = all r (k, below, default xs k r d below) in
    let here : r.rev ≡ 1 + k = rev_at xs k d mine below in
    let its : r.rev ≡ 1 + there.0 = ap (λ (x : Revision). x.rev) (sym there.2) ∙ rev_at ys there.0 r other there.1 in
    let place : there.0 ≡ k = omega (arith, here, its) in
    sym there.2 ∙ ap (λ i. get_or ys i r) place ∙ default ys k r d (omega (arith, below, one)))
