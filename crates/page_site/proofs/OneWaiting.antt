-- What waits for a file system goes by the proposal of its exports file, not by the order in which the proposals are listed.
use Rattle.std.proofs.Common.{◌≡◌, ℕ, ◌==◌, ◌∙◌, Bool, true, false, cond, List, [], ◌∷◌, Option, Some, None, Ok, ap, is_some, length, map, option_map, refl, sym}
use Rattle.std.specs.Prelude.{All, filter, find}
use Rattle.std.specs.Str.{bytes_eq}
use Rattle.std.proofs.lemmas.Bool.{cond-false, cond_both, eq-eqb, eqb-true, false_from_ne_true, false≢true}
use Rattle.std.proofs.lemmas.List.Elements.{All-head, All-tail}
use Rattle.std.proofs.lemmas.Slice.Eq.{bytes_eq-Decides}
use Rattle.desk_tables.specs.declared.filesystems.Mount.{Mount}
use Rattle.desk_policy.specs.Parsing.{read_site}
use Rattle.desk_policy.specs.Policy.{Content}
use Rattle.desk_policy.specs.SiteFault.{exports_name}
use Rattle.desk_policy.specs.SiteFile.{exports_place}
use Rattle.desk_core.specs.Head.{Newest}
use Rattle.desk_core.specs.Site.{site_in}
use Rattle.desk_core.specs.Standing.{Proposals, proposals_in}
use Rattle.desk_core.specs.declared.proposal.Proposal.{Proposal}
use Rattle.desk_core.proofs.OneFile.{place_of}
use Rattle.page_site.specs.SystemParts.{waiting_for}
use Rattle.page_site.specs.WaitingProposals.{AreWaiting, IsWaiting, Waiting, is_for_listed}
use Rattle.page_site.proofs.UniqueWaiting.{many_rows, one_waiting, same_some}

-- ---- tests that agree
alike : (a b : Bool) → (a ≡ true → b ≡ true) → (b ≡ true → a ≡ true) → a ≡ b
alike true true to back = refl
alike true false to back = sym (to refl)
alike false true to back = back refl
alike false false to back = refl

first_alike : {X Y : Type 0} (f : X → Y) (a b : Bool) (x : X) (rest : Option X) (others : Option Y) → a ≡ b → option_map f rest ≡ others
    → option_map f (cond a (Some x) rest) ≡ cond b (Some (f x)) others
first_alike f true true x rest others same more = refl
first_alike f true false x rest others same more = absurd (false≢true (sym same))
first_alike f false true x rest others same more = absurd (false≢true same)
first_alike f false false x rest others same more = more

-- a list finds the same with and without those that another test leaves out
first_kept : {X : Type 0} (test : X → Bool) (kept : Bool) (x : X) (xs ys : List X) → (test x ≡ true → kept ≡ true) → find test xs ≡ find test ys
    → find test (cond kept (x ∷ xs) xs) ≡ find test (x ∷ ys)
first_kept test true x xs ys to same = ap (cond (test x) (Some x)) same
first_kept test false x xs ys to same = same ∙ sym (cond-false (test x) (Some x) (find test ys) (false_from_ne_true (test x) (λ e. false≢true (to e))))

found_kept : {X : Type 0} (test keep : X → Bool) → ((x : X) → test x ≡ true → keep x ≡ true) → (xs : List X) → find test (filter keep xs) ≡ find test xs
found_kept test keep to [] = refl
found_kept test keep to (x ∷ xs) = first_kept test (keep x) x (filter keep xs) xs (to x) (found_kept test keep to xs)

-- ---- the exports file of a place
one_file : (table : List Mount) (file other : List ℕ) (fs : ℕ) → exports_place table file ≡ Some fs → exports_place table other ≡ Some fs → file ≡ other
one_file table file other fs is its =
    let one = place_of table file fs is in
    let two = place_of table other fs its in
    let mount : one.0 ≡ two.0 = same_some one.0 two.0 (sym one.1 ∙ two.1) in
    one.2 ∙ ap (λ (m : Mount). exports_name m.path) mount ∙ sym two.2

abbrev proposal_of : Waiting → Proposal
proposal_of one = one.proposal

abbrev is_of : List ℕ → Proposal → Bool
is_of file proposal = bytes_eq proposal.file file

module _ (newest : Newest) (content : Content) (fs : ℕ) where
  -- what was found waits for the file system
  abbrev IsIfAny : Option Waiting → Type 0
  IsIfAny None = Unit {0}
  IsIfAny (Some one) = IsWaiting newest content one × (one.fs ≡ fs)

  found_is : (waiting : List Waiting) → All (IsWaiting newest content) waiting → IsIfAny (waiting_for waiting fs)
  found_is [] each = tt
  found_is (one ∷ more) each =
      cond_both (one.fs == fs) (Some one) (waiting_for more fs) IsIfAny (λ e. (All-head (IsWaiting newest content) one more each, eqb-true one.fs fs e))
      (λ e. found_is more (All-tail (IsWaiting newest content) one more each))

  module _ (file : List ℕ) (place : exports_place content.table file ≡ Some fs) where
    same_test : (one : Waiting) → IsWaiting newest content one → (one.fs == fs) ≡ is_of file one.proposal
    same_test one is =
        let decides = bytes_eq-Decides one.proposal.file file in
        alike (one.fs == fs) (is_of file one.proposal)
        (λ e. decides.1 (one_file content.table one.proposal.file file fs (is.place ∙ ap (λ n. Some n) (eqb-true one.fs fs e)) place))
        (λ e. eq-eqb one.fs fs (same_some one.fs fs (sym is.place ∙ ap (λ name. exports_place content.table name) (decides.0 e) ∙ place)))

    found_by_file : (waiting : List Waiting) → All (IsWaiting newest content) waiting
        → option_map proposal_of (waiting_for waiting fs) ≡ find (is_of file) (map proposal_of waiting)
    found_by_file [] each = refl
    found_by_file (one ∷ more) each =
        first_alike proposal_of (one.fs == fs) (is_of file one.proposal) one (waiting_for more fs) (find (is_of file) (map proposal_of more))
        (same_test one (All-head (IsWaiting newest content) one more each)) (found_by_file more (All-tail (IsWaiting newest content) one more each))

    listed : (proposal : Proposal) → is_of file proposal ≡ true → is_for_listed content.table proposal ≡ true
    listed proposal e =
        ap (λ name. is_some (exports_place content.table name)) ((bytes_eq-Decides proposal.file file).0 e) ∙ ap (λ found. is_some found) place

    -- the proposal that waits for a file system is that of its exports file
    waits_by_file : (proposals : List Proposal) (waiting : List Waiting) → AreWaiting newest content proposals waiting
        → option_map proposal_of (waiting_for waiting fs) ≡ proposals_in proposals file
    unfolding proposals_in
    waits_by_file proposals waiting are =
        found_by_file waiting are.each ∙ ap (find (is_of file)) are.proposals_are ∙ found_kept (is_of file) (is_for_listed content.table) listed proposals

  module _ (rows : length content.rows ≡ length content.table) where
    alike_if_any : (one other : Option Waiting) → IsIfAny one → IsIfAny other
        → ((file : List ℕ) → exports_place content.table file ≡ Some fs → option_map proposal_of one ≡ option_map proposal_of other) → one ≡ other
    alike_if_any None None is its same = refl
    alike_if_any (Some one) None is its same = absurd (let apart = same one.proposal.file (is.0.place ∙ ap (λ n. Some n) is.1) in cc)
    alike_if_any None (Some other) is its same = absurd (let apart = same other.proposal.file (its.0.place ∙ ap (λ n. Some n) its.1) in cc)
    alike_if_any (Some one) (Some other) is its same =
        let proposal : one.proposal ≡ other.proposal = same_some one.proposal other.proposal (same one.proposal.file (is.0.place ∙ ap (λ n. Some n) is.1)) in
        ap (λ w. Some w) (one_waiting newest content rows one other proposal is.0 its.0)

-- Of a policy that is read, the same waits for each file system by two lists that have the same proposal of each file.
pub waits_alike : (newest : Newest) (content : Content) (proposals others : List Proposal) (waiting second : List Waiting) → read_site (site_in newest) ≡ Ok content
    → proposals_in proposals ≡ proposals_in others → AreWaiting newest content proposals waiting → AreWaiting newest content others second
    → (fs : ℕ) → waiting_for waiting fs ≡ waiting_for second fs
waits_alike newest content proposals others waiting second read same are its fs =
    alike_if_any newest content fs (many_rows (site_in newest) content read) (waiting_for waiting fs) (waiting_for second fs)
    (found_is newest content fs waiting are.each) (found_is newest content fs second its.each)
    (λ file place. waits_by_file newest content fs file place proposals waiting are ∙ ap (λ (by : Proposals). by file) same
    ∙ sym (waits_by_file newest content fs file place others second its))
