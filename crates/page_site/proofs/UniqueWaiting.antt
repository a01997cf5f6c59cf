-- There is one list of what waits, each with one outcome; and one list of the proposals by which clients may do more.
use Rattle.std.proofs.Common.{◌≡◌, ℕ, suc, ◌+◌, ◌<◌, ◌∙◌, List, [], ◌∷◌, Option, Some, None, Result, Ok, Err, ap, arith, drop, get_or, inl, inr, length, map, option_map, refl, subst, sym}
use Rattle.std.specs.Prelude.{All, slice_get, slice_index_or, slice_set}
use Rattle.std.specs.List.{flat_map}
use Rattle.std.proofs.lemmas.Bool.{cases_lt}
use Rattle.std.proofs.lemmas.List.{ext_get_or, get_or-set_same, length-map}
use Rattle.std.proofs.lemmas.List.Elements.{All-head, All-tail}
use Rattle.desk_text.specs.Address.{number_of}
use Rattle.desk_tables.specs.declared.filesystems.Mount.{Mount}
use Rattle.desk_policy.specs.Contradiction.{IsLeastIn, IsNotAfter}
use Rattle.desk_policy.specs.Laws.{custodians_in, filesystems_in}
use Rattle.desk_policy.specs.Parsing.{ExportsFile, content_with, read_after_filesystems, read_exports, read_files, read_site, read_site_tables, then_read}
use Rattle.desk_policy.specs.Policy.{Content, content_of_lines, rows_of, with_lines_of}
use Rattle.desk_policy.specs.Site.{SiteTexts}
use Rattle.desk_policy.specs.SiteFault.{contradiction_fault, exports_name}
use Rattle.desk_policy.specs.SiteFile.{exports_place}
use Rattle.desk_policy.specs.View.{IsFaultOf, IsLeastContradiction}
use Rattle.desk_policy.specs.declared.parsing.SiteTables.{SiteTables}
use Rattle.desk_policy.specs.declared.row.Row.{Row}
use Rattle.desk_policy.specs.declared.site_fault.SiteFault.{SiteFault}
use Rattle.desk_policy.proofs.SiteLaws.{was_read}
use Rattle.desk_core.specs.Foresight.{HasLinesAlone, with_text}
use Rattle.desk_core.specs.Head.{Newest}
use Rattle.desk_core.specs.Site.{IsInForce, IsSound, site_in}
use Rattle.desk_core.specs.declared.proposal.Proposal.{Proposal}
use Rattle.page_places.specs.UniqueLaws.{ChangesAreToldInOneWay}
use Rattle.page_summary.specs.Proposals.{ProposalValue}
use Rattle.page_site.specs.SystemParts.{waiting_for}
use Rattle.page_site.specs.WaitingProposals.{AreWaiting, IsOutcomeOf, IsWaiting, Waiting}
use Rattle.page_site.specs.WideningProposals.{AreSoManyBy, AreWidening, IsToldFor, row_if_any}

-- ---- a policy that is read has lines for each file system
many_files : (texts : SiteTexts) (table : List Mount) (site_tables : SiteTables) (fs : ℕ) (mounts : List Mount) (files : List ExportsFile) → read_files texts table site_tables fs mounts ≡ Ok files
    → length files ≡ length mounts
many_files texts table site_tables fs [] files is = let none : [] ≡ files = cc in sym (ap length none)
many_files texts table site_tables fs (mount ∷ more) files is =
    let read = was_read (read_exports texts table site_tables fs mount.path) (λ file. then_read (read_files texts table site_tables (fs + 1) more) (λ others. Ok (file ∷ others))) files is in
    let rest = was_read (read_files texts table site_tables (fs + 1) more) (λ others. Ok (read.0 ∷ others)) files read.2 in
    let are : read.0 ∷ rest.0 ≡ files = cc in
    sym (ap length are) ∙ ap (λ n. suc n) (many_files texts table site_tables (fs + 1) more rest.0 rest.1)

pub many_rows : (texts : SiteTexts) (content : Content) → read_site texts ≡ Ok content → length content.rows ≡ length content.table
unfolding read_site
many_rows texts content is =
    let custodians = was_read (custodians_in texts) (λ rows. then_read (filesystems_in texts rows) (read_after_filesystems texts)) content is in
    let table = was_read (filesystems_in texts custodians.0) (read_after_filesystems texts) content custodians.2 in
    let tables = was_read (read_site_tables texts) (λ found. then_read (read_files texts table.0 found 0 table.0) (λ files. Ok (content_with table.0 found files))) content table.2 in
    let files = was_read (read_files texts table.0 tables.0 0 table.0) (λ all. Ok (content_with table.0 tables.0 all)) content tables.2 in
    let same : content_with table.0 tables.0 files.0 ≡ content = cc in
    subst (λ (c : Content). length c.rows ≡ length c.table) same
    (length-map files.0 (λ (f : ExportsFile). f.rows) ∙ many_files texts table.0 tables.0 0 table.0 files.0 files.1)

-- ---- a site has one fault
some_in : {X : Type 0} → X → Option X → X
some_in default None = default
some_in default (Some x) = x

pub same_some : {X : Type 0} (x y : X) → Some x ≡ Some y → x ≡ y
unfolding some_in
same_some x y is = ap (some_in x) is

record AreSame (later earlier address later' earlier' address' : ℕ) : Type 0 where
  later_is : later ≡ later'
  earlier_is : earlier ≡ earlier'
  address_is : address ≡ address'

least_of_both : (l e a l' e' a' : ℕ) → IsNotAfter l e a l' e' a' → IsNotAfter l' e' a' l e a → AreSame l e a l' e' a'
least_of_both l e a l' e' a' (inl less) (inl more) = absurd (omega arith)
least_of_both l e a l' e' a' (inl less) (inr (same, rest)) = absurd (omega arith)
least_of_both l e a l' e' a' (inr (same, rest)) (inl more) = absurd (omega arith)
least_of_both l e a l' e' a' (inr (same, inl less)) (inr (same', inl more)) = absurd (omega arith)
least_of_both l e a l' e' a' (inr (same, inl less)) (inr (same', inr (also, up))) = absurd (omega arith)
least_of_both l e a l' e' a' (inr (same, inr (also, up))) (inr (same', inl more)) = absurd (omega arith)
least_of_both l e a l' e' a' (inr (same, inr (also, up))) (inr (same', inr (also', up'))) = record { later_is = same; earlier_is = also; address_is = omega arith }

module _ (policy : Content) where
  not_earlier : (fault other : SiteFault) (is : IsLeastContradiction policy fault) (its : IsLeastContradiction policy other) → is.fs < its.fs → ⊥
  not_earlier fault other is its less = its.before is.fs less is.found.line is.found.other (number_of is.found.address) is.here.is

  one_place : (fault other : SiteFault) (is : IsLeastContradiction policy fault) (its : IsLeastContradiction policy other) → is.fs ≡ its.fs
  one_place fault other is its =
      elim (cases_lt is.fs its.fs) as (λ _. is.fs ≡ its.fs) [
        | inl less ↦ absurd (not_earlier fault other is its less)
        | inr no_less ↦ elim (cases_lt its.fs is.fs) as (λ _. is.fs ≡ its.fs) [
          | inl more ↦ absurd (not_earlier other fault its is more)
          | inr no_more ↦ omega arith
        ]
      ]

  one_fault : (fault other : SiteFault) → IsLeastContradiction policy fault → IsLeastContradiction policy other → fault ≡ other
  one_fault fault other is its =
      let place = one_place fault other is its in
      let here : IsLeastIn (rows_of policy is.fs) its.found.line its.found.other (number_of its.found.address) =
      subst (λ fs. IsLeastIn (rows_of policy fs) its.found.line its.found.other (number_of its.found.address)) (sym place) its.here in
      let same = least_of_both is.found.line is.found.other (number_of is.found.address) its.found.line its.found.other (number_of its.found.address)
      (is.here.least its.found.line its.found.other (number_of its.found.address) here.is) (here.least is.found.line is.found.other (number_of is.found.address) is.here.is) in
      let found : is.found ≡ its.found = λ i. record { line = same.later_is i; other = same.earlier_is i; address = record { number = same.address_is i } } in
      let told : option_map (λ (mount : Mount). contradiction_fault (exports_name mount.path) is.found) (slice_get policy.table is.fs)
      ≡ option_map (λ (mount : Mount). contradiction_fault (exports_name mount.path) its.found) (slice_get policy.table its.fs) =
      λ i. option_map (λ (mount : Mount). contradiction_fault (exports_name mount.path) (found i)) (slice_get policy.table (place i)) in
      same_some fault other (sym is.named ∙ told ∙ its.named)

fault_in_one_way : (read : Result Content SiteFault) (fault other : SiteFault) → IsFaultOf read fault → IsFaultOf read other → fault ≡ other
fault_in_one_way (Ok policy) fault other is its = one_fault policy fault other is its
fault_in_one_way (Err first) fault other is its = is ∙ sym its

not_both : (read : Result Content SiteFault) (fault : SiteFault) → IsSound read → IsFaultOf read fault → ⊥
not_both (Ok policy) fault sound is = sound is.fs is.found.line is.found.other (number_of is.found.address) is.here.is
not_both (Err first) fault sound is = sound

-- ---- what waits
module _ (newest : Newest) (content : Content) (each : length content.rows ≡ length content.table) where
  lines_in_one_way : (texts : SiteTexts) (fs : ℕ) (lines other : Content) → HasLinesAlone content fs lines → HasLinesAlone content fs other → IsInForce texts (with_lines_of content fs lines)
      → IsInForce texts (with_lines_of content fs other) → lines ≡ other
  lines_in_one_way texts fs lines other alone alone' force force' =
      let within : fs < length content.rows = (let listed = alone.file_system in let many = each in omega arith) in
      let set : slice_set content.rows fs (rows_of lines fs) ≡ slice_set content.rows fs (rows_of other fs) = force.lines.rows ∙ sym force'.lines.rows in
      let rows : rows_of lines fs ≡ rows_of other fs =
      sym (get_or-set_same content.rows fs (rows_of lines fs) [] within) ∙ ap (λ (all : List (List Row)). slice_index_or all fs []) set
      ∙ get_or-set_same content.rows fs (rows_of other fs) [] within in
      alone.alone ∙ ap (content_of_lines content.table fs) rows ∙ sym alone'.alone

  one_outcome : (fs : ℕ) (proposal : Proposal) (told other : Result Content SiteFault) → IsOutcomeOf newest content fs proposal told → IsOutcomeOf newest content fs proposal other → told ≡ other
  one_outcome fs proposal (Ok lines) (Ok other) is its =
      let texts = site_in (with_text newest proposal.file proposal.body) in
      ap (λ (c : Content). Ok c) (lines_in_one_way texts fs lines other is.0 its.0 is.1 its.1)
  one_outcome fs proposal (Ok lines) (Err fault) is its = absurd (not_both (read_site (site_in (with_text newest proposal.file proposal.body))) fault is.1.consistent its)
  one_outcome fs proposal (Err fault) (Ok lines) is its = absurd (not_both (read_site (site_in (with_text newest proposal.file proposal.body))) fault its.1.consistent is)
  one_outcome fs proposal (Err fault) (Err other) is its =
      ap (λ (f : SiteFault). Err f) (fault_in_one_way (read_site (site_in (with_text newest proposal.file proposal.body))) fault other is its)

  pub one_waiting : (one other : Waiting) → one.proposal ≡ other.proposal → IsWaiting newest content one → IsWaiting newest content other → one ≡ other
  one_waiting one other same is its =
      let fs : one.fs ≡ other.fs = same_some one.fs other.fs (sym is.place ∙ ap (λ (p : Proposal). exports_place content.table p.file) same ∙ its.place) in
      let outcome : one.outcome ≡ other.outcome =
      one_outcome one.fs one.proposal one.outcome other.outcome is.outcome
      (subst (λ (p : Proposal). IsOutcomeOf newest content one.fs p other.outcome) (sym same)
      (subst (λ n. IsOutcomeOf newest content n other.proposal other.outcome) (sym fs) its.outcome)) in
      λ i. record { fs = fs i; proposal = same i; outcome = outcome i }

  abbrev proposals_in : List Waiting → List Proposal
  proposals_in waiting = map (λ (one : Waiting). one.proposal) waiting

  one_list : (waiting others : List Waiting) → proposals_in waiting ≡ proposals_in others → All (IsWaiting newest content) waiting → All (IsWaiting newest content) others → waiting ≡ others
  one_list [] [] same are its = refl
  one_list [] (y ∷ ys) same are its = absurd (let long = ap length same in omega arith)
  one_list (x ∷ xs) [] same are its = absurd (let long = ap length same in omega arith)
  one_list (x ∷ xs) (y ∷ ys) same are its =
      let first = one_waiting x y (ap (λ (all : List Proposal). get_or all 0 x.proposal) same) (All-head (IsWaiting newest content) x xs are) (All-head (IsWaiting newest content) y ys its) in
      let rest = one_list xs ys (ap (λ (all : List Proposal). drop 1 all) same) (All-tail (IsWaiting newest content) x xs are) (All-tail (IsWaiting newest content) y ys its) in
      λ i. first i ∷ rest i

pub waiting_in_one_way : (newest : Newest) (content : Content) (proposals : List Proposal) (waiting others : List Waiting) → read_site (site_in newest) ≡ Ok content
    → AreWaiting newest content proposals waiting → AreWaiting newest content proposals others → waiting ≡ others
waiting_in_one_way newest content proposals waiting others read are its =
    one_list newest content (many_rows (site_in newest) content read) waiting others (are.proposals_are ∙ sym its.proposals_are) are.each its.each

-- ---- those by which clients may do more
module _ (changes : ChangesAreToldInOneWay) (content : Content) where
  so_many : (fs : ℕ) (outcome : Result Content SiteFault) (count other : ℕ) → AreSoManyBy content fs outcome count → AreSoManyBy content fs outcome other → count ≡ other
  so_many fs (Ok lines) count other are its = changes.widening content lines fs count other are its
  so_many fs (Err fault) count other are its = are ∙ sym its

  one_told : (waiting : Option Waiting) (rows others : List ProposalValue) → IsToldFor content waiting rows → IsToldFor content waiting others → rows ≡ others
  one_told None rows others are its = are ∙ sym its
  one_told (Some waiting) rows others are its =
      are.rows_are ∙ ap (row_if_any waiting) (so_many waiting.fs waiting.outcome are.count its.count are.are its.are) ∙ sym its.rows_are

  pub widening_in_one_way : (waiting : List Waiting) (rows others : List ProposalValue) → AreWidening content waiting rows → AreWidening content waiting others → rows ≡ others
  widening_in_one_way waiting rows others are its =
      let told : are.told ≡ its.told = ext_get_or [] are.told its.told (are.count ∙ sym its.count)
      (λ fs within. (let many = are.count in one_told (waiting_for waiting fs) (get_or are.told fs []) (get_or its.told fs []) (are.each fs (omega arith)) (its.each fs (omega arith)))) in
      are.rows_are ∙ ap (flat_map (λ row. row)) told ∙ sym its.rows_are
