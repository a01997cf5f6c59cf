-- The part on a file system has one text.
use Rattle.std.proofs.Common.{◌≡◌, ℕ, ◌^◌, ◌==◌, ◌++◌, ◌∙◌, Bool, List, [], ◌∷◌, Option, Some, None, ap, arith, drop, get_or, length, map, option_copied, refl, subst, sym}
use Rattle.std.specs.Prelude.{◌-◌, All, codes, filter, if◌then◌else◌, not, slice_get, take}
use Rattle.std.proofs.lemmas.List.Elements.{All-head, All-tail}
use Rattle.desk_text.specs.Network.{Block}
use Rattle.desk_text.specs.Path.{path_text}
use Rattle.desk_tables.specs.declared.filesystems.FsId.{FsId}
use Rattle.desk_tables.specs.declared.filesystems.Mount.{Mount}
use Rattle.desk_policy.specs.Policy.{rows_of}
use Rattle.desk_policy.specs.declared.row.Row.{Row}
use Rattle.desk_core.specs.declared.head.Head.{Head}
use Rattle.desk_who.specs.Runs.{Run}
use Rattle.page_data.specs.Counts.{AreCountsFrom}
use Rattle.page_data.specs.Unique.{CountsAreUnique}
use Rattle.page_data.specs.Values.{AreRunsOfSome}
use Rattle.page_data.specs.declared.class.Class.{Class}
use Rattle.page_data.specs.declared.counts.Counts.{Counts}
use Rattle.page_findings.specs.Badges.{measured_items}
use Rattle.page_findings.specs.declared.badges.Measure.TheVariants.{Share as Shared}
use Rattle.page_html.specs.Blocks.{element_html, facts_html, system_start, tag_html}
use Rattle.page_html.specs.Items.{Code, Codes}
use Rattle.page_html.specs.Ranges.{Ends}
use Rattle.page_html.specs.declared.blocks.Element.TheVariants.{Heading, Up}
use Rattle.page_html.specs.declared.blocks.Tag.TheVariants.{SectionEnd}
use Rattle.page_maps.specs.Maps.{is_listed}
use Rattle.page_maps.proofs.OneOrder.{ordered_in_one_way}
use Rattle.page_places.specs.Groups.{groups_text}
use Rattle.page_places.specs.Lists.{groups_start, not_listed}
use Rattle.page_filesystem.specs.CountedShares.{AreShares, IsShareFrom, most_networks, private_networks, ranges_of, spaces}
use Rattle.page_filesystem.specs.Counting.{AreCountsOver, AreCountsOverFrom}
use Rattle.page_filesystem.specs.Facts.{facts, frame, guarded, revision}
use Rattle.page_filesystem.specs.Findings.{findings_list}
use Rattle.page_filesystem.specs.Notes.{notes_of}
use Rattle.page_filesystem.specs.OwnParts.{IsPartOf, own_lines, runs_in, text_of}
use Rattle.page_filesystem.specs.Parts.{file_system, proposal_part, way_back}
use Rattle.page_filesystem.specs.Proposals.{proposal_start, proposed_text}
use Rattle.page_filesystem.specs.Sections.{heading}
use Rattle.page_filesystem.specs.Shares.{shares_block}
use Rattle.page_filesystem.specs.Texts.{text_block}
use Rattle.page_filesystem.specs.UniqueLaws.{AreAlikeIfAny, AreGivenAlike, FileSystemsAreToldInOneWay}
use Rattle.page_filesystem.specs.declared.counted_shares.Shares.{Shares}
use Rattle.page_filesystem.specs.declared.gutter.Note.{Note}
use Rattle.page_filesystem.specs.declared.own_parts.FileSystemData.{FileSystemData}
use Rattle.page_filesystem.specs.declared.parts.FileSystemPart.{FileSystemPart}
use Rattle.page_filesystem.specs.declared.parts.ProposalPart.{ProposalPart}
use Rattle.page_filesystem.specs.declared.shares.Share.{Share}
use Rattle.page_filesystem.specs.declared.shares.Space.{Space}
use Rattle.page_filesystem.proofs.Again.{findings_by_value, notes_by_value}

-- ---- shares
module _ (runs : List (Run Class)) (some : AreRunsOfSome runs) where
  counts_over : (ranges : List Ends) (counts other : Counts) → AreCountsOverFrom runs ranges counts → AreCountsOverFrom runs ranges other → counts ≡ other
  counts_over ranges counts other are its =
      let own : AreCountsOver some.value_at ranges counts = are some.value_at some.are in
      let second : AreCountsOver some.value_at ranges other = its some.value_at some.are in
      λ i. record {
        denied = (own.denied ∙ sym second.denied) i;
        read_only = (own.read_only ∙ sym second.read_only) i;
        read_write = (own.read_write ∙ sym second.read_write) i;
        root_kept = (own.root_kept ∙ sym second.root_kept) i;
      }

  one_share : (share other : Share) → share.space ≡ other.space → IsShareFrom runs share → IsShareFrom runs other → share ≡ other
  one_share share other same is its =
      let counts = counts_over (ranges_of share.space) share.counts other.counts is (subst (λ (space : Space). AreCountsOverFrom runs (ranges_of space) other.counts) (sym same) its) in
      λ i. record { space = same i; counts = counts i }

  abbrev spaces_in : List Share → List Space
  spaces_in shares = map (λ (share : Share). share.space) shares

  each_share : (shares others : List Share) → spaces_in shares ≡ spaces_in others → All (IsShareFrom runs) shares → All (IsShareFrom runs) others → shares ≡ others
  each_share [] [] same are its = refl
  each_share [] (y ∷ ys) same are its = absurd (let long = ap length same in omega arith)
  each_share (x ∷ xs) [] same are its = absurd (let long = ap length same in omega arith)
  each_share (x ∷ xs) (y ∷ ys) same are its =
      let first = one_share x y (ap (λ (all : List Space). get_or all 0 x.space) same) (All-head (IsShareFrom runs) x xs are) (All-head (IsShareFrom runs) y ys its) in
      let rest = each_share xs ys (ap (λ (all : List Space). drop 1 all) same) (All-tail (IsShareFrom runs) x xs are) (All-tail (IsShareFrom runs) y ys its) in
      λ i. first i ∷ rest i

  shares_in_one_way : (rows : List Row) (made other : Shares) → AreShares runs rows made → AreShares runs rows other → made ≡ other
  shares_in_one_way rows made other are its =
      let written = ordered_in_one_way _ are.networks.written its.networks.written are.networks.ordered its.networks.ordered in
      let own : are.own ≡ its.own = are.networks.are ∙ ap (filter (λ network. not (is_listed private_networks network))) written ∙ sym its.networks.are in
      let named = ap (λ (networks : List Block). spaces (take most_networks networks)) own in
      let shares = each_share made.shares other.shares (are.shares.told ∙ named ∙ sym its.shares.told) are.shares.each its.shares.each in
      let left_out : made.left_out ≡ other.left_out = are.left_out ∙ ap (λ (networks : List Block). length networks - most_networks) own ∙ sym its.left_out in
      λ i. record { shares = shares i; left_out = left_out i }

-- ---- the part
some_mount : Mount → Option Mount → Mount
some_mount default None = default
some_mount default (Some mount) = mount

same_mount : (mount other : Mount) → Some mount ≡ Some other → mount ≡ other
unfolding some_mount
same_mount mount other is = ap (some_mount mount) is

-- of what its text is made
abbrev whole : ℕ → List ℕ → List ℕ → Counts → List ℕ → List ℕ → List Note → List ℕ → List ℕ → Shares → ℕ → List ℕ → ℕ → Bool → List ℕ
whole fs name told counts findings proposal notes text maps shares count groups unlisted others =
    (system_start fs ++ element_html Heading (Code name ∷ []) ++ told ++ findings ++ proposal)
    ++ (heading (codes "Text in force") ++ text_block fs name notes text)
    ++ (if counts.denied == 2 ^ 32 then [] else heading (codes "Where its clients are") ++ maps ++ shares_block name shares.shares shares.left_out)
    ++ (groups_start count ++ groups ++ not_listed unlisted others ++ element_html Up way_back ++ tag_html SectionEnd)

abbrev shares_in : FileSystemPart → Shares
shares_in part = record { shares = part.shares.now; left_out = part.networks_left_out }

abbrev whole_of : FileSystemPart → List ℕ
whole_of part =
    whole part.fs.0 part.name.now (facts part) part.counts (findings_list part.findings.now)
    (proposal_part part part.proposal) part.notes.now part.text.now part.maps.now (shares_in part) part.group_count (groups_text part.fs.0 part.groups.now)
    part.unlisted part.has_unlisted_others

made_of : (part : FileSystemPart) → file_system part ≡ whole_of part
made_of part = refl

same_proposal : (part second : FileSystemPart) (proposal other : Option ProposalPart) → part.name.now ≡ second.name.now → part.guarded ≡ second.guarded → part.text.now ≡ second.text.now
    → AreAlikeIfAny proposal other → proposal_part part proposal ≡ proposal_part second other
same_proposal part second None None name guarded text alike = refl
same_proposal part second None (Some other) name guarded text alike = absurd alike
same_proposal part second (Some proposal) None name guarded text alike = absurd alike
same_proposal part second (Some proposal) (Some other) name guarded text alike = λ i.
    proposal_start (alike.author i) (alike.revision i) (guarded i) ++ proposed_text (name i) (text i) (alike.text i) ++ alike.outcome i ++ tag_html SectionEnd

module _ (unique : CountsAreUnique) (given other : FileSystemData) (part second : FileSystemPart) where
  one_mount : AreGivenAlike given other → (is : IsPartOf given part) → (its : IsPartOf other second) → is.mount ≡ its.mount
  one_mount alike is its =
      let listed : slice_get given.policy.now.table given.fs.0 ≡ slice_get other.policy.now.table other.fs.0 = λ i. slice_get (alike.policy i).table (alike.fs i) in
      same_mount is.mount its.mount (sym is.is_mount ∙ listed ∙ its.is_mount)

  one_guarded : AreGivenAlike given other → IsPartOf given part → IsPartOf other second → part.guarded ≡ second.guarded
  one_guarded alike is its = is.guarded ∙ ap (λ (m : Mount). m.guarded) (one_mount alike is its) ∙ sym its.guarded

  one_counts : AreRunsOfSome (runs_in given) → AreGivenAlike given other → IsPartOf given part → IsPartOf other second → part.counts ≡ second.counts
  one_counts some alike is its =
      unique.counts_from (runs_in given) 0 (2 ^ 32 - 1) part.counts second.counts some is.counts
      (subst (λ (runs : List (Run Class)). AreCountsFrom runs 0 (2 ^ 32 - 1) second.counts) (sym alike.classes) its.counts)

  -- the facts go by their values
  one_facts : AreRunsOfSome (runs_in given) → AreGivenAlike given other → IsPartOf given part → IsPartOf other second → facts part ≡ facts second
  one_facts some alike is its =
      let mount = one_mount alike is its in
      let head : option_copied part.head ≡ option_copied second.head = is.head ∙ alike.head ∙ sym its.head in
      let custodians : part.custodians.now ≡ second.custodians.now = is.custodians ∙ ap (λ (m : Mount). m.custodians) mount ∙ sym its.custodians in
      λ i. facts_html frame
      (revision (head i) ∷ (Codes (custodians i) ∷ []) ∷ (guarded (one_guarded alike is its i) ∷ []) ∷ measured_items Shared (one_counts some alike is its i) ∷ [])

  same_part : AreRunsOfSome (runs_in given) → AreGivenAlike given other → IsPartOf given part → IsPartOf other second → file_system part ≡ file_system second
  same_part some alike is its =
      let mount = one_mount alike is its in
      let fs : part.fs.0 ≡ second.fs.0 = ap (λ (id : FsId). id.0) is.fs ∙ alike.fs ∙ sym (ap (λ (id : FsId). id.0) its.fs) in
      let name : part.name.now ≡ second.name.now = is.name ∙ ap (λ (m : Mount). path_text m.path) mount ∙ sym its.name in
      let told = one_facts some alike is its in
      let counts = one_counts some alike is its in
      let findings : findings_list part.findings.now ≡ findings_list second.findings.now =
      ap findings_list is.findings ∙ findings_by_value given.findings.now other.findings.now alike.findings ∙ sym (ap findings_list its.findings) in
      let text : part.text.now ≡ second.text.now = is.text ∙ ap text_of alike.head ∙ sym its.text in
      let proposal : proposal_part part part.proposal ≡ proposal_part second second.proposal =
      ap (proposal_part part) is.proposal ∙ same_proposal part second given.proposal other.proposal name (one_guarded alike is its) text alike.proposal ∙ sym (ap (proposal_part second) its.proposal) in
      let notes : part.notes.now ≡ second.notes.now =
      is.notes ∙ notes_by_value (own_lines given) (own_lines other) (text_of (option_copied given.head)) alike.lines
      ∙ ap (λ (of : Option Head). notes_of (own_lines other) (text_of of)) alike.head ∙ sym its.notes in
      let maps : part.maps.now ≡ second.maps.now = is.maps ∙ alike.maps ∙ sym its.maps in
      let rows : rows_of given.policy.now given.fs.0 ≡ rows_of other.policy.now other.fs.0 = λ i. rows_of (alike.policy i) (alike.fs i) in
      let second_shares : AreShares (runs_in given) (rows_of given.policy.now given.fs.0) (shares_in second) =
      subst (λ (runs : List (Run Class)). AreShares runs (rows_of given.policy.now given.fs.0) (shares_in second)) (sym alike.classes)
      (subst (λ (own : List Row). AreShares (runs_in other) own (shares_in second)) (sym rows) its.shares) in
      let shares : shares_in part ≡ shares_in second = shares_in_one_way (runs_in given) some (rows_of given.policy.now given.fs.0) (shares_in part) (shares_in second) is.shares second_shares in
      let count : part.group_count ≡ second.group_count = is.group_count ∙ alike.group_count ∙ sym its.group_count in
      let groups : groups_text part.fs.0 part.groups.now ≡ groups_text second.fs.0 second.groups.now =
      ap (groups_text part.fs.0) is.groups ∙ alike.groups part.fs.0 ∙ sym (ap (groups_text part.fs.0) its.groups) ∙ ap (λ n. groups_text n second.groups.now) fs in
      let unlisted : part.unlisted ≡ second.unlisted = is.unlisted ∙ alike.unlisted ∙ sym its.unlisted in
      let others : part.has_unlisted_others ≡ second.has_unlisted_others = is.has_unlisted_others ∙ alike.has_unlisted_others ∙ sym its.has_unlisted_others in
      λ i. whole (fs i) (name i) (told i) (counts i) (findings i) (proposal i) (notes i) (text i) (maps i) (shares i) (count i) (groups i) (unlisted i) (others i)

pub file_systems_are_told_in_one_way : CountsAreUnique → FileSystemsAreToldInOneWay
file_systems_are_told_in_one_way unique = record {
  shares = λ runs rows made other some. shares_in_one_way runs some rows made other;
  notes = notes_by_value;
  findings = findings_by_value;
  parts = same_part unique;
}
