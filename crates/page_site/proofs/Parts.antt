-- The parts on file systems: one more of them, and what each is made of.
use Rattle.std.proofs.Common.{◌≡◌, ℕ, ◌+◌, ◌<◌, ◌++◌, ◌∙◌, List, [], ◌∷◌, Option, Some, None, ap, append_assoc, arith, get_or, length, map, refl, subst, sym}
use Rattle.std.specs.Prelude.{◌==◌, All, IfSome, find, option_map}
use Rattle.std.proofs.lemmas.List.{append-nil, get_or-map, length-append, length-map}
use Rattle.std.proofs.lemmas.List.Elements.{All-weaker}
use Rattle.std.proofs.Math.Seq.{get_or-append_seam}
use Rattle.desk_tables.specs.declared.filesystems.Mount.{Mount}
use Rattle.desk_policy.specs.Policy.{Content}
use Rattle.desk_core.specs.Head.{CanBeKept, newest_in}
use Rattle.desk_core.specs.declared.head.Head.{Head}
use Rattle.page_data.specs.Classes.{class_run}
use Rattle.page_data.specs.Systems.{AreSystems, IsSystem, SystemValue, system_value}
use Rattle.page_data.specs.declared.systems.FileSystemReport.{FileSystemReport}
use Rattle.page_maps.specs.Figures.{GainsFileSystemMaps}
use Rattle.page_filesystem.specs.declared.parts.ProposalPart.{ProposalPart}
use Rattle.page_filesystem.specs.OwnParts.{IsReadableHead}
use Rattle.page_places.specs.ListedGroups.{AreListedGroups, listed_value}
use Rattle.page_site.specs.SystemParts.{AreFindingsIn, AreTextsFrom, IsSystemText, TellingValue, TellsIfAny, head_in, waiting_for}
use Rattle.page_site.specs.Pieces.{Gains}
use Rattle.page_site.specs.PrivateSystemParts.{CanWait, IsOfSite, IsSystemOf, IsTextFor, IsTextWith}
use Rattle.page_site.specs.WaitingProposals.{Waiting, waiting_value}
use Rattle.page_site.specs.declared.system_parts.ToldSystem.{ToldSystem}
use Rattle.page_site.specs.declared.waiting_proposals.Waiting.{Waiting as LentWaiting}
use Rattle.page_site.proofs.Finding.{found_is, found_mapped}

module _ (telling : TellingValue) where
  texts_more : (fs : ℕ) (systems : List SystemValue) (system : SystemValue) (text more : List ℕ) → AreTextsFrom telling fs systems text
      → IsSystemText telling (fs + length systems) system more → AreTextsFrom telling fs (systems ++ system ∷ []) (text ++ more)
  texts_more fs [] system text more are is = record {
    first = more;
    second = [];
    is_first = subst (λ n. IsSystemText telling n system more) (omega arith) is;
    is_second = refl;
    text_is = ap (λ some. some ++ more) are ∙ sym (append-nil more);
  }
  texts_more fs (one ∷ others) system text more are is = record {
    first = are.first;
    second = are.second ++ more;
    is_first = are.is_first;
    is_second = texts_more (fs + 1) others system are.second more are.is_second (subst (λ n. IsSystemText telling n system more) (omega arith) is);
    text_is = ap (λ some. some ++ more) are.text_is ∙ append_assoc are.first are.second more;
  }

  pub gains_none : (page : List ℕ) → Gains (AreTextsFrom telling 0 []) page page
  gains_none page = record { text = []; is = refl; added = sym (append-nil page) }

  pub gains_more : (systems : List SystemValue) (system : SystemValue) (fs : ℕ) (old between new : List ℕ) → fs ≡ length systems → Gains (AreTextsFrom telling 0 systems) old between
      → Gains (IsSystemText telling fs system) between new → Gains (AreTextsFrom telling 0 (systems ++ system ∷ [])) old new
  gains_more systems system fs old between new so_far first second = record {
    text = first.text ++ second.text;
    is = texts_more 0 systems system first.text second.text first.is (let start : fs ≡ 0 + length systems = omega (arith, so_far) in subst (λ n. IsSystemText telling n system second.text) start second.is);
    added = second.added ∙ ap (λ some. some ++ second.text) first.added ∙ append_assoc old first.text second.text;
  }

-- ---- the next of the file systems
module _ (content : Content) (systems : List FileSystemReport) (are : AreSystems content (map system_value systems)) (done left rest : List FileSystemReport)
    (system : FileSystemReport) (number : ℕ) (is : left ≡ system ∷ rest) (given : done ++ left ≡ systems) (so_far : number ≡ length done) where
  whole : done ++ system ∷ rest ≡ systems
  whole = ap (λ some. done ++ some) (sym is) ∙ given

  within : number < length systems
  within = (let long = sym (length-append done (system ∷ rest)) ∙ ap length whole in omega arith)

  pub listed : number < length content.table
  listed = (let many = length-map systems system_value in let count = are.count in let few = within in omega arith)

  here : get_or (map system_value systems) number (system_value system) ≡ system_value system
  here =
      get_or-map system_value systems number system (system_value system) within
      ∙ ap system_value (ap (λ some. get_or some number system) (sym whole) ∙ ap (λ n. get_or (done ++ system ∷ rest) n system) so_far ∙ get_or-append_seam done system rest system)

  pub next_is : IsSystemOf content number (system_value system)
  next_is = record {
    listed = listed;
    all = are.all;
    are_all = are.are_all;
    is = subst (IsSystem content are.all number) here (are.each number (system_value system) listed);
  }

-- ---- one file system
pub head_readable : (heads : List Head) → All CanBeKept heads → (mount : Option Mount) → IfSome (head_in heads mount) IsReadableHead
unfolding newest_in
head_readable heads kept None = tt
head_readable heads kept (Some mount) =
    found_is IsReadableHead _ heads (All-weaker CanBeKept IsReadableHead (λ head keeps. keeps.short) heads kept)

-- what waits for a file system is of the site, as all that waits is
pub waits : (telling : TellingValue) → IsOfSite telling → (fs : ℕ) → IfSome (waiting_for telling.waiting fs) (CanWait telling)
waits telling site fs =
    found_is (CanWait telling) (λ one. one.fs == fs) telling.waiting
    (λ i default within. record { is = site.waiting i default within; readable = site.readable i default within })

-- it is found as it is kept
pub found_value : {V : Type 0} (in_force : V → Content) (waiting : List (LentWaiting V)) (fs : ℕ) (o : Option (LentWaiting V)) → o ≡ find (λ one. one.fs.0 == fs) waiting
    → waiting_for (map (waiting_value in_force) waiting) fs ≡ option_map (waiting_value in_force) o
found_value in_force waiting fs o is = found_mapped (waiting_value in_force) (λ one. one.fs == fs) waiting ∙ ap (option_map (waiting_value in_force)) (sym is)

-- with what waits, if the proposal tells that
pub for_is : (telling : TellingValue) (told : ToldSystem) (waiting : Option Waiting) (proposal : Option ProposalPart) → TellsIfAny telling.content waiting proposal → (old new : List ℕ)
    → Gains (IsTextWith telling told proposal) old new → Gains (IsTextFor telling told waiting) old new
for_is telling told waiting proposal tells old new gains = record { text = gains.text; is = record { proposal = proposal; tells = tells; is = gains.is }; added = gains.added }

-- the part with what waits for a file system is that of the file system, if what is told of it is
pub told_is : (telling : TellingValue) (told : ToldSystem) (system : SystemValue) → map class_run told.classes.now ≡ system.classes → AreFindingsIn telling told.fs.0 told.findings.now
    → GainsFileSystemMaps system.classes [] told.maps.now → AreListedGroups telling.openings system.sections (listed_value told.listed.now) → (old new : List ℕ)
    → Gains (IsTextFor telling told (waiting_for telling.waiting told.fs.0)) old new → Gains (IsSystemText telling told.fs.0 system) old new
told_is telling told system classes findings maps groups old new gains =
    let made = gains.is.is.made in
    record {
      text = gains.text;
      is = record {
        given = gains.is.is.given;
        is_data = record {
          policy = made.policy;
          fs_is = ap (λ fs. fs.0) made.fs;
          classes = ap (map class_run) made.classes ∙ classes;
          lines = made.lines;
          head = made.head;
          findings = subst (AreFindingsIn telling told.fs.0) (sym made.findings) findings;
          proposal = subst (TellsIfAny telling.content (waiting_for telling.waiting told.fs.0)) (sym gains.is.is.proposal_is) gains.is.tells;
          maps = subst (GainsFileSystemMaps system.classes []) (sym made.maps) maps;
          groups = record { listed = told.listed.now; are = groups; groups = made.groups; count = made.count; unlisted = made.unlisted; others = made.others };
        };
        part = gains.is.is.part;
        is_part = gains.is.is.is_part;
        text_is = gains.is.is.text_is;
      };
      added = gains.added;
    }
