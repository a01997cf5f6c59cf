-- What is told of the lines of a file system where no finding is a fault: from the findings down to what is said of each line.
use Rattle.std.proofs.Common.{◌≡◌, ◌∙◌, ◌++◌, ◌||◌, ℕ, All, Bool, true, false, Contains, List, [], ◌∷◌, Option, Some, None, Result, Ok, IfSome, ap, arith, get_or, inl, inr, map, option_map, refl, slice_get, subst, sym}
use Rattle.std.specs.Prelude.{filter}
use Rattle.std.specs.List.{AllZip, flat_map, list_any}
use Rattle.std.proofs.lemmas.Bool.{cases_Bool, eqb-true}
use Rattle.std.proofs.lemmas.List.Elements.{All-cons, All-head, All-map, All-nil, All-tail}
use Rattle.std.proofs.lemmas.List.Sorted.{All-permutation, IsPermutation-sym}
use Rattle.desk_text.specs.Address.{number_of}
use Rattle.desk_text.specs.declared.reading.LineFault.{LineFault}
use Rattle.desk_tables.specs.FileSystems.{fs_of}
use Rattle.desk_tables.specs.declared.filesystems.FsId.{FsId}
use Rattle.desk_tables.specs.declared.filesystems.Mount.{Mount}
use Rattle.desk_exports.specs.Files.{whole_answer}
use Rattle.desk_exports.specs.declared.entry.Entry.{Entry}
use Rattle.desk_exports.specs.declared.profile.Profile.TheVariants.{Two}
use Rattle.desk_exports.specs.declared.rules.Rule.{Rule}
use Rattle.desk_policy.specs.Contradiction.{HasNoContradiction}
use Rattle.desk_policy.specs.Parsing.{rows_with}
use Rattle.desk_policy.specs.Policy.{Content, rows_of}
use Rattle.desk_policy.specs.Verdict.{is_in}
use Rattle.desk_policy.specs.Weights.{selected}
use Rattle.desk_policy.specs.declared.contradiction.Contradiction.{Contradiction}
use Rattle.desk_policy.specs.declared.parsing.SiteTables.{SiteTables}
use Rattle.desk_policy.specs.declared.row.Row.{Row}
use Rattle.desk_policy.specs.declared.site_fault.SiteFault.{SiteFault}
use Rattle.desk_policy.specs.declared.warning.Warning.{Warning}
use Rattle.desk_policy.proofs.OwnMounts.{has_mount}
use Rattle.desk_idle.specs.Idle.{first_selected}
use Rattle.desk_idle.proofs.Bringing.{selected_has}
use Rattle.desk_server.specs.RepeatedClients.{AreRepeatedClients, IsRepeatedClient}
use Rattle.desk_server.specs.WiderGrants.{AreWiderGrants, IsWiderGrant}
use Rattle.desk_server.specs.declared.repeated_client.RepeatedClient.{RepeatedClient}
use Rattle.desk_server.specs.declared.wider_grant.WiderGrant.{WiderGrant}
use Rattle.desk_remarks.specs.Remarks.{AreRemarksOf, idle_remarks, remarks_by_line, repeated_remark, server_remarks, wider_remark}
use Rattle.desk_remarks.specs.SaidOfSystems.{IsSaidIn, IsSaidOf}
use Rattle.desk_remarks.specs.UnwarnedLines.{is_unwarned}
use Rattle.desk_remarks.specs.declared.remark.LineRemark.{LineRemark}
use Rattle.desk_remarks.specs.declared.said_of_systems.Said.{Said}
use Rattle.desk_findings.proofs.PlacedWords.{on_numbered}
use Rattle.desk_findings.specs.declared.check_odd.Among.TheVariants.{Clients}
use Rattle.desk_findings.specs.CheckOdd.{IsOnNumbered, IsSpot, OddLine, TellInOrder, odd_of_contradiction, odd_of_remark, odd_of_spot, odd_of_warning, odds_of, tell_spot}
use Rattle.desk_findings.specs.CheckText.{GathersBy, GathersOdd, GathersWith, TellInconsistencies}
use Rattle.desk_findings.specs.Finding.{is_fault}
use Rattle.desk_findings.specs.OddWords.{odd_words}
use Rattle.desk_findings.specs.Silence.{HasNoFault, NoneIsToldOn, tells_more, tells_repeated}
use Rattle.desk_findings.specs.Told.{Told, told}
use Rattle.desk_findings.specs.declared.check_faults.Source.{Source}
use Rattle.desk_findings.specs.declared.check_odd.Spot.{Spot}
use Rattle.desk_findings.specs.declared.check_text.Gathered.{Gathered}
use Rattle.desk_findings.specs.declared.check_text.WholeSources.{WholeSources}
use Rattle.desk_findings.specs.declared.finding.Finding.{Finding}
use Rattle.desk_findings.specs.declared.finding.Matter.{Matter}
use Rattle.desk_findings.specs.declared.finding.Matter.TheVariants as matter

-- ---- lists

pub neither : (a b : Bool) → (a || b) ≡ false → (a ≡ false) × (b ≡ false)
neither true true e = absurd (cc)
neither true false e = absurd (cc)
neither false true e = absurd (cc)
neither false false e = (refl, refl)

pub none_passes : {X : Type 0} (p : X → Bool) (xs : List X) → list_any p xs ≡ false → All (λ x. p x ≡ false) xs
none_passes p [] e = All-nil (λ x. p x ≡ false)
none_passes p (x ∷ xs) e =
    let parts = neither (p x) (list_any p xs) e in
    All-cons (λ y. p y ≡ false) x xs parts.0 (none_passes p xs parts.1)

pub first_part : {X : Type 0} (P : X → Type 0) (xs ys : List X) → All P (xs ++ ys) → All P xs
first_part P [] ys all = All-nil P
first_part P (x ∷ xs) ys all = All-cons P x xs (All-head P x (xs ++ ys) all) (first_part P xs ys (All-tail P x (xs ++ ys) all))

pub second_part : {X : Type 0} (P : X → Type 0) (xs ys : List X) → All P (xs ++ ys) → All P ys
second_part P [] ys all = all
second_part P (x ∷ xs) ys all = second_part P xs ys (All-tail P x (xs ++ ys) all)

pub of_mapped : {X Y : Type 0} (P : Y → Type 0) (f : X → Y) (xs : List X) → All P (map f xs) → All (λ x. P (f x)) xs
of_mapped P f [] all = All-nil (λ x. P (f x))
of_mapped P f (x ∷ xs) all = All-cons (λ y. P (f y)) x xs (All-head P (f x) (map f xs) all) (of_mapped P f xs (All-tail P (f x) (map f xs) all))

-- ---- what holds of what is told

-- no line of these is told of, if the matter says this
abbrev IsOff : (Matter → Bool) → List Row → Matter → (ℕ → Type 0) → Type 0
IsOff says rows what IsOn = (row : Row) → Contains rows row → says what ≡ true → IsOn row.entry.line → ⊥

abbrev pub IsToldOff : (Matter → Bool) → List ℕ → List Row → Told → Type 0
IsToldOff says text rows one = IsOff says rows one.matter (λ line. IfSome one.place (IsOnNumbered text line))

abbrev IsOddOff : (Matter → Bool) → List Row → OddLine → Type 0
IsOddOff says rows odd = IsOff says rows odd.matter (λ line. line ≡ odd.line)

abbrev IsRemarkOff : (Matter → Bool) → List Row → LineRemark → Type 0
IsRemarkOff says rows one = IsOff says rows (matter.Remark one.remark one.example) (λ line. line ≡ one.line)

abbrev pub IsToldFaultless : Told → Type 0
IsToldFaultless one = is_fault one.matter ≡ false

abbrev pub IsOddFaultless : OddLine → Type 0
IsOddFaultless odd = is_fault odd.matter ≡ false

pub faultless_told : (findings : List Finding) → HasNoFault findings → All IsToldFaultless (map told findings)
faultless_told findings none = All-map IsToldFaultless told findings (none_passes (λ (finding : Finding). is_fault finding.matter) findings none)

pub off_told : (says : Matter → Bool) (text : List ℕ) (rows : List Row) (findings : List Finding) → NoneIsToldOn says text rows findings → All (IsToldOff says text rows) (map told findings)
off_told says text rows findings none = All-map (IsToldOff says text rows) told findings none

-- what holds of what is told in order holds of what is odd
pub in_order : (P : Told → Type 0) (Q : OddLine → Type 0) (source : Source) (given : List OddLine) (all : List Told)
    → ((spot : Spot) → IsSpot source.text.now spot → P (tell_spot source spot) → Q (odd_of_spot spot)) → TellInOrder source given all → All P all → All Q given
in_order P Q source given all step tells each =
    let placed = tells.tell.placed in
    let spots : All (λ (spot : Spot). P (tell_spot source spot)) placed = of_mapped P (tell_spot source) placed (subst (All P) tells.tell.are each) in
    let odd : All (λ (spot : Spot). Q (odd_of_spot spot)) placed = λ k d below. step (get_or placed k d) (tells.tell.places k d below) (spots k d below) in
    All-permutation Q tells.odds given (IsPermutation-sym given tells.odds tells.same) (subst (All Q) tells.tell.same (All-map Q odd_of_spot placed odd))

spot_off : (says : Matter → Bool) (source : Source) (rows : List Row) (spot : Spot) → IsSpot source.text.now spot → IsToldOff says source.text.now rows (tell_spot source spot) → IsOddOff says rows (odd_of_spot spot)
spot_off says source rows spot on off row has is same =
    off row has is (subst (λ (line : ℕ). IfSome spot.place (IsOnNumbered source.text.now line)) (sym same) (on_numbered source.text.now spot.line spot.among spot.index spot.place on))

-- ---- contradictions

no_clashes : (clashes : List Contradiction) → All IsOddFaultless (map odd_of_contradiction clashes) → clashes ≡ []
no_clashes [] each = refl
no_clashes (one ∷ clashes) each = absurd (let bad : true ≡ false = All-head IsOddFaultless (odd_of_contradiction one) (map odd_of_contradiction clashes) each in cc)

-- ---- what is said of a file system

said_here : (content : Content) (fs : ℕ) (o : Option ℕ) (said : Said) → IsSaidIn content o said → is_in o fs ≡ true → IsSaidOf content fs said
said_here content fs None said is here = absurd (cc)
said_here content fs (Some own) said is here = subst (λ (n : ℕ). IsSaidOf content n said) (eqb-true own fs here) is

-- what is said of a file system, and holds of what is said of it by which mountd(8) does something else
abbrev Says : (LineRemark → Type 0) → Content → ℕ → Type 0
Says P content fs = (said : Said) × (IsSaidOf content fs said × All P (server_remarks said))

said_among : (P : LineRemark → Type 0) (content : Content) (fs : ℕ) (mounts : List Mount) (saids : List Said) → AllZip (λ (mount : Mount) (said : Said). IsSaidIn content (fs_of content.table mount.path) said) mounts saids
    → All P (flat_map server_remarks saids) → list_any (λ (mount : Mount). is_in (fs_of content.table mount.path) fs) mounts ≡ true → Says P content fs
said_among P content fs [] saids all each here = absurd (cc)
said_among P content fs (mount ∷ mounts) [] all each here = absurd all
said_among P content fs (mount ∷ mounts) (said ∷ saids) all each here =
    elim (cases_Bool (is_in (fs_of content.table mount.path) fs)) [
      | inl own ↦ (said, (said_here content fs (fs_of content.table mount.path) said all.0 own, first_part P (server_remarks said) (flat_map server_remarks saids) each))
      | inr other ↦
          said_among P content fs mounts saids all.1 (second_part P (server_remarks said) (flat_map server_remarks saids) each)
          (ap (λ b. b || list_any (λ (m : Mount). is_in (fs_of content.table m.path) fs) mounts) (sym other) ∙ here)
    ]

head_of : (chosen : List Row) (line : ℕ) → option_map (λ (row : Row). row.entry.line) (slice_get chosen 0) ≡ Some line → (row : Row) × (Contains chosen row × (row.entry.line ≡ line))
head_of [] line e = absurd (cc)
head_of (row ∷ chosen) line e = (row, ((0, omega arith, refl), cc))

first_row : (rows : List Row) (address line : ℕ) → first_selected rows address ≡ Some line → (row : Row) × (Contains rows row × (row.entry.line ≡ line))
first_row rows address line e =
    let head = head_of (selected rows address) line e in
    (head.0, (selected_has rows address head.0 head.1.0, head.1.1))

no_wider : (content : Content) (fs : ℕ) (wider : List WiderGrant) → AreWiderGrants content fs wider → All (IsRemarkOff tells_more (rows_of content fs)) (map wider_remark wider) → wider ≡ []
no_wider content fs [] are each = refl
no_wider content fs (one ∷ wider) are each =
    let is = All-head (IsWiderGrant content fs) one wider are.each in
    let row = first_row (rows_of content fs) (number_of one.address) one.line is.at.first in
    absurd (All-head (IsRemarkOff tells_more (rows_of content fs)) (wider_remark one) (map wider_remark wider) each row.0 row.1.0 refl row.1.1)

no_repeated : (rows : List Row) (repeated : List RepeatedClient) → AreRepeatedClients rows repeated → All (IsRemarkOff tells_repeated rows) (map repeated_remark repeated) → repeated ≡ []
no_repeated rows [] are each = refl
no_repeated rows (one ∷ repeated) are each =
    let is = All-head (IsRepeatedClient rows) one repeated are.each in
    absurd (All-head (IsRemarkOff tells_repeated rows) (repeated_remark one) (map repeated_remark repeated) each is.row is.has refl is.line)

-- ---- what is told of an exports text

module _ (opinions : Bool) (source : Source) (content : Content) (warnings : List Warning) (all : List Told) (tells : TellInconsistencies opinions source content warnings all) where
  odds_hold : (Q : OddLine → Type 0) → All Q (odds_of Clients tells.clashes warnings tells.remarks ++ odd_words opinions source.text.now) → All Q (odds_of Clients tells.clashes warnings tells.remarks)
  odds_hold Q each = first_part Q (odds_of Clients tells.clashes warnings tells.remarks) (odd_words opinions source.text.now) each

  pub clashes_none : All IsToldFaultless all → tells.clashes ≡ []
  clashes_none each =
      let given = in_order IsToldFaultless IsOddFaultless source (odds_of Clients tells.clashes warnings tells.remarks ++ odd_words opinions source.text.now) all (λ spot on e. e) tells.tell each in
      no_clashes tells.clashes (first_part IsOddFaultless (map odd_of_contradiction tells.clashes) (map (odd_of_warning Clients) warnings ++ map odd_of_remark tells.remarks) (odds_hold IsOddFaultless given))

  remarks_off : (says : Matter → Bool) (rows : List Row) → All (IsToldOff says source.text.now rows) all → All (IsRemarkOff says rows) tells.remarks
  remarks_off says rows each =
      let given = in_order (IsToldOff says source.text.now rows) (IsOddOff says rows) source (odds_of Clients tells.clashes warnings tells.remarks ++ odd_words opinions source.text.now) all (spot_off says source rows) tells.tell each in
      of_mapped (IsOddOff says rows) odd_of_remark tells.remarks
      (second_part (IsOddOff says rows) (map (odd_of_warning Clients) warnings) (map odd_of_remark tells.remarks)
      (second_part (IsOddOff says rows) (map odd_of_contradiction tells.clashes) (map (odd_of_warning Clients) warnings ++ map odd_of_remark tells.remarks) (odds_hold (IsOddOff says rows) given)))

  module _ (consistent : HasNoContradiction content) (fs : ℕ) (path : List (List ℕ)) (home : fs_of content.table path ≡ Some fs) where
    says_off : (says : Matter → Bool) → All (IsToldOff says source.text.now (rows_of content fs)) all → Says (IsRemarkOff says (rows_of content fs)) content fs
    says_off says each =
        let said : AreRemarksOf opinions content warnings tells.remarks = tells.are_remarks.consistent consistent in
        let P : LineRemark → Type 0 = IsRemarkOff says (rows_of content fs) in
        let server : All P (flat_map server_remarks said.saids) =
        second_part P (filter (is_unwarned warnings) (flat_map idle_remarks said.saids ++ remarks_by_line opinions content.rows)) (flat_map server_remarks said.saids) (subst (All P) said.are (remarks_off says (rows_of content fs) each)) in
        said_among P content fs content.table said.saids said.are_said server (has_mount content.table path fs (record { path = path; custodians = []; guarded = false; line = 0 }) home)

    pub nothing_wider : All (IsToldOff tells_more source.text.now (rows_of content fs)) all → AreWiderGrants content fs []
    nothing_wider each =
        let found = says_off tells_more each in
        let said : Said = found.0 in
        subst (AreWiderGrants content fs) (no_wider content fs said.wider found.1.0.wider (first_part (IsRemarkOff tells_more (rows_of content fs)) (map wider_remark said.wider) (map repeated_remark said.repeated) found.1.1)) found.1.0.wider

    pub nothing_repeated : All (IsToldOff tells_repeated source.text.now (rows_of content fs)) all → AreRepeatedClients (rows_of content fs) []
    nothing_repeated each =
        let found = says_off tells_repeated each in
        let said : Said = found.0 in
        let rows : List Row = rows_of content fs in
        subst (AreRepeatedClients rows) (no_repeated rows said.repeated found.1.0.repeated (second_part (IsRemarkOff tells_repeated rows) (map wider_remark said.wider) (map repeated_remark said.repeated) found.1.1)) found.1.0.repeated

-- ---- what is gathered

pub odd_by : (answer : Result (List (FsId × Entry)) (LineFault Rule)) (entries : List (FsId × Entry)) (sources : WholeSources) (opinions : Bool) (table : List Mount) (site_tables : SiteTables) (gathered : Gathered)
    → answer ≡ Ok entries → GathersBy answer opinions sources table site_tables gathered → GathersOdd opinions sources table site_tables entries gathered
odd_by answer entries sources opinions table site_tables gathered is found =
    subst (λ (a : Result (List (FsId × Entry)) (LineFault Rule)). GathersBy a opinions sources table site_tables gathered) is found

pub odd_with : (read : Result SiteTables SiteFault) (site_tables : SiteTables) (entries : List (FsId × Entry)) (sources : WholeSources) (opinions : Bool) (table : List Mount) (gathered : Gathered)
    → read ≡ Ok site_tables → whole_answer (rows_with Two table site_tables) sources.exports.text.now ≡ Ok entries → GathersWith read opinions sources table gathered
    → GathersOdd opinions sources table site_tables entries gathered
odd_with read site_tables entries sources opinions table gathered is reads found =
    odd_by (whole_answer (rows_with Two table site_tables) sources.exports.text.now) entries sources opinions table site_tables gathered reads
    (subst (λ (r : Result SiteTables SiteFault). GathersWith r opinions sources table gathered) is found)

-- what holds of all that is told of the texts holds of what is told of the exports text
pub exports_told : (P : Told → Type 0) (sources : WholeSources) (opinions : Bool) (table : List Mount) (site_tables : SiteTables) (entries : List (FsId × Entry)) (gathered : Gathered)
    (finds : GathersOdd opinions sources table site_tables entries gathered) → All P (map told gathered.findings) → All P finds.tell.exports
exports_told P sources opinions table site_tables entries gathered finds each =
    second_part P finds.tell.netgroup finds.tell.exports (subst (All P) finds.tell.are each)
