-- On a written directory the verdicts are those on the directories that no line writes, but where a line that writes it matches.
use Rattle.std.proofs.Common.{◌≡◌, ℕ, ◌+◌, ◌<◌, Bool, true, false, List, [], ◌∷◌, length, map, refl, sym, ap, ◌∙◌, arith, inl, inr, subst}
use Rattle.std.specs.Prelude.{Contains, Option, Some, None, filter, get_or}
use Rattle.std.specs.List.{AllByRecursion, flat_map}
use Rattle.std.proofs.lemmas.Bool.{cases_Bool, cases_lt, false_from_ne_true, true≢false}
use Rattle.std.proofs.lemmas.List.{get_or_default, get_or_past}
use Rattle.std.proofs.lemmas.List.Elements.{All-contains, All-from_recursion, Contains-append_left, Contains-append_right, recursion_from_All}
use Rattle.desk_text.specs.AddrSet.{is_among}
use Rattle.desk_tables.specs.FileSystems.{fs_of}
use Rattle.desk_policy.specs.Policy.{Content, rows_of}
use Rattle.desk_policy.specs.Verdict.{is_directory_among, verdict_in, verdict_of}
use Rattle.desk_policy.specs.Weights.{is_greatest, selected, weight_of}
use Rattle.desk_policy.specs.declared.row.Row.{Row}
use Rattle.desk_who.specs.MostlySame.{AreStartsWithin, GoTogether}
use Rattle.desk_who.specs.Searching.{AreFoundStarts, AsksThoseThatMatch, Rule, found_at}
use Rattle.desk_impact.specs.MostlySame.{ChangesGoTogether}
use Rattle.desk_impact.specs.Impact.{AreStartsOfChanges, SayTheSameOn, TwoVerdicts, saying, verdicts_at}
use Rattle.desk_impact.specs.Places.{Others, dirs_of_both, mounts_of_both, place_verdict, place_verdicts, verdict_elsewhere}
use Rattle.desk_impact.specs.Sections.{found_elsewhere, found_of}
use Rattle.desk_impact.specs.Writings.{AreWritings, Written, writing_value, written_by, written_by_all, written_by_both}
use Rattle.desk_impact.specs.PrivateWritings.{HasWriters}
use Rattle.desk_impact.specs.declared.writings.Writing.{Writing}
use Rattle.desk_impact.proofs.Covering.{flat_at}
use Rattle.desk_impact.proofs.Elsewhere.{LacksPath, among, decided_as_others, home_fs}
use Rattle.desk_impact.proofs.FoundElsewhere.{IsSilent, as_others, outside as found_outside}
use Rattle.desk_impact.proofs.HavingOthers.{mounts_have_others}
use Rattle.desk_impact.proofs.Same.{Path, contained, contains_map}
use Rattle.desk_impact.proofs.UnlikeLines.{none_before}

-- ---- where no line that writes a path matches
selected_lack : (path : Path) (address : ℕ) (all rows : List Row) → AllByRecursion (IsSilent path address) rows
    → AllByRecursion (LacksPath path) (filter (λ row. is_greatest all address (weight_of row address)) rows)
unfolding LacksPath
selected_lack path address all [] silent = tt
selected_lack path address all (row ∷ rows) silent =
    let rest = selected_lack path address all rows silent.1 in
    let test : Row → Bool = λ one. is_greatest all address (weight_of one address) in
    elim (cases_Bool (test row)) as (λ _. AllByRecursion (LacksPath path) (filter test (row ∷ rows))) [
      | inl is ↦
          let lacks : is_directory_among path row.entry.dirs ≡ false = false_from_ne_true _ (λ writes. true≢false (sym is ∙ ap (is_greatest all address) (silent.0 writes))) in
          rw is (lacks, rest)
      | inr not ↦ rw not rest
    ]

of_silent : (content : Content) (path : Path) (address : ℕ) (fs : Option ℕ) → fs_of content.table path ≡ fs → ((own : ℕ) → fs ≡ Some own → AllByRecursion (IsSilent path address) (rows_of content own))
    → verdict_in content address path fs ≡ verdict_elsewhere content address fs
unfolding selected
of_silent content path address None home silent = refl
of_silent content path address (Some fs) home silent =
    among content fs path home (filter (λ row. is_greatest (rows_of content fs) address (weight_of row address)) (rows_of content fs))
    (selected_lack path address (rows_of content fs) (rows_of content fs) (silent fs refl))

-- there the verdict is that on the directories that no line writes
outside : (content : Content) (path : Path) (address : ℕ) → ((own : ℕ) → AllByRecursion (IsSilent path address) (rows_of content own))
    → verdict_of content address path ≡ verdict_elsewhere content address (fs_of content.table path)
unfolding verdict_of
outside content path address silent = of_silent content path address (fs_of content.table path) refl (λ own is. silent own)

-- ---- the lines that write a path
module _ (before after : Content) (writings : List Writing) (are : AreWritings before after writings) (path : Path) (rows : List Row) (have : HasWriters writings path rows) where
  among_writers : (row : Row) (lists : List (List Row)) (fs : ℕ) → Contains (get_or lists fs []) row → is_directory_among path row.entry.dirs ≡ true → Contains (flat_map written_by_all lists) (record { dir = path; row = row })
  among_writers row lists fs there writes =
      elim (cases_lt fs (length lists)) [
        | inl within ↦
            let own : List Row = get_or lists fs [] in
            let one : Written = record { dir = path; row = row } in
            let dir : Contains (written_by row) one = contains_map (λ d. record { dir = d; row = row }) row.entry.dirs path (contained path row.entry.dirs writes) in
            let here : Contains (written_by_all own) one = flat_at written_by own row one there.0 there.1 there.2 dir in
            flat_at written_by_all lists own one fs within (get_or_default lists fs own [] within) here
        | inr past ↦ absurd (none (ap (λ (rs : List Row). length rs) (get_or_past lists fs [] past)) there.1)
      ]
    where
      none : length (get_or lists fs []) ≡ 0 → there.0 < length (get_or lists fs []) → ⊥
      none empty less = omega arith

  silent_by : (address : ℕ) → AllByRecursion (λ row. weight_of row address ≡ None) rows → (content : Content)
      → ((row : Row) → Contains (flat_map written_by_all content.rows) (record { dir = path; row = row }) → Contains (written_by_both before after) (record { dir = path; row = row }))
      → (own : ℕ) → AllByRecursion (IsSilent path address) (rows_of content own)
  silent_by address none content both own =
      recursion_from_All (IsSilent path address) (rows_of content own)
      (λ k d below writes.
      let row = get_or (rows_of content own) k d in
      let written = among_writers row content.rows own (k, below, get_or_default (rows_of content own) k row d below) writes in
      let listed = All-contains (Contains (map writing_value writings)) (written_by_both before after) (record { dir = path; row = row }) are.all (both row written) in
      All-contains (λ one. weight_of one address ≡ None) rows row (All-from_recursion (λ one. weight_of one address ≡ None) rows none) (have (record { dir = path; row = row }) listed refl))

  silent_before : (address : ℕ) → AllByRecursion (λ row. weight_of row address ≡ None) rows → (own : ℕ) → AllByRecursion (IsSilent path address) (rows_of before own)
  silent_before address none = silent_by address none before (λ row at. Contains-append_left (flat_map written_by_all before.rows) (flat_map written_by_all after.rows) (record { dir = path; row = row }) at)

  silent_after : (address : ℕ) → AllByRecursion (λ row. weight_of row address ≡ None) rows → (own : ℕ) → AllByRecursion (IsSilent path address) (rows_of after own)
  silent_after address none = silent_by address none after (λ row at. Contains-append_right (flat_map written_by_all before.rows) (flat_map written_by_all after.rows) (record { dir = path; row = row }) at)

-- ---- verdicts on a path go with those on the directories that no line writes
module _ (before after : Content) (home path : Path) (same : fs_of before.table path ≡ fs_of before.table home) (same' : fs_of after.table path ≡ fs_of after.table home)
    (writings : List Writing) (are : AreWritings before after writings) (rows : List Row) (have : HasWriters writings path rows) where
  alike_before : (address : ℕ) → AllByRecursion (λ row. weight_of row address ≡ None) rows → verdict_of before address path ≡ place_verdict before (Others home) address
  alike_before address none = outside before path address (silent_before before after writings are path rows have address none) ∙ ap (verdict_elsewhere before address) same

  alike_after : (address : ℕ) → AllByRecursion (λ row. weight_of row address ≡ None) rows → verdict_of after address path ≡ place_verdict after (Others home) address
  alike_after address none = outside after path address (silent_after before after writings are path rows have address none) ∙ ap (verdict_elsewhere after address) same'

  alike : (address : ℕ) → AllByRecursion (λ row. weight_of row address ≡ None) rows → verdicts_at before after path address ≡ place_verdicts before after (Others home) address
  alike address none =
      ap (λ v. record { before = v; after = verdict_of after address path }) (alike_before address none)
      ∙ ap (λ v. record { before = place_verdict before (Others home) address; after = v }) (alike_after address none)

  -- where the policies say the same of each path, they say it of those that no line writes
  others_say : (other : Path) (address : ℕ) → ((a : ℕ) → verdicts_at before after other a ≡ place_verdicts before after (Others home) a) → SayTheSameOn before after (verdicts_at before after other) address
      → SayTheSameOn before after (place_verdicts before after (Others home)) address
  others_say other address as_others say = record {
    here = subst (λ (v : TwoVerdicts). saying after v.after ≡ saying before v.before) (as_others address) say.here;
    next = subst (λ (v : TwoVerdicts). saying after v.after ≡ saying before v.before) (as_others (address + 1)) say.next;
  }

  pub verdicts_go : (starts decided : List ℕ) → AreStartsOfChanges before after home starts → AreStartsWithin starts rows decided
      → ChangesGoTogether before after (verdicts_at before after path) (place_verdicts before after (Others home)) decided
  verdicts_go starts decided changes within address fits away =
      elim (cases_Bool (is_among (address + 1) starts)) [
        | inl there ↦
            let none = within.apart (address + 1) fits there away in
            inl (record { here = alike address (none_before address decided rows fits away within.steady none); next = alike (address + 1) none })
        | inr not ↦
            let other = mounts_have_others (mounts_of_both before after) (dirs_of_both before after) home in
            let fs = home_fs before after home other.path other.home in
            let as_others = decided_as_others before after home other.path other.home other.unwritten in
            inr (elim (changes.steady address fits not) [
              | inl steady ↦ inl (record {
                own = steady path same same';
                other = sym (as_others (address + 1)) ∙ steady other.path fs.0 fs.1 ∙ as_others address;
              })
              | inr say ↦ inr (say path same same', others_say other.path address as_others (say other.path fs.0 fs.1))
            ])
      ]

-- and so does what is found
module _ {A : Type 0} (rule : Rule A) (asks : AsksThoseThatMatch rule) (content : Content) (home path : Path) (same : fs_of content.table path ≡ fs_of content.table home)
    (writings : List Writing) (are : AreWritings content content writings) (rows : List Row) (have : HasWriters writings path rows) where
  found_alike : (address : ℕ) → AllByRecursion (λ row. weight_of row address ≡ None) rows → found_at rule content path address ≡ found_of rule content (Others home) address
  found_alike address none =
      found_outside rule asks content path address (silent_before content content writings are path rows have address none) ∙ ap (λ fs. found_elsewhere rule content fs address) same

  pub found_go : (starts decided : List ℕ) → AreFoundStarts rule content home starts → AreStartsWithin starts rows decided → GoTogether (found_at rule content path) (found_of rule content (Others home)) decided
  found_go starts decided steady within address fits away =
      elim (cases_Bool (is_among (address + 1) starts)) [
        | inl there ↦
            let none = within.apart (address + 1) fits there away in
            inl (record { here = found_alike address (none_before address decided rows fits away within.steady none); next = found_alike (address + 1) none })
        | inr not ↦
            let other = mounts_have_others (mounts_of_both content content) (dirs_of_both content content) home in
            let fs = home_fs content content home other.path other.home in
            let others : (a : ℕ) → found_at rule content other.path a ≡ found_of rule content (Others home) a = λ a. as_others rule asks content other.path a home other.home other.unwritten in
            inr (record {
              own = (steady path same).steady address fits not;
              other = sym (others (address + 1)) ∙ (steady other.path fs.0).steady address fits not ∙ others address;
            })
      ]
