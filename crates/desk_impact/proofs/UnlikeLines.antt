-- Where no line matches that only one of two policies has, both say the same.
use Rattle.std.proofs.Common.{◌≡◌, ℕ, ◌+◌, ◌<◌, ◌^◌, ◌&&◌, not, Bool, false, cond, List, [], ◌∷◌, ◌++◌, append-nil, refl, sym, ap, ◌∙◌, subst, inl, inr}
use Rattle.std.specs.Prelude.{Option, Some, None, filter, find, is_none}
use Rattle.std.specs.List.{AllByRecursion, list_all}
use Rattle.std.proofs.lemmas.Bool.{cases_Bool}
use Rattle.std.proofs.lemmas.List.{append_assoc}
use Rattle.std.proofs.lemmas.List.Elements.{filter-append, filter_agree}
use Rattle.desk_text.specs.AddrSet.{is_among}
use Rattle.desk_tables.specs.FileSystems.{fs_of}
use Rattle.desk_policy.specs.Policy.{Content, rows_of}
use Rattle.desk_policy.specs.Verdict.{granted_by, lists, lists_here, verdict_among, verdict_in, verdict_of}
use Rattle.desk_policy.specs.Weights.{is_at_most, is_greatest, selected, weight_of}
use Rattle.desk_policy.specs.declared.row.Row.{Row}
use Rattle.desk_policy.proofs.VerdictLines.{among_agree, lists_same}
use Rattle.desk_who.specs.Starts.{IsSteadyLine}
use Rattle.desk_impact.specs.Impact.{AreStartsOfBoth, AreStartsOfChanges, HasNoLine, IsNotListed, mount_at, saying}
use Rattle.desk_impact.specs.PrivateUnlikeLines.{AreHomes, AreStartsOfUnlike, AreUnlike, IsPast, NoneMatches, matching}
use Rattle.desk_impact.proofs.Same.{Path}

-- ---- lines that do not match an address do not count there
abbrev is_matching : ℕ → Row → Bool
is_matching address row = not (is_none (weight_of row address))

pub matching_append : (address : ℕ) (rows more : List Row) → matching address (rows ++ more) ≡ matching address rows ++ matching address more
matching_append address rows more = filter-append (is_matching address) rows more

pub none_matching : (address : ℕ) (rows : List Row) → NoneMatches rows address → matching address rows ≡ []
none_matching address [] none = refl
none_matching address (row ∷ rows) none =
    ap (λ o. cond (not (is_none o)) (row ∷ matching address rows) (matching address rows)) none.0 ∙ none_matching address rows none.1

pub none_parts : (address : ℕ) (rows more : List Row) → NoneMatches (rows ++ more) address → NoneMatches rows address × NoneMatches more address
none_parts address [] more none = (tt, none)
none_parts address (row ∷ rows) more none = let parts = none_parts address rows more none.1 in ((none.0, parts.0), parts.1)

module _ (address weight : ℕ) where
  abbrev weighs_at_most : Row → Bool
  weighs_at_most row = is_at_most (weight_of row address) weight

  at_most_one : (row : Row) (rows : List Row) (o : Option ℕ) → weight_of row address ≡ o → list_all weighs_at_most rows ≡ list_all weighs_at_most (matching address rows)
      → list_all weighs_at_most (row ∷ rows) ≡ list_all weighs_at_most (matching address (row ∷ rows))
  at_most_one row rows None is rest =
      ap (λ o. is_at_most o weight && list_all weighs_at_most rows) is ∙ rest
      ∙ sym (ap (λ o. list_all weighs_at_most (cond (not (is_none o)) (row ∷ matching address rows) (matching address rows))) is)
  at_most_one row rows (Some w) is rest =
      ap (λ b. weighs_at_most row && b) rest
      ∙ sym (ap (λ o. list_all weighs_at_most (cond (not (is_none o)) (row ∷ matching address rows) (matching address rows))) is)

  at_most_matching : (rows : List Row) → list_all weighs_at_most rows ≡ list_all weighs_at_most (matching address rows)
  at_most_matching [] = refl
  at_most_matching (row ∷ rows) = at_most_one row rows (weight_of row address) refl (at_most_matching rows)

greatest_matching : (address : ℕ) (rows : List Row) (o : Option ℕ) → is_greatest rows address o ≡ is_greatest (matching address rows) address o
greatest_matching address rows None = refl
greatest_matching address rows (Some weight) = at_most_matching address weight rows

module _ (address : ℕ) (test : Option ℕ → Bool) (none : test None ≡ false) where
  abbrev passes : Row → Bool
  passes row = test (weight_of row address)

  kept_one : (row : Row) (rows : List Row) (o : Option ℕ) → weight_of row address ≡ o → filter passes rows ≡ filter passes (matching address rows)
      → filter passes (row ∷ rows) ≡ filter passes (matching address (row ∷ rows))
  kept_one row rows None is rest =
      ap (λ o. cond (test o) (row ∷ filter passes rows) (filter passes rows)) is ∙ ap (λ b. cond b (row ∷ filter passes rows) (filter passes rows)) none ∙ rest
      ∙ sym (ap (λ o. filter passes (cond (not (is_none o)) (row ∷ matching address rows) (matching address rows))) is)
  kept_one row rows (Some w) is rest =
      ap (λ some. cond (passes row) (row ∷ some) some) rest
      ∙ sym (ap (λ o. filter passes (cond (not (is_none o)) (row ∷ matching address rows) (matching address rows))) is)

  kept_matching : (rows : List Row) → filter passes rows ≡ filter passes (matching address rows)
  kept_matching [] = refl
  kept_matching (row ∷ rows) = kept_one row rows (weight_of row address) refl (kept_matching rows)

selected_matching : (address : ℕ) (rows : List Row) → selected rows address ≡ selected (matching address rows) address
unfolding selected
selected_matching address rows =
    kept_matching address (is_greatest rows address) refl rows
    ∙ filter_agree (λ row. is_greatest rows address (weight_of row address)) (λ row. is_greatest (matching address rows) address (weight_of row address))
    (λ row. greatest_matching address rows (weight_of row address)) (matching address rows)

same_selected : (address : ℕ) (old new : List Row) → matching address old ≡ matching address new → selected old address ≡ selected new address
same_selected address old new same = selected_matching address old ∙ ap (λ rows. selected rows address) same ∙ sym (selected_matching address new)

-- lines that neither begin nor cease to match at the next address, and do not match it, do not match this one
pub none_before : (address : ℕ) (decided : List ℕ) (rows : List Row) → address + 1 < 2 ^ 32 → is_among (address + 1) decided ≡ false → AllByRecursion (IsSteadyLine decided) rows
    → NoneMatches rows (address + 1) → NoneMatches rows address
none_before address decided [] fits away steady none = tt
none_before address decided (row ∷ rows) fits away steady none = (sym (steady.0 address fits away) ∙ none.0, none_before address decided rows fits away steady.1 none.1)

-- ---- so two policies say the same
module _ (before after : Content) (old new : ℕ) (mount : mount_at after new ≡ mount_at before old) where
  said_by : (first : Row) (found : Option Row) → saying after (granted_by (record { 0 = new }) first found) ≡ saying before (granted_by (record { 0 = old }) first found)
  said_by first None = ap (λ one. IsNotListed one first.entry.line) mount
  said_by first (Some row) = refl

  said_among : (listing : Row → Bool) (rows : List Row) → saying after (verdict_among (record { 0 = new }) listing rows) ≡ saying before (verdict_among (record { 0 = old }) listing rows)
  said_among listing [] = ap HasNoLine mount
  said_among listing (first ∷ others) = said_by first (find listing (first ∷ others))

  said_alike : (address : ℕ) (path : Path) → fs_of before.table path ≡ Some old → fs_of after.table path ≡ Some new → selected (rows_of before old) address ≡ selected (rows_of after new) address
      → saying after (verdict_of after address path) ≡ saying before (verdict_of before address path)
  unfolding verdict_of
  said_alike address path home home' same =
      ap (λ fs. saying after (verdict_in after address path fs)) home'
      ∙ sym (ap (saying after) (among_agree (record { 0 = new }) (lists_here path) (lists after new path) (lists_same after new path home') (selected (rows_of after new) address)))
      ∙ ap (λ rows. saying after (verdict_among (record { 0 = new }) (lists_here path) rows)) (sym same)
      ∙ said_among (lists_here path) (selected (rows_of before old) address)
      ∙ ap (saying before) (among_agree (record { 0 = old }) (lists_here path) (lists before old path) (lists_same before old path home) (selected (rows_of before old) address))
      ∙ sym (ap (λ fs. saying before (verdict_in before address path fs)) home)

-- ---- the addresses at which what they say may change
module _ (before after : Content) (path : Path) (starts : List ℕ) (both : AreStartsOfBoth before after path starts) where
  pub all_starts : AreStartsOfChanges before after path starts
  all_starts = record {
    behind = (both path refl refl).behind;
    steady = λ address fits none. inl (λ other same same'. (both other same same').steady address fits none);
  }

  module _ (old new : ℕ) (homes : AreHomes before after path old new) (decided : List ℕ) (are : AreStartsOfUnlike (rows_of before old) (rows_of after new) starts decided) where
    said : (address : ℕ) (other : Path) → fs_of before.table other ≡ fs_of before.table path → fs_of after.table other ≡ fs_of after.table path → NoneMatches are.unlike address
        → saying after (verdict_of after address other) ≡ saying before (verdict_of before address other)
    said address other same same' none =
        said_alike before after old new homes.mount address other (same ∙ homes.own) (same' ∙ homes.other) (same_selected address (rows_of before old) (rows_of after new) (are.are address none))

    pub unlike_starts : AreStartsOfChanges before after path decided
    unlike_starts = record {
      behind = are.within.behind;
      steady = λ address fits away. elim (cases_Bool (is_among (address + 1) starts)) [
        | inl there ↦
            let next = are.within.apart (address + 1) fits there away in
            let here = none_before address decided are.unlike fits away are.within.steady next in
            inr (λ other same same'. record { here = said address other same same' here; next = said (address + 1) other same same' next })
        | inr not ↦ inl (λ other same same'. (both other same same').steady address fits not)
      ];
    }

-- ---- lists that are looked through side by side
-- the first of the rest is the line
pub past_same : (row : Row) (rest left unlike : List Row) → rest ≡ row ∷ left → IsPast row rest left unlike unlike
past_same row rest left unlike front = record {
  before = λ address none. none;
  same = λ address none. sym (matching_append address (row ∷ []) left) ∙ ap (matching address) (sym front);
}

-- it is not: the line is added
pub past_none : (row : Row) (rest unlike more : List Row) → more ≡ unlike ++ row ∷ [] → IsPast row rest rest unlike more
past_none row rest unlike more added = record {
  before = λ address none. (none_parts address unlike (row ∷ []) (subst (λ rows. NoneMatches rows address) added none)).0;
  same = λ address none.
      let own = (none_parts address unlike (row ∷ []) (subst (λ rows. NoneMatches rows address) added none)).1 in
      ap (λ rows. rows ++ matching address rest) (none_matching address (row ∷ []) own);
}

-- behind others that are added
pub past_others : (row : Row) (rest front behind left unlike some more : List Row) → rest ≡ front ++ behind → some ≡ unlike ++ front → IsPast row behind left some more → IsPast row rest left unlike more
past_others row rest front behind left unlike some more split added past = record {
  before = λ address none. (parts address none).0;
  same = λ address none.
      past.same address none
      ∙ ap (λ rows. rows ++ matching address behind) (sym (none_matching address front (parts address none).1))
      ∙ sym (matching_append address front behind) ∙ ap (matching address) (sym split);
}
  where
    parts : (address : ℕ) → NoneMatches more address → NoneMatches unlike address × NoneMatches front address
    parts address none = none_parts address unlike front (subst (λ rows. NoneMatches rows address) added (past.before address none))

-- At each address that none of the unlike lines matches, those so far and the rest of the others are the others, as far as they match.
pub record AreBalanced (so_far rest new unlike : List Row) : Type 0 where
  pub same : (address : ℕ) → NoneMatches unlike address → matching address so_far ++ matching address rest ≡ matching address new

pub balanced_first : (new : List Row) → AreBalanced [] new new []
balanced_first new = record { same = λ address none. refl }

pub balanced_next : (so_far next : List Row) (row : Row) (rest left new unlike more : List Row) → next ≡ so_far ++ row ∷ [] → IsPast row rest left unlike more → AreBalanced so_far rest new unlike
    → AreBalanced next left new more
balanced_next so_far next row rest left new unlike more is past balanced = record {
  same = λ address none.
      ap (λ rows. matching address rows ++ matching address left) is
      ∙ ap (λ rows. rows ++ matching address left) (matching_append address so_far (row ∷ []))
      ∙ append_assoc (matching address so_far) (matching address (row ∷ [])) (matching address left)
      ∙ ap (λ rows. matching address so_far ++ rows) (past.same address none)
      ∙ balanced.same address (past.before address none);
}

pub balanced_all : (old rest new unlike more : List Row) → more ≡ unlike ++ rest → AreBalanced old rest new unlike → AreUnlike old new more
balanced_all old rest new unlike more added balanced address none =
    let parts = none_parts address unlike rest (subst (λ rows. NoneMatches rows address) added none) in
    sym (append-nil (matching address old)) ∙ ap (λ rows. matching address old ++ rows) (sym (none_matching address rest parts.1)) ∙ balanced.same address parts.0
