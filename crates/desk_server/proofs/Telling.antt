-- What is known of lines from looks at addresses, one after another.
use Rattle.std.proofs.Common.{◌≡◌, ◌⊎◌, ◌∙◌, ℕ, zero, suc, ◌<◌, ◌^◌, ◌&&◌, ◌++◌, Bool, true, false, cond, eqb, List, [], ◌∷◌, Option, Some, None, ap, arith, get_or, inl, inr, length, nat_cmp, refl, subst, sym, take}
use Rattle.std.specs.Prelude.{nat_lt}
use Rattle.std.specs.BTreeMap.{BTreeMap, is_at}
use Rattle.std.specs.BTreeMap as tree
use Rattle.std.specs.List.{All, Contains}
use Rattle.std.specs.List.Sorted.{IsStrictlyIncreasing}
use Rattle.std.specs.Map.{lookup}
use Rattle.std.specs.Option.{is_some}
use Rattle.std.proofs.lemmas.Bool.{and_right, cases_Bool, cases_eq, cond-true, cond-false, eq-eqb, eqb-true, ltb-true, ne_eqb, or_cases, or_left, or_right, true≢false}
use Rattle.std.proofs.lemmas.List.{get_or-map, get_or-take, length-map, length-take}
use Rattle.std.proofs.lemmas.List.Folds.{list_any-append}
use Rattle.std.proofs.lemmas.List.Kept.{AllPairs-from_increasing}
use Rattle.std.proofs.lemmas.Option.{cond_some}
use Rattle.desk_text.specs.Address.{number_of}
use Rattle.desk_text.specs.AddrSet.{is_among}
use Rattle.desk_exports.specs.declared.entry.Clients.{Clients}
use Rattle.desk_exports.specs.declared.entry.Clients.TheVariants as clients
use Rattle.desk_policy.specs.Keys.{HasBlock, LinesAreSelectedByKeys}
use Rattle.desk_policy.specs.Policy.{AreAscending}
use Rattle.desk_policy.specs.Weights.{name_weight, selected, weight_by, weight_of}
use Rattle.desk_policy.specs.declared.row.Row.{Row}
use Rattle.desk_idle.specs.Idle.{first_selected}
use Rattle.desk_idle.specs.PrivateMarks.{has_one_key}
use Rattle.desk_idle.specs.Selections.{addresses_of}
use Rattle.desk_idle.specs.declared.selections.Selection.{Selection}
use Rattle.desk_idle.proofs.Bringing.{one_line, selected_has}
use Rattle.desk_server.specs.PrivateWiderGrants.{AreTold, AreUpTo, IsFoundAmong, IsFoundAt, IsLook, IsSeen, IsTold, IsWide, Widened, is_kept}
use Rattle.desk_server.specs.declared.wider_grant.WiderGrant.{WiderGrant}
use Rattle.desk_server.proofs.Nesting.{same_wide}
use Rattle.desk_server.proofs.Widening.{selected_line}

-- ---- one address more

among_cases : (before : List ℕ) (address other : ℕ) → is_among other (before ++ address ∷ []) ≡ true → (is_among other before ≡ true) ⊎ (other ≡ address)
among_cases before address other e =
    elim (or_cases _ _ (sym (list_any-append (λ n. eqb n other) before (address ∷ [])) ∙ e)) [
      | inl earlier ↦ inl earlier
      | inr last ↦ elim (or_cases (eqb address other) false last) [
        | inl here ↦ inr (sym (eqb-true address other here))
        | inr wrong ↦ absurd (true≢false (sym wrong))
      ]
    ]

among_more : (before : List ℕ) (address other : ℕ) → is_among other before ≡ true → is_among other (before ++ address ∷ []) ≡ true
among_more before address other e = list_any-append (λ n. eqb n other) before (address ∷ []) ∙ or_left _ _ e

among_last : (before : List ℕ) (address : ℕ) → is_among address (before ++ address ∷ []) ≡ true
among_last before address = list_any-append (λ n. eqb n address) before (address ∷ []) ∙ or_right _ _ (or_left _ _ (eq-eqb address address refl))

-- clients that match an address with less weight than by a name have one key
one_key_by : (who : Clients) (addresses : List ℕ) (address weight : ℕ) → weight < name_weight → weight_by who addresses address ≡ Some weight → has_one_key who ≡ true
one_key_by (clients.Hosts names) addresses address weight few e = let s = cond_some (is_among address addresses) name_weight weight e in let same : 34 ≡ weight = s.1 in absurd (omega arith)
one_key_by (clients.Net net noted) addresses address weight few e = refl
one_key_by (clients.Net6 value) addresses address weight few e = let wrong : None ≡ Some weight = e in cc
one_key_by clients.World addresses address weight few e = refl

module _ (rows : List Row) (before : List ℕ) (address : ℕ) where
  abbrev more : List ℕ
  more = before ++ address ∷ []

  -- where this is not a look at the line, or finds nothing
  stays : (line : ℕ) (o : Option (Option WiderGrant)) → (IsWide rows line address → ⊥) → IsTold rows before line o → IsTold rows more line o
  stays line None not told = λ other among wide. elim (among_cases before address other among) [
    | inl earlier ↦ told other earlier wide
    | inr last ↦ not (subst (IsWide rows line) last wide)
  ]
  stays line (Some None) not told = told
  stays line (Some (Some found)) not told = record {
    number = told.number;
    is_address = told.is_address;
    first = told.first;
    at = told.at;
    among = among_more before address (number_of found.address) told.among;
    least = λ other among wide. elim (among_cases before address other among) [
      | inl earlier ↦ told.least other earlier wide
      | inr last ↦ absurd (not (subst (IsWide rows line) last wide))
    ];
  }

  -- what is known stays
  known_stays : (line : ℕ) (look : Option WiderGrant) → AreUpTo before address → IsTold rows before line (Some look) → IsTold rows more line (Some look)
  known_stays line None up told = told
  known_stays line (Some found) up told = record {
    number = told.number;
    is_address = told.is_address;
    first = told.first;
    at = told.at;
    among = among_more before address (number_of found.address) told.among;
    least = λ other among wide. elim (among_cases before address other among) [
      | inl earlier ↦ told.least other earlier wide
      | inr last ↦ (let le = up (number_of found.address) told.among in omega arith)
    ];
  }

  other_first : (first line : ℕ) → first_selected rows address ≡ Some first → (line ≡ first → ⊥) → IsWide rows line address → ⊥
  other_first first line is apart wide = let e : Some line ≡ Some first = sym wide.first ∙ is in apart cc

  -- ---- the looks

  pub told_nothing : (known : BTreeMap ℕ (Option WiderGrant)) → first_selected rows address ≡ None → AreTold rows before known → AreTold rows more known
  told_nothing known none are = λ line. stays line (tree.get nat_cmp known line) (λ wide. let wrong : Some line ≡ None = sym wide.first ∙ none in cc) (are line)

  told_by : (line : ℕ) (o : Option (Option WiderGrant)) → AreUpTo before address → is_some o ≡ true → IsTold rows before line o → IsTold rows more line o
  told_by line None up some told = absurd (true≢false (sym some))
  told_by line (Some look) up some told = known_stays line look up told

  pub told_known : (known : BTreeMap ℕ (Option WiderGrant)) (first : ℕ) → first_selected rows address ≡ Some first → is_some (tree.get nat_cmp known first) ≡ true → AreUpTo before address
      → AreTold rows before known → AreTold rows more known
  told_known known first is some up are = λ line. elim (cases_eq line first) [
    | inl same ↦ told_by line (tree.get nat_cmp known line) up (ap (λ n. is_some (tree.get nat_cmp known n)) same ∙ some) (are line)
    | inr apart ↦ stays line (tree.get nat_cmp known line) (other_first first line is apart) (are line)
  ]

  -- the selected lines weigh this, and this one is the first of them
  module _ (law : LinesAreSelectedByKeys) (ascending : AreAscending rows) (blocks : All (λ (row : Row). HasBlock row.entry.clients) rows) (below : address < 2 ^ 32)
      (weight : ℕ) (all : (row : Row) → Contains (selected rows address) row → weight_of row address ≡ Some weight) (first : ℕ) (is : first_selected rows address ≡ Some first) where
    -- where it is not selected by a name, it is the same wherever it is the first
    nowhere : weight < name_weight → (Widened rows address → ⊥) → (other : ℕ) → other < 2 ^ 32 → IsWide rows first other → ⊥
    nowhere few not other small wide =
        let here = selected_line (selected rows address) first is in
        let there = selected_line (selected rows other) first wide.first in
        let has = selected_has rows address here.row here.has in
        let same : there.row ≡ here.row = one_line rows there.row here.row ascending (selected_has rows other there.row there.has) has (there.number ∙ sym here.number) in
        let one = one_key_by here.row.entry.clients here.row.addrs address weight few (all here.row here.has) in
        not (same_wide law rows blocks here.row has one other address small below (subst (Contains (selected rows other)) same there.has) here.has wide.widened)

    seen : (found : WiderGrant) → IsSeen rows first address found → IsTold rows before first None → IsFoundAmong rows more first found
    seen found look told = record {
      number = look.number;
      is_address = subst (λ (n : ℕ). n < 2 ^ 32) (sym look.place) below;
      first = ap (first_selected rows) look.place ∙ is;
      at = subst (λ (n : ℕ). IsFoundAt rows n found) (sym look.place) look.at;
      among = ap (λ n. is_among n more) look.place ∙ among_last before address;
      least = λ other among wide. elim (among_cases before address other among) [
        | inl earlier ↦ absurd (told other earlier wide)
        | inr last ↦ (let place = look.place in omega arith)
      ];
    }

    -- what is known of the line then
    own_look : (look : Option WiderGrant) → IsLook rows first address look → IsTold rows before first None
        → IsTold rows more first (cond (is_kept look weight) (Some look) None)
    own_look (Some found) look told = seen found look told
    own_look None look told =
        elim (cases_Bool (nat_lt weight name_weight)) [
          | inl few ↦ subst (IsTold rows more first) (sym (cond-true (nat_lt weight name_weight) (Some None) None few)) (nowhere (ltb-true weight name_weight few) look)
          | inr many ↦ subst (IsTold rows more first) (sym (cond-false (nat_lt weight name_weight) (Some None) None many)) (stays first None (λ wide. look wide.widened) told)
        ]

    pub told_look : (old new : BTreeMap ℕ (Option WiderGrant)) (look : Option WiderGrant) → is_some (tree.get nat_cmp old first) ≡ false → IsLook rows first address look
        → ((line : ℕ) → tree.get nat_cmp new line ≡ cond (is_kept look weight && eqb first line) (Some look) (tree.get nat_cmp old line))
        → AreTold rows before old → AreTold rows more new
    told_look old new look unknown is_look updates are = λ line. elim (cases_eq line first) [
      | inl same ↦
          let none = is_none (tree.get nat_cmp old first) unknown in
          let here : eqb first line ≡ true = eq-eqb first line (sym same) in
          let told = subst (IsTold rows before first) none (are first) in
          subst (λ n. IsTold rows more n (tree.get nat_cmp new line)) (sym same)
          (subst (IsTold rows more first) (sym (updates line ∙ ap (λ b. cond (is_kept look weight && b) (Some look) (tree.get nat_cmp old line)) here ∙ ap (λ b. cond b (Some look) (tree.get nat_cmp old line)) (and_true (is_kept look weight))
          ∙ ap (λ o. cond (is_kept look weight) (Some look) o) (ap (tree.get nat_cmp old) same ∙ none)))
          (own_look look is_look told))
      | inr apart ↦
          let there : eqb first line ≡ false = ne_eqb first line (λ e. apart (sym e)) in
          subst (IsTold rows more line) (sym (updates line ∙ cond-false (is_kept look weight && eqb first line) (Some look) (tree.get nat_cmp old line) (and_right (is_kept look weight) (eqb first line) there)))
          (stays line (tree.get nat_cmp old line) (other_first first line is apart) (are line))
    ]
      where
        is_none : (o : Option (Option WiderGrant)) → is_some o ≡ false → o ≡ None
        is_none None e = refl
        is_none (Some k) e = absurd (true≢false e)

        and_true : (b : Bool) → (b && true) ≡ b
        and_true true = refl
        and_true false = refl

-- ---- the first look

-- without any look nothing is known
pub none_told : (rows : List Row) (known : BTreeMap ℕ (Option WiderGrant)) → known.entries ≡ [] → AreTold rows [] known
none_told rows known empty = λ line. subst (IsTold rows [] line) (sym (ap (λ (es : List (ℕ × Option WiderGrant)). lookup (is_at (nat_cmp line)) es) empty)) (λ address among wide. absurd (true≢false (sym among)))

pub none_up_to : (address : ℕ) → AreUpTo [] address
none_up_to address = λ other among. absurd (true≢false (sym among))

among_place : (xs : List ℕ) (other : ℕ) → is_among other xs ≡ true → (k : ℕ) × (k < length xs) × (get_or xs k 0 ≡ other)
among_place [] other e = absurd (true≢false (sym e))
among_place (x ∷ xs) other e =
    elim (or_cases (eqb x other) (is_among other xs) e) [
      | inl here ↦ (0, omega arith, eqb-true x other here)
      | inr later ↦ let rest = among_place xs other later in (suc rest.0, (let b = rest.1 in omega arith), rest.2)
    ]

-- numbers that rise are up to the next of them
pub rise_up_to : (numbers : List ℕ) (i : ℕ) → IsStrictlyIncreasing numbers → i < length numbers → AreUpTo (0 ∷ take i numbers) (get_or numbers i 0)
rise_up_to numbers i rise within other among =
    elim (or_cases (eqb 0 other) (is_among other (take i numbers)) among) [
      | inl here ↦ (let same = eqb-true 0 other here in omega arith)
      | inr later ↦
          let p = among_place (take i numbers) other later in
          let k = p.0 in
          let few = length-take i numbers in
          let b = p.1 in
          let small : k < i = omega arith in
          let less = AllPairs-from_increasing numbers rise k i 0 small within in
          let is : get_or numbers k 0 ≡ other = sym (get_or-take i numbers k 0 small) ∙ p.2 in
          omega arith
    ]

-- so are the addresses that are looked at
starts_up_to : (starts : List ℕ) (i : ℕ) → IsStrictlyIncreasing starts → i < length (0 ∷ starts) → AreUpTo (take i (0 ∷ starts)) (get_or (0 ∷ starts) i 0)
starts_up_to starts zero rise within = none_up_to 0
starts_up_to starts (suc i) rise within = rise_up_to starts i rise (omega arith)

pub up_to_next : (selections : List Selection) (starts : List ℕ) (i : ℕ) (d : Selection) → i < length selections → addresses_of selections ≡ 0 ∷ starts → IsStrictlyIncreasing starts
    → AreUpTo (take i (addresses_of selections)) (number_of (get_or selections i d).address)
up_to_next selections starts i d within are rise =
    let numbers = addresses_of selections in
    let few : length numbers ≡ length selections = length-map selections (λ (s : Selection). number_of s.address) in
    let longer = ap length are in
    subst (AreUpTo (take i numbers)) (get_or-map (λ (s : Selection). number_of s.address) selections i d 0 within)
    (subst (λ (ns : List ℕ). AreUpTo (take i ns) (get_or ns i 0)) (sym are) (starts_up_to starts i rise (omega arith)))
