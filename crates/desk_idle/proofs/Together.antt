-- Lines that are selected together, by the list of their numbers.
use Rattle.std.proofs.Common.{◌≡◌, ◌∙◌, ℕ, ◌<◌, ◌^◌, ◌++◌, Bor, true, false, eqb, List, [], ◌∷◌, ap, arith, get_or, inl, inr, refl, sym}
use Rattle.std.specs.Prelude.{◌⊎◌}
use Rattle.std.specs.BTreeMap.{BTreeMap, is_at}
use Rattle.std.specs.BTreeSet.{BTreeSet}
use Rattle.std.specs.BTreeSet as sorted
use Rattle.std.specs.List.{All, Contains, list_any}
use Rattle.std.proofs.lemmas.Bool.{eq-eqb, eqb-true, or_cases, or_left, or_right, true≢false}
use Rattle.std.proofs.lemmas.List.Elements.{All-contains_itself, All-head, All-tail}
use Rattle.std.proofs.lemmas.List.Folds.{list_any-append}
use Rattle.desk_text.specs.AddrSet.{is_among}
use Rattle.desk_policy.specs.Policy.{AreAscending}
use Rattle.desk_policy.specs.Weights.{selected}
use Rattle.desk_policy.specs.declared.row.Row.{Row}
use Rattle.desk_index.specs.Keys.{numbers}
use Rattle.desk_idle.specs.PrivateMarks.{AreMarks, AreSelected, HaveLooked, looks_at, order_of_lines}
use Rattle.desk_idle.specs.declared.marks.Mark.{Mark}
use Rattle.desk_idle.proofs.Bringing.{one_line, selected_has}
use Rattle.desk_idle.proofs.Skipping.{by_earlier}

-- an empty set has no list
pub nothing_known : (lists : BTreeSet (Bor (List ℕ))) → lists.keys ≡ [] → (lines : Bor (List ℕ)) → sorted.contains order_of_lines lists lines ≡ false
nothing_known lists empty lines = ap (λ (keys : List (Bor (List ℕ))). list_any (is_at (order_of_lines lines)) keys) empty

-- lines of the same numbers are the same
same_numbered : (rows : List Row) → AreAscending rows → (xs ys : List Row) → All (Contains rows) xs → All (Contains rows) ys → numbers xs ≡ numbers ys → xs ≡ ys
same_numbered rows ascending [] [] all all' e = refl
same_numbered rows ascending [] (y ∷ ys) all all' e = let wrong : [] ≡ y.entry.line ∷ numbers ys = e in cc
same_numbered rows ascending (x ∷ xs) [] all all' e = let wrong : x.entry.line ∷ numbers xs ≡ [] = e in cc
same_numbered rows ascending (x ∷ xs) (y ∷ ys) all all' e =
    let f : x.entry.line ∷ numbers xs ≡ y.entry.line ∷ numbers ys = e in
    let number : x.entry.line ≡ y.entry.line = cc in
    let rest : numbers xs ≡ numbers ys = cc in
    let same : x ≡ y = one_line rows x y ascending (All-head (Contains rows) x xs all) (All-head (Contains rows) y ys all') number in
    let others : xs ≡ ys = same_numbered rows ascending xs ys (All-tail (Contains rows) x xs all) (All-tail (Contains rows) y ys all') rest in
    ap (λ (z : Row). z ∷ xs) same ∙ ap (λ (zs : List Row). y ∷ zs) others

-- the selected lines are lines of the file system
pub all_selected : (rows : List Row) (address : ℕ) → All (Contains rows) (selected rows address)
all_selected rows address k d inside =
    let row = get_or (selected rows address) k d in
    selected_has rows address row (All-contains_itself (selected rows address) k d inside)

module _ (rows : List Row) (before : List ℕ) (address : ℕ) where
  abbrev after : List ℕ
  after = before ++ address ∷ []

  among_more : (other : ℕ) → is_among other before ≡ true → is_among other after ≡ true
  among_more other among = list_any-append (λ n. eqb n other) before (address ∷ []) ∙ or_left _ _ among

  among_last : is_among address after ≡ true
  among_last = list_any-append (λ n. eqb n address) before (address ∷ []) ∙ or_right _ _ (or_left _ _ (eq-eqb address address refl))

  below_more : ((other : ℕ) → is_among other before ≡ true → other < 2 ^ 32) → address < 2 ^ 32 → (other : ℕ) → is_among other after ≡ true → other < 2 ^ 32
  below_more below small other among =
      elim (or_cases (is_among other before) (is_among other (address ∷ [])) (sym (list_any-append (λ n. eqb n other) before (address ∷ [])) ∙ among)) [
        | inl earlier ↦ below other earlier
        | inr last ↦ elim (or_cases (eqb address other) false last) [
          | inl here ↦ (let same = eqb-true address other here in omega arith)
          | inr wrong ↦ absurd (true≢false (sym wrong))
        ]
      ]

  selected_more : (lines : List ℕ) → AreSelected rows before lines → AreSelected rows after lines
  selected_more lines s = record { address = s.address; among = among_more s.address s.among; are = s.are }

  -- nothing is marked, and no list is kept
  pub look_at_nothing : (marks : BTreeMap ℕ Mark) (lists : BTreeSet (Bor (List ℕ))) → address < 2 ^ 32 → AreMarks (looks_at rows after) marks → HaveLooked rows before marks lists → HaveLooked rows after marks lists
  look_at_nothing marks lists small tell have = record { below = below_more have.below small; tell = tell; known = λ lines has. selected_more lines.now (have.known lines has) }

  -- lines that were selected together elsewhere
  pub look_again : AreAscending rows → (marks : BTreeMap ℕ Mark) (lists : BTreeSet (Bor (List ℕ))) (lines : Bor (List ℕ)) → address < 2 ^ 32 → lines.now ≡ numbers (selected rows address)
      → sorted.contains order_of_lines lists lines ≡ true → HaveLooked rows before marks lists → AreMarks (looks_at rows after) marks
  look_again ascending marks lists lines small are has have =
      let s = have.known lines has in
      by_earlier rows before address (record {
        at = s.address;
        among = s.among;
        same = same_numbered rows ascending (selected rows s.address) (selected rows address) (all_selected rows s.address) (all_selected rows address) (sym s.are ∙ are);
      }) marks have.tell

  -- lists in which these lines may be new are known to be selected
  lists_more : (old new : BTreeSet (Bor (List ℕ))) (lines : List ℕ) → lines ≡ numbers (selected rows address)
      → ((other : Bor (List ℕ)) → sorted.contains order_of_lines new other ≡ true → (lines ≡ other.now) ⊎ (sorted.contains order_of_lines old other ≡ true))
      → ((other : Bor (List ℕ)) → sorted.contains order_of_lines old other ≡ true → AreSelected rows before other.now)
      → (other : Bor (List ℕ)) → sorted.contains order_of_lines new other ≡ true → AreSelected rows after other.now
  lists_more old new lines are adds known other has =
      elim (adds other has) [
        | inl same ↦ record { address = address; among = among_last; are = sym same ∙ are }
        | inr earlier ↦ selected_more other.now (known other earlier)
      ]

  pub look_at_lines : (old new : BTreeMap ℕ Mark) (lists more : BTreeSet (Bor (List ℕ))) (lines : List ℕ) → address < 2 ^ 32 → lines ≡ numbers (selected rows address)
      → ((other : Bor (List ℕ)) → sorted.contains order_of_lines more other ≡ true → (lines ≡ other.now) ⊎ (sorted.contains order_of_lines lists other ≡ true))
      → AreMarks (looks_at rows after) new → HaveLooked rows before old lists → HaveLooked rows after new more
  look_at_lines old new lists more lines small are adds tell have = record { below = below_more have.below small; tell = tell; known = lists_more lists more lines are adds have.known }
