-- What there is to see of a line where the lines that are selected with it are looked at.
use Rattle.std.proofs.Common.{◌≡◌, ◌⊎◌, ◌∙◌, ℕ, ◌<◌, ◌≤◌, ◌&&◌, ◌||◌, ◌++◌, Bool, true, false, eqb, List, [], ◌∷◌, Option, Some, None, ap, arith, get_or, inl, inr, refl, sym}
use Rattle.std.specs.Prelude.{find, slice_get}
use Rattle.std.specs.List.{AllByRecursion, Contains, flat_map, list_any}
use Rattle.std.specs.Option.{option_map, option_or}
use Rattle.std.proofs.lemmas.Bool.{cases_Bool, cond-true, cond-false, eq-eqb, eqb-true, or_cases, or_left, or_right, true≢false}
use Rattle.std.proofs.lemmas.List.{append-nil, append_assoc}
use Rattle.std.proofs.lemmas.List.Elements.{Contains-append_cases, Contains-append_right}
use Rattle.std.proofs.lemmas.List.Folds.{find-append, list_any-append}
use Rattle.desk_text.specs.AddrSet.{is_among}
use Rattle.desk_policy.specs.declared.row.Row.{Row}
use Rattle.desk_idle.specs.Laws.{brings}
use Rattle.desk_idle.specs.PrivateMarks.{Look, brings_of, is_of, looks_among, looks_by}
use Rattle.desk_idle.proofs.Lists.{in_middle}

-- ---- lists

-- an element of a list is its first, or one of the others
pub first_or : {X : Type 0} (y : X) (ys : List X) (x : X) → Contains (y ∷ ys) x → (y ≡ x) ⊎ Contains ys x
first_or y ys x has =
    elim (Contains-append_cases (y ∷ []) ys x has) [
      | inl here ↦ inl (only here)
      | inr later ↦ inr later
    ]
  where
    only : Contains (y ∷ []) x → y ≡ x
    only here = (let at : here.0 ≡ 0 = (let b = here.1 in omega arith) in ap (λ k. get_or (y ∷ []) k x) (sym at) ∙ here.2)

pub found_passes : {X : Type 0} (p : X → Bool) (xs : List X) (x : X) → find p xs ≡ Some x → list_any p xs ≡ true
found_passes p [] x e = let wrong : None ≡ Some x = e in cc
found_passes p (y ∷ xs) x e =
    elim (cases_Bool (p y)) [
      | inl passes ↦ or_left _ _ passes
      | inr fails ↦ or_right _ _ (found_passes p xs x (sym (cond-false (p y) (Some y) (find p xs) fails) ∙ e))
    ]

pub none_passes : {X : Type 0} (p : X → Bool) (xs : List X) → find p xs ≡ None → list_any p xs ≡ true → ⊥
none_passes p [] e passes = true≢false (sym passes)
none_passes p (x ∷ xs) e passes =
    elim (cases_Bool (p x)) [
      | inl here ↦ let wrong : Some x ≡ None = sym (cond-true (p x) (Some x) (find p xs) here) ∙ e in cc
      | inr fails ↦ none_passes p xs (sym (cond-false (p x) (Some x) (find p xs) fails) ∙ e) (sym (ap (λ b. b || list_any p xs) fails) ∙ passes)
    ]

pub none_found : {X : Type 0} (p : X → Bool) (xs : List X) → list_any p xs ≡ false → find p xs ≡ None
none_found {X = X} p xs none = by_find (find p xs) refl
  where
    by_find : (o : Option X) → find p xs ≡ o → find p xs ≡ None
    by_find None e = e
    by_find (Some x) e = absurd (true≢false (sym (found_passes p xs x e) ∙ none))

-- where one of the parts of a list is, at which some element passes
pub record Part {X : Type 0} (p : X → Bool) (f : ℕ → List X) (xs : List ℕ) : Type 0 where
  pub at : ℕ
  pub among : is_among at xs ≡ true
  pub passes : list_any p (f at) ≡ true

pub any_part : {X : Type 0} (p : X → Bool) (f : ℕ → List X) (xs : List ℕ) → list_any p (flat_map f xs) ≡ true → Part p f xs
any_part p f [] e = absurd (true≢false (sym e))
any_part p f (x ∷ xs) e =
    elim (or_cases _ _ (sym (list_any-append p (f x) (flat_map f xs)) ∙ e)) [
      | inl here ↦ record { at = x; among = or_left _ _ (eq-eqb x x refl); passes = here }
      | inr later ↦ let part = any_part p f xs later in record { at = part.at; among = or_right _ _ part.among; passes = part.passes }
    ]

pub part_any : {X : Type 0} (p : X → Bool) (f : ℕ → List X) (xs : List ℕ) (at : ℕ) → is_among at xs ≡ true → list_any p (f at) ≡ true → list_any p (flat_map f xs) ≡ true
part_any p f [] at among passes = absurd (true≢false (sym among))
part_any p f (x ∷ xs) at among passes =
    list_any-append p (f x) (flat_map f xs)
    ∙ elim (or_cases (eqb x at) (is_among at xs) among) as (λ _. (list_any p (f x) || list_any p (flat_map f xs)) ≡ true) [
      | inl here ↦ or_left _ _ (ap (λ n. list_any p (f n)) (eqb-true x at here) ∙ passes)
      | inr later ↦ or_right _ _ (part_any p f xs at later passes)
    ]

-- numbers, each of which is below all later ones
unfoldable pub Rise : List ℕ → Type 0
Rise [] = Unit {0}
Rise (x ∷ xs) = AllByRecursion (λ (y : ℕ). x < y) xs × Rise xs

below_among : (x : ℕ) (xs : List ℕ) (y : ℕ) → AllByRecursion (λ (z : ℕ). x < z) xs → is_among y xs ≡ true → x < y
below_among x [] y all among = absurd (true≢false (sym among))
below_among x (z ∷ xs) y all among =
    elim (or_cases _ _ among) [
      | inl here ↦ (let same = eqb-true z y here in let h = all.0 in omega arith)
      | inr later ↦ below_among x xs y all.1 later
    ]

-- the first part of which an element passes
pub record FirstPart {X : Type 0} (p : X → Bool) (f : ℕ → List X) (xs : List ℕ) (x : X) : Type 0 where
  pub at : ℕ
  pub among : is_among at xs ≡ true
  pub found : find p (f at) ≡ Some x
  pub least : (other : ℕ) → is_among other xs ≡ true → list_any p (f other) ≡ true → at ≤ other

first_or_later : {X : Type 0} (p : X → Bool) (f : ℕ → List X) (x : ℕ) (xs : List ℕ) (y : X) → AllByRecursion (λ (z : ℕ). x < z) xs → option_or (find p (f x)) (find p (flat_map f xs)) ≡ Some y
    → (find p (flat_map f xs) ≡ Some y → FirstPart p f xs y) → (o : Option X) → find p (f x) ≡ o → FirstPart p f (x ∷ xs) y
first_or_later p f x xs y above whole later (Some z) is = record {
  at = x;
  among = or_left _ _ (eq-eqb x x refl);
  found = is ∙ sym (ap (λ o. option_or o (find p (flat_map f xs))) is) ∙ whole;
  least = λ other among passes. elim (or_cases (eqb x other) (is_among other xs) among) [
    | inl here ↦ (let same = eqb-true x other here in omega arith)
    | inr behind ↦ (let lt = below_among x xs other above behind in omega arith)
  ];
}
first_or_later p f x xs y above whole later None is =
    let rest = later (sym (ap (λ o. option_or o (find p (flat_map f xs))) is) ∙ whole) in
    record {
      at = rest.at;
      among = or_right _ _ rest.among;
      found = rest.found;
      least = λ other among passes. elim (or_cases (eqb x other) (is_among other xs) among) [
        | inl here ↦ absurd (none_passes p (f x) is (ap (λ n. list_any p (f n)) (eqb-true x other here) ∙ passes))
        | inr behind ↦ rest.least other behind passes
      ];
    }

pub first_part : {X : Type 0} (p : X → Bool) (f : ℕ → List X) (xs : List ℕ) (y : X) → Rise xs → find p (flat_map f xs) ≡ Some y → FirstPart p f xs y
unfolding Rise
first_part p f [] y rise e = let wrong : None ≡ Some y = e in cc
first_part p f (x ∷ xs) y rise e =
    first_or_later p f x xs y rise.0 (sym (find-append p (f x) (flat_map f xs)) ∙ e) (λ later. first_part p f xs y rise.1 later) (find p (f x)) refl

-- ---- looks among the lines that are selected at an address

-- one of these lines that has this number brings something to those before it
pub record Bringer (line : ℕ) (earlier rows : List Row) : Type 0 where
  pub before : List Row
  pub row : Row
  pub later : List Row
  pub are : rows ≡ before ++ row ∷ later
  pub number : row.entry.line ≡ line
  pub brought : brings (earlier ++ before) row ≡ true

pub bringer : (line first address : ℕ) (earlier rows : List Row) → list_any (brings_of line) (looks_among first address earlier rows) ≡ true → Bringer line earlier rows
bringer line first address earlier [] e = absurd (true≢false (sym e))
bringer line first address earlier (row ∷ rows) e =
    elim (or_cases (eqb row.entry.line line && brings earlier row) _ e) [
      | inl here ↦ elim (cases_Bool (eqb row.entry.line line)) [
        | inl own ↦ record {
          before = [];
          row = row;
          later = rows;
          are = refl;
          number = eqb-true row.entry.line line own;
          brought = ap (λ (ys : List Row). brings ys row) (append-nil earlier) ∙ sym (ap (λ b. b && brings earlier row) own) ∙ here;
        }
        | inr not ↦ absurd (true≢false (sym here ∙ ap (λ b. b && brings earlier row) not))
      ]
      | inr later ↦
          let rest = bringer line first address (earlier ++ row ∷ []) rows later in
          record {
            before = row ∷ rest.before;
            row = rest.row;
            later = rest.later;
            are = ap (λ (ys : List Row). row ∷ ys) rest.are;
            number = rest.number;
            brought = ap (λ (ys : List Row). brings ys rest.row) (sym (append_assoc earlier (row ∷ []) rest.before)) ∙ rest.brought;
          }
    ]

pub brought_looks : (first address : ℕ) (earlier before : List Row) (row : Row) (later : List Row) → brings (earlier ++ before) row ≡ true
    → list_any (brings_of row.entry.line) (looks_among first address earlier (before ++ row ∷ later)) ≡ true
brought_looks first address earlier [] row later e =
    or_left _ _ (ap (λ b. b && brings earlier row) (eq-eqb row.entry.line row.entry.line refl) ∙ ap (λ (ys : List Row). brings ys row) (sym (append-nil earlier)) ∙ e)
brought_looks first address earlier (other ∷ before) row later e =
    or_right _ _ (brought_looks first address (earlier ++ other ∷ []) before row later (ap (λ (ys : List Row). brings ys row) (append_assoc earlier (other ∷ []) before) ∙ e))

-- a line of this number that is looked at
pub record Seen (line first address : ℕ) (rows : List Row) (look : Look) : Type 0 where
  pub row : Row
  pub has : Contains rows row
  pub number : row.entry.line ≡ line
  pub is_first : look.first ≡ first
  pub is_address : look.address ≡ address

more_lines : {X : Type 0} (y : X) (ys : List X) (x : X) → Contains ys x → Contains (y ∷ ys) x
more_lines y ys x has = Contains-append_right (y ∷ []) ys x has

pub seen : (line first address : ℕ) (earlier rows : List Row) (look : Look) → find (is_of line) (looks_among first address earlier rows) ≡ Some look → Seen line first address rows look
seen line first address earlier [] look e = let wrong : None ≡ Some look = e in cc
seen line first address earlier (row ∷ rows) look e =
    let own : Look = record { line = row.entry.line; first = first; address = address; brought = brings earlier row } in
    elim (cases_Bool (eqb row.entry.line line)) [
      | inl here ↦
          let same : own ≡ look = (let f : Some own ≡ Some look = sym (cond-true (eqb row.entry.line line) (Some own) (find (is_of line) (looks_among first address (earlier ++ row ∷ []) rows)) here) ∙ e in cc) in
          record { row = row; has = in_middle [] row rows; number = eqb-true row.entry.line line here; is_first = ap (λ (l : Look). l.first) (sym same); is_address = ap (λ (l : Look). l.address) (sym same) }
      | inr later ↦
          let rest = seen line first address (earlier ++ row ∷ []) rows look (sym (cond-false (eqb row.entry.line line) (Some own) (find (is_of line) (looks_among first address (earlier ++ row ∷ []) rows)) later) ∙ e) in
          record { row = rest.row; has = more_lines row rows rest.row rest.has; number = rest.number; is_first = rest.is_first; is_address = rest.is_address }
    ]

looked_at : (first address : ℕ) (earlier rows : List Row) (row : Row) → Contains rows row → list_any (is_of row.entry.line) (looks_among first address earlier rows) ≡ true
looked_at first address earlier [] row has = absurd (let b = has.1 in omega arith)
looked_at first address earlier (other ∷ rows) row has =
    elim (first_or other rows row has) [
      | inl here ↦ or_left _ _ (eq-eqb other.entry.line row.entry.line (ap (λ (r : Row). r.entry.line) here))
      | inr later ↦ or_right _ _ (looked_at first address (earlier ++ other ∷ []) rows row later)
    ]

-- ---- looks at an address, whatever it is

same_brings : (line first address other : ℕ) (earlier rows : List Row) → list_any (brings_of line) (looks_among first address earlier rows) ≡ list_any (brings_of line) (looks_among first other earlier rows)
same_brings line first address other earlier [] = refl
same_brings line first address other earlier (row ∷ rows) = ap (λ b. (eqb row.entry.line line && brings earlier row) || b) (same_brings line first address other (earlier ++ row ∷ []) rows)

same_lines : (line first address other : ℕ) (earlier rows : List Row) → list_any (is_of line) (looks_among first address earlier rows) ≡ list_any (is_of line) (looks_among first other earlier rows)
same_lines line first address other earlier [] = refl
same_lines line first address other earlier (row ∷ rows) = ap (λ b. eqb row.entry.line line || b) (same_lines line first address other (earlier ++ row ∷ []) rows)

pub same_brings_by : (line address other : ℕ) (rows : List Row) → list_any (brings_of line) (looks_by address rows) ≡ list_any (brings_of line) (looks_by other rows)
same_brings_by line address other [] = refl
same_brings_by line address other (row ∷ rows) = same_brings line row.entry.line address other [] (row ∷ rows)

pub same_lines_by : (line address other : ℕ) (rows : List Row) → list_any (is_of line) (looks_by address rows) ≡ list_any (is_of line) (looks_by other rows)
same_lines_by line address other [] = refl
same_lines_by line address other (row ∷ rows) = same_lines line row.entry.line address other [] (row ∷ rows)

pub looked_by : (address : ℕ) (rows : List Row) (row : Row) → Contains rows row → list_any (is_of row.entry.line) (looks_by address rows) ≡ true
looked_by address [] row has = absurd (let b = has.1 in omega arith)
looked_by address (first ∷ others) row has = looked_at first.entry.line address [] (first ∷ others) row has

pub bringer_by : (line address : ℕ) (rows : List Row) → list_any (brings_of line) (looks_by address rows) ≡ true → Bringer line [] rows
bringer_by line address [] e = absurd (true≢false (sym e))
bringer_by line address (first ∷ others) e = bringer line first.entry.line address [] (first ∷ others) e

pub brought_by : (address : ℕ) (rows before : List Row) (row : Row) (later : List Row) → rows ≡ before ++ row ∷ later → brings before row ≡ true → list_any (brings_of row.entry.line) (looks_by address rows) ≡ true
brought_by address [] [] row later are e = let wrong : [] ≡ row ∷ later = are in cc
brought_by address [] (other ∷ before) row later are e = let wrong : [] ≡ other ∷ (before ++ row ∷ later) = are in cc
brought_by address (first ∷ others) before row later are e =
    ap (λ (ys : List Row). list_any (brings_of row.entry.line) (looks_among first.entry.line address [] ys)) are ∙ brought_looks first.entry.line address [] before row later e

-- a look at a line of this number, among the lines that are selected
pub record SeenBy (line address : ℕ) (rows : List Row) (look : Look) : Type 0 where
  pub row : Row
  pub has : Contains rows row
  pub number : row.entry.line ≡ line
  pub is_first : option_map (λ (r : Row). r.entry.line) (slice_get rows 0) ≡ Some look.first
  pub is_address : look.address ≡ address

pub seen_by : (line address : ℕ) (rows : List Row) (look : Look) → find (is_of line) (looks_by address rows) ≡ Some look → SeenBy line address rows look
seen_by line address [] look e = let wrong : None ≡ Some look = e in cc
seen_by line address (first ∷ others) look e =
    let s = seen line first.entry.line address [] (first ∷ others) look e in
    record { row = s.row; has = s.has; number = s.number; is_first = ap Some (sym s.is_first); is_address = s.is_address }
