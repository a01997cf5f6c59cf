-- A walk that enters each group once meets just the group's hosts.
use Rattle.std.proofs.Common.{map, ◌≡◌, ℕ, ◌+◌, ◌≤◌, ◌||◌, Bool, true, false, cond, List, [], ◌∷◌, ◌++◌, length, length-append, Option, Some, None, sym, ◌∙◌, ap, subst, refl, inl, inr, ◌⊎◌, arith}
use Rattle.std.specs.Prelude.{find, reverse}
use Rattle.std.specs.List.{list_any}
use Rattle.std.specs.Option.{option_map_or}
use Rattle.std.specs.Str.{bytes_eq}
use Rattle.std.proofs.lemmas.Bool.{or_cases, or_left, or_right, cases_Bool, cond-true, cond-false, true≢false}
use Rattle.std.proofs.lemmas.List.{length-reverse}
use Rattle.std.proofs.lemmas.List.Folds.{list_any-append}
use Rattle.std.proofs.lemmas.List.Sorted.{IsPermutation-reverse, list_any-IsPermutation}
use Rattle.std.proofs.lemmas.Slice.Eq.{bytes_eq-Decides}
use Rattle.desk_netgroup.specs.declared.group_line.GroupLine.{GroupLine}
use Rattle.desk_netgroup.specs.declared.group_line.Member.{Member}
use Rattle.desk_netgroup.specs.declared.group_line.Member.TheVariants.{Group, Host}
use Rattle.desk_netgroup.specs.GroupLine.{group_named}
use Rattle.desk_netgroup.specs.Laws.{is_host, is_group, Leads}
use Rattle.desk_netgroup.specs.Netgroups.{is_among, members_of, hosts_of}
use Rattle.desk_netgroup.specs.PrivateWalk.{Enters}
use Rattle.desk_netgroup.proofs.Closing.{closed, chain_of}

-- how far a walk from a group has come: which groups were entered, which members are pending, which hosts were met
pub record IsWalked (lines : List GroupLine) (name : List ℕ) (entered : List ℕ → Bool) (pending : List Member) (met : List (List ℕ)) : Type 0 where
  pub met_are : (host : List ℕ) → is_among host met ≡ true → is_among host (hosts_of lines name) ≡ true
  pub hosts_are : (host : List ℕ) → list_any (is_host host) pending ≡ true → is_among host (hosts_of lines name) ≡ true
  pub groups_are : (inner host : List ℕ) → list_any (is_group inner) pending ≡ true → is_among host (hosts_of lines inner) ≡ true → is_among host (hosts_of lines name) ≡ true
  pub own : (group host : List ℕ) → entered group ≡ true → list_any (is_host host) (members_of lines group) ≡ true
      → (is_among host met ≡ true) ⊎ (list_any (is_host host) pending ≡ true)
  pub below : (group inner : List ℕ) → entered group ≡ true → list_any (is_group inner) (members_of lines group) ≡ true
      → (entered inner ≡ true) ⊎ ((group_named lines inner ≡ None) ⊎ (list_any (is_group inner) pending ≡ true))

-- ---- lists

any_snoc : {X : Type 0} (p : X → Bool) (xs : List X) (x : X) → list_any p (xs ++ x ∷ []) ≡ true → (list_any p xs ≡ true) ⊎ (p x ≡ true)
any_snoc p xs x e =
    elim (or_cases (list_any p xs) (p x || false) (sym (list_any-append p xs (x ∷ [])) ∙ e)) [
      | inl h ↦ inl h
      | inr h ↦ elim (or_cases (p x) false h) [ inl t ↦ inr t | inr f ↦ absurd (true≢false (sym f)) ]
    ]

any_first : {X : Type 0} (p : X → Bool) (xs ys : List X) → list_any p xs ≡ true → list_any p (xs ++ ys) ≡ true
any_first p xs ys e = list_any-append p xs ys ∙ or_left _ _ e

any_second : {X : Type 0} (p : X → Bool) (xs ys : List X) → list_any p ys ≡ true → list_any p (xs ++ ys) ≡ true
any_second p xs ys e = list_any-append p xs ys ∙ or_right _ _ e

any_either : {X : Type 0} (p : X → Bool) (xs ys : List X) → list_any p (xs ++ ys) ≡ true → (list_any p xs ≡ true) ⊎ (list_any p ys ≡ true)
any_either p xs ys e = or_cases _ _ (sym (list_any-append p xs ys) ∙ e)

any_last : {X : Type 0} (p : X → Bool) (xs : List X) (x : X) → p x ≡ true → list_any p (xs ++ x ∷ []) ≡ true
any_last p xs x e = any_second p xs (x ∷ []) (or_left (p x) false e)

any_reverse : {X : Type 0} (p : X → Bool) (xs : List X) → list_any p xs ≡ list_any p (reverse xs)
any_reverse p xs = list_any-IsPermutation p xs (reverse xs) (IsPermutation-reverse xs)

pub same_name : (a b : List ℕ) → bytes_eq a b ≡ true → a ≡ b
same_name a b e = (bytes_eq-Decides a b).0 e

is_self : (a : List ℕ) → bytes_eq a a ≡ true
is_self a = (bytes_eq-Decides a a).1 refl

pub both_true : (a b : Bool) → (a ≡ true → b ≡ true) → (b ≡ true → a ≡ true) → a ≡ b
both_true true b f g = sym (f refl)
both_true false true f g = g refl
both_true false false f g = refl

pub map_append : {A B : Type 0} (f : A → B) (xs ys : List A) → map f (xs ++ ys) ≡ map f xs ++ map f ys
map_append f [] ys = refl
map_append f (x ∷ xs) ys = ap (λ zs. f x ∷ zs) (map_append f xs ys)

-- ---- steps

module _ (lines : List GroupLine) where
  defined_members : (group : List ℕ) (line : GroupLine) → group_named lines group ≡ Some line → members_of lines group ≡ line.members
  defined_members group line e = ap (λ (o : Option GroupLine). option_map_or (λ (l : GroupLine). l.members) o []) e

  no_members : (group : List ℕ) (p : Member → Bool) → group_named lines group ≡ None → list_any p (members_of lines group) ≡ true → ⊥
  no_members group p none e = true≢false (sym e ∙ ap (λ (o : Option GroupLine). list_any p (option_map_or (λ (l : GroupLine). l.members) o [])) none)

  module _ (name : List ℕ) where
    pub meets_host : (entered : List ℕ → Bool) (rest : List Member) (met : List (List ℕ)) (x : List ℕ)
        → IsWalked lines name entered (rest ++ Host x ∷ []) met → IsWalked lines name entered rest (met ++ x ∷ [])
    meets_host entered rest met x w = record {
      met_are = λ host e. elim (any_snoc (bytes_eq host) met x e) [
        | inl before ↦ w.met_are host before
        | inr here ↦ w.hosts_are host (any_last (is_host host) rest (Host x) here)
      ];
      hosts_are = λ host e. w.hosts_are host (any_first (is_host host) rest (Host x ∷ []) e);
      groups_are = λ inner host e h. w.groups_are inner host (any_first (is_group inner) rest (Host x ∷ []) e) h;
      own = λ group host e h. elim (w.own group host e h) [
        | inl m ↦ inl (any_first (bytes_eq host) met (x ∷ []) m)
        | inr p ↦ elim (any_snoc (is_host host) rest (Host x) p) [
          | inl r ↦ inr r
          | inr here ↦ inl (any_last (bytes_eq host) met x here)
        ]
      ];
      below = λ group inner e h. elim (w.below group inner e h) [
        | inl a ↦ inl a
        | inr b ↦ elim b [
          | inl n ↦ inr (inl n)
          | inr p ↦ elim (any_snoc (is_group inner) rest (Host x) p) [ inl r ↦ inr (inr r) | inr never ↦ absurd (true≢false (sym never)) ]
        ]
      ];
    }

    -- a group whose members need not be looked at any more
    passes_group : (entered new : List ℕ → Bool) (rest : List Member) (met : List (List ℕ)) (g : List ℕ) → ((n : List ℕ) → new n ≡ entered n)
        → (entered g ≡ true) ⊎ (group_named lines g ≡ None)
        → IsWalked lines name entered (rest ++ Group g ∷ []) met → IsWalked lines name new rest met
    passes_group entered new rest met g same why w = record {
      met_are = w.met_are;
      hosts_are = λ host e. w.hosts_are host (any_first (is_host host) rest (Group g ∷ []) e);
      groups_are = λ inner host e h. w.groups_are inner host (any_first (is_group inner) rest (Group g ∷ []) e) h;
      own = λ group host e h. elim (w.own group host (sym (same group) ∙ e) h) [
        | inl m ↦ inl m
        | inr p ↦ elim (any_snoc (is_host host) rest (Group g) p) [ inl r ↦ inr r | inr never ↦ absurd (true≢false (sym never)) ]
      ];
      below = λ group inner e h. elim (w.below group inner (sym (same group) ∙ e) h) [
        | inl a ↦ inl (same inner ∙ a)
        | inr b ↦ elim b [
          | inl n ↦ inr (inl n)
          | inr p ↦ elim (any_snoc (is_group inner) rest (Group g) p) [
            | inl r ↦ inr (inr r)
            | inr here ↦ (let is = same_name inner g here in elim why [
              | inl was ↦ inl (same inner ∙ ap entered is ∙ was)
              | inr none ↦ inr (inl (ap (group_named lines) is ∙ none))
            ])
          ]
        ]
      ];
    }

    -- a group that was not entered before: its members are pending
    enters_group : (entered new : List ℕ → Bool) (rest : List Member) (met : List (List ℕ)) (g : List ℕ) (line : GroupLine)
        → ((n : List ℕ) → new n ≡ (entered n || bytes_eq n g)) → group_named lines g ≡ Some line
        → IsWalked lines name entered (rest ++ Group g ∷ []) met → IsWalked lines name new (rest ++ reverse line.members) met
    enters_group entered new rest met g line more is w =
        let members_are = defined_members g line is in
        let on_top : (host : List ℕ) → is_among host (hosts_of lines g) ≡ true → is_among host (hosts_of lines name) ≡ true =
        λ host h. w.groups_are g host (any_last (is_group g) rest (Group g) (is_self g)) h in
        let there : (p : Member → Bool) → list_any p (members_of lines g) ≡ true → list_any p (rest ++ reverse line.members) ≡ true =
        λ p e. any_second p rest (reverse line.members) (sym (any_reverse p line.members) ∙ ap (list_any p) (sym members_are) ∙ e) in
        let member : (p : Member → Bool) → list_any p (reverse line.members) ≡ true → list_any p (members_of lines g) ≡ true =
        λ p e. ap (list_any p) members_are ∙ any_reverse p line.members ∙ e in
        let c = closed lines in
        let later : (a : Bool) (group : List ℕ) → (entered group || bytes_eq group g) ≡ true → (entered group ≡ true) ⊎ (group ≡ g) =
        λ a group e. elim (or_cases (entered group) (bytes_eq group g) e) [ inl t ↦ inl t | inr s ↦ inr (same_name group g s) ] in
        record {
          met_are = w.met_are;
          hosts_are = λ host e. elim (any_either (is_host host) rest (reverse line.members) e) [
            | inl r ↦ w.hosts_are host (any_first (is_host host) rest (Group g ∷ []) r)
            | inr m ↦ on_top host (c.own g host (member (is_host host) m))
          ];
          groups_are = λ inner host e h. elim (any_either (is_group inner) rest (reverse line.members) e) [
            | inl r ↦ w.groups_are inner host (any_first (is_group inner) rest (Group g ∷ []) r) h
            | inr m ↦ on_top host (c.below g inner host (member (is_group inner) m) h)
          ];
          own = λ group host e h. elim (later true group (sym (more group) ∙ e)) [
            | inl old ↦ elim (w.own group host old h) [
              | inl m ↦ inl m
              | inr p ↦ elim (any_snoc (is_host host) rest (Group g) p) [ inl r ↦ inr (any_first (is_host host) rest (reverse line.members) r) | inr never ↦ absurd (true≢false (sym never)) ]
            ]
            | inr here ↦ inr (there (is_host host) (ap (λ n. list_any (is_host host) (members_of lines n)) (sym here) ∙ h))
          ];
          below = λ group inner e h. elim (later true group (sym (more group) ∙ e)) [
            | inl old ↦ elim (w.below group inner old h) [
              | inl a ↦ inl (more inner ∙ or_left _ _ a)
              | inr b ↦ elim b [
                | inl n ↦ inr (inl n)
                | inr p ↦ elim (any_snoc (is_group inner) rest (Group g) p) [
                  | inl r ↦ inr (inr (any_first (is_group inner) rest (reverse line.members) r))
                  | inr top ↦ inl (more inner ∙ or_right _ _ top)
                ]
              ]
            ]
            | inr here ↦ inr (inr (there (is_group inner) (ap (λ n. list_any (is_group inner) (members_of lines n)) (sym here) ∙ h)))
          ];
        }

    same_or : (b c : Bool) → b ≡ true → (b || c) ≡ b
    same_or true c e = refl
    same_or false c e = absurd (true≢false (sym e))

    same_entered : (entered : List ℕ → Bool) (g n : List ℕ) → entered g ≡ true → (entered n || bytes_eq n g) ≡ entered n
    same_entered entered g n was =
        elim (cases_Bool (bytes_eq n g)) [
          | inl s ↦ same_or _ _ (ap entered (same_name n g s) ∙ was)
          | inr d ↦ ap (λ b. entered n || b) d ∙ or_false (entered n)
        ]
      where
        or_false : (b : Bool) → (b || false) ≡ b
        or_false true = refl
        or_false false = refl

    -- whichever it is
    pub meets_group : (entered new : List ℕ → Bool) (rest pending : List Member) (met : List (List ℕ)) (g : List ℕ) (o : Option GroupLine) → o ≡ group_named lines g
        → Enters o g entered new rest pending → IsWalked lines name entered (rest ++ Group g ∷ []) met → IsWalked lines name new pending met
    meets_group entered new rest pending met g None is step w =
        subst (λ ps. IsWalked lines name new ps met) (sym step.1) (passes_group entered new rest met g step.0 (inr (sym is)) w)
    meets_group entered new rest pending met g (Some line) is step w =
        elim (cases_Bool (entered g)) [
          | inl was ↦ subst (λ ps. IsWalked lines name new ps met) (sym (step.1 ∙ cond-true (entered g) rest (rest ++ reverse line.members) was))
              (passes_group entered new rest met g (λ n. step.0 n ∙ same_entered entered g n was) (inl was) w)
          | inr new_one ↦ subst (λ ps. IsWalked lines name new ps met) (sym (step.1 ∙ cond-false (entered g) rest (rest ++ reverse line.members) new_one))
              (enters_group entered new rest met g line step.0 (sym is) w)
        ]

    -- the walk begins at the group alone
    pub begins : IsWalked lines name (λ n. false) (Group name ∷ []) []
    begins = record {
      met_are = λ host e. absurd (true≢false (sym e));
      hosts_are = λ host e. absurd (true≢false (sym e));
      groups_are = λ inner host e h. elim (or_cases (bytes_eq inner name) false e) [
        | inl s ↦ ap (λ n. is_among host (hosts_of lines n)) (sym (same_name inner name s)) ∙ h
        | inr never ↦ absurd (true≢false (sym never))
      ];
      own = λ group host e h. absurd (true≢false (sym e));
      below = λ group inner e h. absurd (true≢false (sym e));
    }

    -- the group itself was entered, unless it is not defined
    abbrev pub HasBegun : (List ℕ → Bool) → Type 0
    HasBegun entered = (entered name ≡ true) ⊎ (group_named lines name ≡ None)

    pub has_begun : (new : List ℕ → Bool) (pending rest : List Member) (old : List ℕ → Bool) (o : Option GroupLine) → o ≡ group_named lines name → Enters o name old new rest pending → HasBegun new
    has_begun new pending rest old None is step = inr (sym is)
    has_begun new pending rest old (Some line) is step = inl (step.0 name ∙ or_right _ _ (is_self name))

    pub has_begun_more : (new : List ℕ → Bool) (pending rest : List Member) (old : List ℕ → Bool) (g : List ℕ) (o : Option GroupLine) → Enters o g old new rest pending → HasBegun old → HasBegun new
    has_begun_more new pending rest old g None step (inl was) = inl (step.0 name ∙ was)
    has_begun_more new pending rest old g (Some line) step (inl was) = inl (step.0 name ∙ or_left _ _ was)
    has_begun_more new pending rest old g o step (inr none) = inr none

    -- at the end each host that a chain leads to was met
    leads_met : (entered : List ℕ → Bool) (met : List (List ℕ)) → IsWalked lines name entered [] met
        → (group : List ℕ) (chain : List (List ℕ)) (host : List ℕ) → entered group ≡ true → Leads lines group chain host → is_among host met ≡ true
    leads_met entered met w group [] host e h = elim (w.own group host e h) [ inl m ↦ m | inr never ↦ absurd (true≢false (sym never)) ]
    leads_met entered met w group (inner ∷ chain) host e h =
        elim (w.below group inner e h.0) [
          | inl a ↦ leads_met entered met w inner chain host a h.1
          | inr b ↦ elim b [ inl none ↦ absurd (leads_defined inner chain host none h.1) | inr never ↦ absurd (true≢false (sym never)) ]
        ]
      where
        leads_defined : (group : List ℕ) (chain : List (List ℕ)) (host : List ℕ) → group_named lines group ≡ None → Leads lines group chain host → ⊥
        leads_defined group [] host none h = no_members group (is_host host) none h
        leads_defined group (inner ∷ chain) host none h = no_members group (is_group inner) none h.0

    pub ends : (entered : List ℕ → Bool) (met : List (List ℕ)) → HasBegun entered → IsWalked lines name entered [] met
        → (host : List ℕ) → is_among host met ≡ is_among host (hosts_of lines name)
    ends entered met begun w host =
        both_true _ _ (w.met_are host) (λ e. let r = chain_of lines name host e in
        elim begun [
          | inl was ↦ leads_met entered met w name r.0 host was r.1
          | inr none ↦ absurd (undefined_leads name r.0 host none r.1)
        ])
      where
        undefined_leads : (group : List ℕ) (chain : List (List ℕ)) (host : List ℕ) → group_named lines group ≡ None → Leads lines group chain host → ⊥
        undefined_leads group [] host none h = no_members group (is_host host) none h
        undefined_leads group (inner ∷ chain) host none h = no_members group (is_group inner) none h.0

-- ---- how much is left

abbrev pub weight : (List ℕ → Bool) → List GroupLine → ℕ
weight entered [] = 0
weight entered (l ∷ ls) = cond (entered l.name) 0 (length l.members) + weight entered ls

cond_or : (a b : Bool) (n : ℕ) → cond (a || b) 0 n ≤ cond a 0 n
cond_or true b n = omega arith
cond_or false true n = omega arith
cond_or false false n = omega arith

cond_gone : (a b : Bool) (n : ℕ) → a ≡ false → b ≡ true → cond (a || b) 0 n + n ≤ cond a 0 n
cond_gone false true n p q = omega arith
cond_gone false false n p q = absurd (true≢false (sym q))
cond_gone true b n p q = absurd (true≢false p)

module _ (old new : List ℕ → Bool) (g : List ℕ) (more : (n : List ℕ) → new n ≡ (old n || bytes_eq n g)) where
  weight_le : (ls : List GroupLine) → weight new ls ≤ weight old ls
  weight_le [] = omega arith
  weight_le (l ∷ ls) =
      let h = weight_le ls in
      let k = cond_or (old l.name) (bytes_eq l.name g) (length l.members) in
      let e = ap (λ b. cond b 0 (length l.members)) (more l.name) in
      omega arith

  weight_less : old g ≡ false → (ls : List GroupLine) (line : GroupLine) → find (λ l. bytes_eq g l.name) ls ≡ Some line → weight new ls + length line.members ≤ weight old ls
  weight_less fresh [] line is = cc
  weight_less fresh (l ∷ ls) line is =
      let e = ap (λ b. cond b 0 (length l.members)) (more l.name) in
      elim (cases_Bool (bytes_eq g l.name)) [
        | inl here ↦
            let line_is : l ≡ line = (let s : Some l ≡ Some line = sym (cond-true (bytes_eq g l.name) (Some l) (find (λ l. bytes_eq g l.name) ls) here) ∙ is in cc) in
            let n : g ≡ l.name = same_name g l.name here in
            let k = cond_gone (old l.name) (bytes_eq l.name g) (length l.members) (ap old (sym n) ∙ fresh) ((bytes_eq-Decides l.name g).1 (sym n)) in
            let h = weight_le ls in
            let m : length l.members ≡ length line.members = ap (λ (x : GroupLine). length x.members) line_is in
            omega arith
        | inr later ↦
            let h = weight_less fresh ls line (sym (cond-false (bytes_eq g l.name) (Some l) (find (λ l. bytes_eq g l.name) ls) later) ∙ is) in
            let k = cond_or (old l.name) (bytes_eq l.name g) (length l.members) in
            omega arith
      ]

-- ---- the first step, and the measure

module _ (lines : List GroupLine) (name : List ℕ) where
  pub enters_start : (old new : List ℕ → Bool) (none pending : List Member) → ((n : List ℕ) → old n ≡ false) → none ≡ []
      → Enters (group_named lines name) name old new none pending → IsWalked lines name new pending []
  enters_start old new none pending fresh empty step =
      meets_group lines name old new none pending [] name (group_named lines name) refl step
      (subst (λ ps. IsWalked lines name old (ps ++ Group name ∷ []) []) (sym empty) (record {
        met_are = (begins lines name).met_are;
        hosts_are = (begins lines name).hosts_are;
        groups_are = (begins lines name).groups_are;
        own = λ group host e h. absurd (true≢false (sym e ∙ fresh group));
        below = λ group inner e h. absurd (true≢false (sym e ∙ fresh group));
      }))

  pub enters_less : (old new : List ℕ → Bool) (g : List ℕ) (rest pending : List Member) (o : Option GroupLine) → o ≡ group_named lines g → Enters o g old new rest pending
      → length pending + weight new lines ≤ length rest + weight old lines
  enters_less old new g rest pending None is step =
      let a = ap (λ (ps : List Member). length ps) step.1 in
      let b = weight_same old new step.0 lines in
      omega arith
    where
      weight_same : (old new : List ℕ → Bool) → ((n : List ℕ) → new n ≡ old n) → (ls : List GroupLine) → weight new ls ≤ weight old ls
      weight_same old new same [] = omega arith
      weight_same old new same (l ∷ ls) = (let h = weight_same old new same ls in let e = ap (λ b. cond b 0 (length l.members)) (same l.name) in omega arith)
  enters_less old new g rest pending (Some line) is step =
      elim (cases_Bool (old g)) [
        | inl was ↦
            let a = ap (λ (ps : List Member). length ps) (step.1 ∙ cond-true (old g) rest (rest ++ reverse line.members) was) in
            let b = weight_le old new g step.0 lines in
            omega arith
        | inr fresh ↦
            let a = ap (λ (ps : List Member). length ps) (step.1 ∙ cond-false (old g) rest (rest ++ reverse line.members) fresh) in
            let b = weight_less old new g step.0 fresh lines line (sym is) in
            let d = length-append rest (reverse line.members) in
            let e = length-reverse line.members in
            omega arith
      ]
