-- Lists that were made stay at their places while more are made.
use Rattle.std.proofs.Common.{◌≡◌, ℕ, zero, suc, ◌++◌, ◌∙◌, true, cond, List, [], ◌∷◌, None, Some, ap, arith, inl, inr, length, map, nat_cmp, refl, subst, sym}
use Rattle.std.specs.Prelude.{slice_get}
use Rattle.std.specs.BTreeMap.{is_at}
use Rattle.std.specs.BTreeMap as tree
use Rattle.std.specs.Borrow.{Bor}
use Rattle.std.specs.Cmp.Lexicographic.{slice_cmp}
use Rattle.std.specs.Ordering.{is_eq, ordering_then}
use Rattle.std.specs.declared.cmp.Ordering.{Ordering}
use Rattle.std.specs.declared.cmp.Ordering.TheVariants.{Less, Equal, Greater}
use Rattle.std.proofs.lemmas.Bool.{cases_Bool, true≢false}
use Rattle.std.proofs.lemmas.Bool.Decides.{nat_tests}
use Rattle.std.proofs.lemmas.Option.{same_Some}
use Rattle.desk_text.specs.Address.{number_of}
use Rattle.desk_text.specs.Laws.{IsSetOf}
use Rattle.desk_text.specs.declared.address.Addr.{Addr}
use Rattle.desk_policy.specs.declared.row.Row.{Row}
use Rattle.desk_impact.specs.Sections.{PlaceBreaches}
use Rattle.page_findings.specs.PrivateDeciding.{AddsList, AreKnown, HasList, IsListed, host_order, key_order, lines_between, lines_on}
use Rattle.page_findings.specs.declared.deciding.NeverDecides.{NeverDecides}
use Rattle.page_findings.specs.declared.lists.Lists.{Lists}

-- ---- places in a longer list
get_more : {X : Type 0} (xs ys : List X) (i : ℕ) (x : X) → slice_get xs i ≡ Some x → slice_get (xs ++ ys) i ≡ Some x
get_more [] ys i x is = absurd (let wrong : None ≡ Some x = is in cc)
get_more (first ∷ xs) ys zero x is = is
get_more (first ∷ xs) ys (suc i) x is = get_more xs ys i x is

get_last : {X : Type 0} (xs : List X) (x : X) → slice_get (xs ++ x ∷ []) (length xs) ≡ Some x
get_last [] x = refl
get_last (first ∷ xs) x = get_last xs x

pub has_more : (lists more after : List (List ℕ)) → after ≡ lists ++ more → (place : ℕ) (numbers : List ℕ) → HasList lists place numbers → HasList after place numbers
has_more lists more after are place numbers has = record {
  list = has.list;
  there = ap (λ some. slice_get some place) are ∙ get_more lists more place has.list has.there;
  set = has.set;
}

pub all_more : (sections : List PlaceBreaches) (row : Row) (lists more after : List (List ℕ)) → after ≡ lists ++ more → (one : NeverDecides) → IsListed sections lists row one → IsListed sections after row one
all_more sections row lists more after are one listed = record { block = listed.block; has = has_more lists more after are one.list _ listed.has }

-- a list that was added
pub has_added : (old new : Lists) (place : ℕ) (list numbers : List ℕ) → AddsList old new place list → IsSetOf numbers list → HasList new.lists place numbers
has_added old new place list numbers adds set = record {
  list = list;
  there = ap (λ some. slice_get some place) adds.are ∙ ap (slice_get (old.lists ++ list ∷ [])) adds.place_is ∙ get_last old.lists list;
  set = set;
}

-- ---- keys
eq_from : (x y : ℕ) → nat_cmp x y ≡ Equal → x ≡ y
eq_from x y e = grind (arith, nat_tests)

same_parts : (a b c d : ℕ) → is_eq (ordering_then (nat_cmp a b) (nat_cmp c d)) ≡ true → (a ≡ b) × (c ≡ d)
same_parts a b c d is = by (nat_cmp a b) refl is
  where
    second : (o : Ordering) → nat_cmp c d ≡ o → is_eq o ≡ true → c ≡ d
    second Less e is' = absurd (true≢false (sym is'))
    second Equal e is' = eq_from c d e
    second Greater e is' = absurd (true≢false (sym is'))

    by : (o : Ordering) → nat_cmp a b ≡ o → is_eq (ordering_then o (nat_cmp c d)) ≡ true → (a ≡ b) × (c ≡ d)
    by Less e is' = absurd (true≢false (sym is'))
    by Equal e is' = (eq_from a b e, second (nat_cmp c d) refl is')
    by Greater e is' = absurd (true≢false (sym is'))

-- addresses that compare as equal have the same numbers
pub same_numbers : (xs ys : List Addr) → is_eq (slice_cmp (λ (a b : Addr). nat_cmp (number_of a) (number_of b)) xs ys) ≡ true → map number_of xs ≡ map number_of ys
same_numbers [] [] is = refl
same_numbers [] (y ∷ ys) is = absurd (true≢false (sym is))
same_numbers (x ∷ xs) [] is = absurd (true≢false (sym is))
same_numbers (x ∷ xs) (y ∷ ys) is = by (nat_cmp (number_of x) (number_of y)) refl is (same_numbers xs ys)
  where
    by : (o : Ordering) → nat_cmp (number_of x) (number_of y) ≡ o → is_eq (ordering_then o (slice_cmp (λ (a b : Addr). nat_cmp (number_of a) (number_of b)) xs ys)) ≡ true
        → (is_eq (slice_cmp (λ (a b : Addr). nat_cmp (number_of a) (number_of b)) xs ys) ≡ true → map number_of xs ≡ map number_of ys) → map number_of (x ∷ xs) ≡ map number_of (y ∷ ys)
    by Less e is' rest = absurd (true≢false (sym is'))
    by Equal e is' rest = ap (λ n. n ∷ map number_of xs) (eq_from (number_of x) (number_of y) e) ∙ ap (λ ns. number_of y ∷ ns) (rest is')
    by Greater e is' rest = absurd (true≢false (sym is'))

module _ (sections : List PlaceBreaches) (old new : Lists) (more : List (List ℕ)) (are : new.lists ≡ old.lists ++ more) (known : AreKnown sections old) where
  networks_more : (first last place : ℕ) → tree.get key_order old.networks (first, last) ≡ Some place → HasList new.lists place (lines_between first last sections)
  networks_more first last place is = has_more old.lists more new.lists are place (lines_between first last sections) (known.networks first last place is)

  hosts_more : (addresses : Bor (List Addr)) (place : ℕ) → tree.get host_order old.hosts addresses ≡ Some place → HasList new.lists place (lines_on (map number_of addresses.now) sections)
  hosts_more addresses place is = has_more old.lists more new.lists are place (lines_on (map number_of addresses.now) sections) (known.hosts addresses place is)

  -- one more is kept by first and last addresses
  pub known_between : (first last place : ℕ) → ((key : ℕ × ℕ) → tree.get key_order new.networks key ≡ cond (is_at (key_order (first, last)) key) (Some place) (tree.get key_order old.networks key))
      → new.hosts ≡ old.hosts → HasList new.lists place (lines_between first last sections) → AreKnown sections new
  known_between first last place updates same has = record {
    networks = λ first' last' place' is. elim (cases_Bool (is_at (key_order (first, last)) (first', last'))) as (λ _. HasList new.lists place' (lines_between first' last' sections)) [
      | inl at ↦
          let parts = same_parts first first' last last' at in
          let found : Some place ≡ Some place' = sym (updates (first', last') ∙ ap (λ b. cond b (Some place) (tree.get key_order old.networks (first', last'))) at) ∙ is in
          subst (λ n. HasList new.lists n (lines_between first' last' sections)) (same_Some place place' found)
          (subst (λ a. HasList new.lists place (lines_between a last' sections)) parts.0 (subst (λ b. HasList new.lists place (lines_between first b sections)) parts.1 has))
      | inr apart ↦ networks_more first' last' place' (sym (updates (first', last') ∙ ap (λ b. cond b (Some place) (tree.get key_order old.networks (first', last'))) apart) ∙ is)
    ];
    hosts = λ addresses place' is. hosts_more addresses place' (sym (ap (λ hosts. tree.get host_order hosts addresses) same) ∙ is);
  }

  -- one more is kept by all of its addresses
  pub known_on : (addresses : Bor (List Addr)) (place : ℕ) → ((key : Bor (List Addr)) → tree.get host_order new.hosts key ≡ cond (is_at (host_order addresses) key) (Some place) (tree.get host_order old.hosts key))
      → new.networks ≡ old.networks → HasList new.lists place (lines_on (map number_of addresses.now) sections) → AreKnown sections new
  known_on addresses place updates same has = record {
    networks = λ first last place' is. networks_more first last place' (sym (ap (λ networks. tree.get key_order networks (first, last)) same) ∙ is);
    hosts = λ other place' is. elim (cases_Bool (is_at (host_order addresses) other)) as (λ _. HasList new.lists place' (lines_on (map number_of other.now) sections)) [
      | inl at ↦
          let found : Some place ≡ Some place' = sym (updates other ∙ ap (λ b. cond b (Some place) (tree.get host_order old.hosts other)) at) ∙ is in
          subst (λ n. HasList new.lists n (lines_on (map number_of other.now) sections)) (same_Some place place' found)
          (subst (λ numbers. HasList new.lists place (lines_on numbers sections)) (same_numbers addresses.now other.now at) has)
      | inr apart ↦ hosts_more other place' (sym (updates other ∙ ap (λ b. cond b (Some place) (tree.get host_order old.hosts other)) apart) ∙ is)
    ];
  }
