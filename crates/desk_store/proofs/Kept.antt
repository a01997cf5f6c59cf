-- What is kept of revisions, as one more is read, and as an older one of a file loses its text.
use Rattle.std.proofs.Common.{◌≡◌, ◌∙◌, inl, inr, sym, ap, subst, refl, ℕ, zero, suc, ◌<◌, ◌++◌, true, false, is_some, List, [], ◌∷◌, Option, Some, None, All, get_or, map, set, arith}
use Rattle.std.specs.Option.{option_map_or}
use Rattle.std.specs.Prelude.{Contains, slice_get}
use Rattle.std.proofs.lemmas.List.{map-append, map-set}
use Rattle.std.proofs.lemmas.List.Elements.{All-contains, All-push, All-set, Contains-append_left, Contains-push}
use Rattle.sqlite.specs.Order.{Row}
use Rattle.desk_core.specs.Head.{Revision}
use Rattle.desk_store.specs.Desk.{IsStorable}
use Rattle.desk_store.specs.History.{row_of}
use Rattle.desk_store.specs.PrivateGatheredRevisions.{AreKept, AreOf, IsForeign, IsGatheredAs, IsKept, IsOlderAt, IsOutdated, bare, with_bare}
use Rattle.desk_store.specs.StoredRows.{IsUnapproved}
use Rattle.desk_store.specs.declared.gathered_revisions.Ungathered.{Ungathered}
use Rattle.desk_store.specs.declared.gathered_revisions.Ungathered.TheVariants.{Foreign, Memory}
use Rattle.desk_store.proofs.Members.{default, from_map, in_map, shift}

-- what is found at a place is there
pub found_in : {X : Type 0} (xs : List X) (place : ℕ) (x : X) → slice_get xs place ≡ Some x → Contains xs x
found_in [] place x is = absurd (cc)
found_in (y ∷ ys) zero x is = let same : y ≡ x = cc in (0, omega arith, same)
found_in (y ∷ ys) (suc place) x is = shift y ys x (found_in ys place x is)

-- what was found where a function was applied
found_before : {A B : Type 0} (f : A → B) (xs : List A) (place : ℕ) (y : B) → slice_get (map f xs) place ≡ Some y → (x : A) × (slice_get xs place ≡ Some x) × (f x ≡ y)
found_before f [] place y is = absurd (cc)
found_before f (x ∷ xs) zero y is = let same : f x ≡ y = cc in (x, refl, same)
found_before f (x ∷ xs) (suc place) y is = found_before f xs place y is

-- an element is replaced by one that a function does not tell from it
set_alike : {A B : Type 0} (f : A → B) (xs : List A) (place : ℕ) (x y : A) → slice_get xs place ≡ Some x → f y ≡ f x → map f (set xs place y) ≡ map f xs
set_alike f [] place x y is same = refl
set_alike f (z ∷ zs) zero x y is same = let here : z ≡ x = cc in ap (λ v. v ∷ map f zs) (same ∙ ap f (sym here))
set_alike f (z ∷ zs) (suc place) x y is same = ap (λ vs. f z ∷ vs) (set_alike f zs place x y is same)

still_kept : (revisions more : List Revision) (one : Revision × Revision) → IsKept revisions one → IsKept (revisions ++ more) one
still_kept revisions more one (inl whole) = inl whole
still_kept revisions more one (inr (light, (later, there, file, rev))) = inr (light, (later, Contains-append_left revisions more later there, file, rev))

-- one more
pub kept_more : (revisions kept : List Revision) (revision : Revision) → AreKept revisions kept → AreKept (revisions ++ revision ∷ []) (kept ++ revision ∷ [])
kept_more revisions kept revision are =
    let more : List Revision = revisions ++ revision ∷ [] in
    let one : Revision × Revision = (revision, revision) in
    record {
      both = are.both ++ one ∷ [];
      whole = map-append (λ (p : Revision × Revision). p.0) are.both (one ∷ []) ∙ ap (λ xs. xs ++ revision ∷ []) are.whole;
      light = map-append (λ (p : Revision × Revision). p.1) are.both (one ∷ []) ∙ ap (λ xs. xs ++ revision ∷ []) are.light;
      each = All-push (IsKept more) are.both one (λ k d below. still_kept revisions (revision ∷ []) (get_or are.both k d) (are.each k d below)) (inl refl);
    }

-- what is kept has the file and the number
pub same_file : (revisions : List Revision) (one : Revision × Revision) → IsKept revisions one → one.1.file ≡ one.0.file
same_file revisions one (inl whole) = ap (λ (r : Revision). r.file) whole
same_file revisions one (inr light) = ap (λ (r : Revision). r.file) light.0

pub same_rev : (revisions : List Revision) (one : Revision × Revision) → IsKept revisions one → one.1.rev ≡ one.0.rev
same_rev revisions one (inl whole) = ap (λ (r : Revision). r.rev) whole
same_rev revisions one (inr light) = ap (λ (r : Revision). r.rev) light.0

same_bare : (revisions : List Revision) (one : Revision × Revision) → IsKept revisions one → bare one.1 ≡ bare one.0
same_bare revisions one (inl whole) = ap bare whole
same_bare revisions one (inr light) = ap bare light.0

-- an older one of a file loses its text
kept_lighter : (revisions kept : List Revision) (place other : ℕ) (older later : Revision) → slice_get kept place ≡ Some older → slice_get kept other ≡ Some later → later.file ≡ older.file → older.rev < later.rev
    → AreKept revisions kept → AreKept revisions (set kept place (bare older))
kept_lighter revisions kept place other older later is_older is_later file rev are =
    let first : Revision × Revision → Revision = λ p. p.0 in
    let second : Revision × Revision → Revision = λ p. p.1 in
    let p = found_before second are.both place older (ap (λ xs. slice_get xs place) are.light ∙ is_older) in
    let q = found_before second are.both other later (ap (λ xs. slice_get xs other) are.light ∙ is_later) in
    let in_p = found_in are.both place p.0 p.1 in
    let in_q = found_in are.both other q.0 q.1 in
    let of_p : IsKept revisions p.0 = All-contains (IsKept revisions) are.both p.0 are.each in_p in
    let of_q : IsKept revisions q.0 = All-contains (IsKept revisions) are.both q.0 are.each in_q in
    let lighter : Revision × Revision = (p.0.0, bare older) in
    let there : Contains revisions q.0.0 = subst (λ xs. Contains xs q.0.0) are.whole (in_map first are.both q.0 in_q) in
    let named : q.0.0.file ≡ p.0.0.file = sym (same_file revisions q.0 of_q) ∙ ap (λ (r : Revision). r.file) q.2 ∙ file ∙ ap (λ (r : Revision). r.file) (sym p.2) ∙ same_file revisions p.0 of_p in
    let above : q.0.0.rev ≡ later.rev = sym (same_rev revisions q.0 of_q) ∙ ap (λ (r : Revision). r.rev) q.2 in
    let below : p.0.0.rev ≡ older.rev = sym (same_rev revisions p.0 of_p) ∙ ap (λ (r : Revision). r.rev) p.2 in
    let outdated : IsOutdated revisions p.0.0 = (q.0.0, there, named, omega (arith, above, below, rev)) in
    record {
      both = set are.both place lighter;
      whole = set_alike first are.both place p.0 lighter p.1 refl ∙ are.whole;
      light = map-set second are.both place lighter ∙ ap (λ xs. set xs place (bare older)) are.light;
      each = All-set (IsKept revisions) are.both place lighter (inr (ap bare (sym p.2) ∙ same_bare revisions p.0 of_p, outdated)) are.each;
    }

pub set_bare : (heads : List Revision) (place : ℕ) (head : Revision) → slice_get heads place ≡ Some head → set heads place (bare head) ≡ with_bare heads place
set_bare heads place head is = ap (λ o. option_map_or (λ (r : Revision). set heads place (bare r)) o heads) (sym is)

pub kept_lighter_at : (revisions kept : List Revision) (place other : ℕ) → IsOlderAt kept place other → AreKept revisions kept → AreKept revisions (with_bare kept place)
kept_lighter_at revisions kept place other (older, later, is_older, is_later, file, rev) are =
    subst (AreKept revisions) (set_bare kept place older is_older) (kept_lighter revisions kept place other older later is_older is_later file rev are)

-- what holds of revisions, and still without their texts, holds of what is kept of them
kept_all : (P : Revision → Type 0) → ((r : Revision) → P r → P (bare r)) → (revisions kept : List Revision) → All P revisions → AreKept revisions kept → All P kept
kept_all P lighter revisions kept all are = λ k d below.
    let r : Revision = get_or kept k d in
    let it = from_map (λ (p : Revision × Revision). p.1) are.both r (subst (λ xs. Contains xs r) (sym are.light) (k, below, default kept k r d below)) in
    let whole : P it.0.0 = All-contains P revisions it.0.0 all (subst (λ xs. Contains xs it.0.0) are.whole (in_map (λ (p : Revision × Revision). p.0) are.both it.0 it.1)) in
    subst P it.2 (of_one it.0 (All-contains (IsKept revisions) are.both it.0 are.each it.1) whole)
  where
    of_one : (one : Revision × Revision) → IsKept revisions one → P one.0 → P one.1
    of_one one (inl whole) holds = subst P (sym whole) holds
    of_one one (inr light) holds = subst P (sym light.0) (lighter one.0 holds)

pub kept_unapproved : (revisions kept : List Revision) → All IsUnapproved revisions → AreKept revisions kept → All IsUnapproved kept
kept_unapproved = kept_all IsUnapproved (λ r none. none)

bare_storable : (r : Revision) → IsStorable r → IsStorable (bare r)
bare_storable r storable = record {
  name = storable.name;
  from = storable.from;
  rev = storable.rev;
  file = storable.file;
  author = storable.author;
  approver = storable.approver;
  body = ([], (refl, refl));
  short = omega arith;
}

pub kept_storable : (revisions kept : List Revision) → All IsStorable revisions → AreKept revisions kept → All IsStorable kept
kept_storable = kept_all IsStorable bare_storable

-- ---- what is gathered of rows

-- a row more is that of a revision
pub gathered_more : (rows : List Row) (row : Row) (kept new : List Revision) (revision : Revision) → row_of revision ≡ row → IsUnapproved revision → IsStorable revision
    → ((revisions : List Revision) → AreKept revisions kept → AreKept (revisions ++ revision ∷ []) new) → AreOf rows kept → AreOf (rows ++ row ∷ []) new
gathered_more rows row kept new revision is unapproved storable more of = record {
  revisions = of.revisions ++ revision ∷ [];
  of_rows = map-append row_of of.revisions (revision ∷ []) ∙ ap (λ read. read ++ row_of revision ∷ []) of.of_rows ∙ ap (λ last. rows ++ last ∷ []) is;
  unapproved = All-push IsUnapproved of.revisions revision of.unapproved unapproved;
  storable = All-push IsStorable of.revisions revision of.storable storable;
  are_kept = more of.revisions of.are_kept;
}

-- or it is not
pub foreign_here : (rows : List Row) (row : Row) → IsForeign row → (foreign : Row) × Contains (rows ++ row ∷ []) foreign × IsForeign foreign
foreign_here rows row foreign = (row, Contains-push rows row, foreign)

-- behind a fault rows are passed over
pub stays_so : (rows : List Row) (row : Row) (kept : List Revision) (fault : Option Ungathered) → is_some fault ≡ true → IsGatheredAs rows kept fault → IsGatheredAs (rows ++ row ∷ []) kept fault
stays_so rows row kept None some of = absurd (cc)
stays_so rows row kept (Some Foreign) some (foreign, there, is) = (foreign, Contains-append_left rows (row ∷ []) foreign there, is)
stays_so rows row kept (Some Memory) some of = tt

pub no_fault : (rows : List Row) (kept : List Revision) (fault : Option Ungathered) → is_some fault ≡ false → IsGatheredAs rows kept fault → AreOf rows kept
no_fault rows kept None none of = of
no_fault rows kept (Some Foreign) none of = absurd (cc)
no_fault rows kept (Some Memory) none of = absurd (cc)
