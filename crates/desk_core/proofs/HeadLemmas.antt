-- Heads of which one is replaced, or one is put before the others.
use Rattle.std.proofs.Common.{◌≡◌, ◌∙◌, sym, ap, subst, refl, ℕ, zero, suc, ◌<◌, Bool, true, false, cond, List, [], ◌∷◌, Option, Some, None, length, get_or, set, arith}
use Rattle.std.specs.Prelude.{find, nat_lt, position}
use Rattle.std.specs.List.{position_or_len}
use Rattle.std.specs.Str.{bytes_eq}
use Rattle.std.proofs.Math.Path.{fun_ext}
use Rattle.std.proofs.lemmas.Bool.{ltb-false}
use Rattle.std.proofs.lemmas.List.{length-set}
use Rattle.std.proofs.lemmas.List.Sums.{fails_before_first}
use Rattle.std.proofs.lemmas.List.Kept.{AllPairs-cons}
use Rattle.std.proofs.lemmas.Slice.Eq.{bytes_eq-Decides}
use Rattle.desk_core.specs.Head.{StandOnce, newest_in, put}
use Rattle.desk_core.specs.declared.head.Head.{Head}

twice : {X : Type 0} (b b' : Bool) (s t o : X) → b' ≡ b → cond b s o ≡ cond b s (cond b' t o)
twice true b' s t o e = refl
twice false b' s t o e = ap (λ v. cond v t o) (sym e)

swapped : {X : Type 0} (bx bn : Bool) (s t o : X) → (bn ≡ true → bx ≡ false) → cond bx s (cond bn t o) ≡ cond bn t (cond bx s o)
swapped bx true s t o h = ap (λ v. cond v s t) (h refl)
swapped bx false s t o h = refl

abbrev found : List ℕ → List Head → Option Head
found q heads = find (λ h. bytes_eq h.file q) heads

set_found : (xs : List Head) (i : ℕ) (new d : Head) (q : List ℕ) → i < length xs → bytes_eq (get_or xs i d).file new.file ≡ true → ((k : ℕ) → k < i → bytes_eq (get_or xs k d).file new.file ≡ false)
    → found q (set xs i new) ≡ cond (bytes_eq new.file q) (Some new) (found q xs)
set_found [] i new d q below here before = absurd (omega (arith, below))
set_found (x ∷ xs) zero new d q below here before =
    twice (bytes_eq new.file q) (bytes_eq x.file q) (Some new) (Some x) (found q xs) (ap (λ f. bytes_eq f q) ((bytes_eq-Decides x.file new.file).0 here))
set_found (x ∷ xs) (suc i) new d q below here before =
    let rest = set_found xs i new d q (omega (arith, below)) here (λ k h. before (suc k) (omega (arith, h))) in
    let apart : bytes_eq new.file q ≡ true → bytes_eq x.file q ≡ false =
    λ e. subst (λ f. bytes_eq x.file f ≡ false) ((bytes_eq-Decides new.file q).0 e) (before 0 (omega arith)) in
    ap (λ o. cond (bytes_eq x.file q) (Some x) o) rest ∙ swapped (bytes_eq x.file q) (bytes_eq new.file q) (Some x) (Some new) (found q xs) apart

pub set_put : (heads : List Head) (i : ℕ) (new d : Head) → i < length heads → bytes_eq (get_or heads i d).file new.file ≡ true → ((k : ℕ) → k < i → bytes_eq (get_or heads k d).file new.file ≡ false)
    → newest_in (set heads i new) ≡ put (newest_in heads) new
unfolding newest_in
set_put heads i new d below here before = fun_ext (λ q. set_found heads i new d q below here before)

pub cons_put : (heads : List Head) (new : Head) → newest_in (new ∷ heads) ≡ put (newest_in heads) new
unfolding newest_in
cons_put heads new = refl

-- heads of which each file has one

set_files : (xs : List Head) (i : ℕ) (new d : Head) → i < length xs → (get_or xs i d).file ≡ new.file → (k : ℕ) → (get_or (set xs i new) k d).file ≡ (get_or xs k d).file
set_files [] i new d below same k = absurd (omega (arith, below))
set_files (x ∷ xs) zero new d below same zero = sym same
set_files (x ∷ xs) zero new d below same (suc k) = refl
set_files (x ∷ xs) (suc i) new d below same zero = refl
set_files (x ∷ xs) (suc i) new d below same (suc k) = set_files xs i new d (omega (arith, below)) same k

pub set_once : (heads : List Head) (i : ℕ) (new : Head) → ((d : Head) → (i < length heads) × (bytes_eq (get_or heads i d).file new.file ≡ true)) → StandOnce heads → StandOnce (set heads i new)
set_once heads i new at once j k d lt within same =
    let here = at d in
    let file = (bytes_eq-Decides (get_or heads i d).file new.file).0 here.1 in
    let below : k < length heads = omega (arith, within, length-set heads i new) in
    once j k d lt below (sym (set_files heads i new d here.0 file j) ∙ same ∙ set_files heads i new d here.0 file k)

none_of : (heads : List Head) (file : List ℕ) → position (λ head. bytes_eq head.file file) heads ≡ None → (k : ℕ) (d : Head) → k < length heads → bytes_eq (get_or heads k d).file file ≡ false
none_of heads file none k d below =
    let p : Head → Bool = λ head. bytes_eq head.file file in
    let past = ltb-false (position_or_len p heads) (length heads) (not_some (nat_lt (position_or_len p heads) (length heads)) (position_or_len p heads) none) in
    fails_before_first p heads k d (omega (arith, below, past))
  where
    not_some : (b : Bool) (n : ℕ) → cond b (Some n) None ≡ None → b ≡ false
    not_some true n e = cc
    not_some false n e = refl

pub cons_once : (heads : List Head) (new : Head) → position (λ head. bytes_eq head.file new.file) heads ≡ None → StandOnce heads → StandOnce (new ∷ heads)
cons_once heads new none once =
    AllPairs-cons (λ (head later : Head). head.file ≡ later.file → ⊥) new heads
    (λ k d below. λ same. apart (bytes_eq (get_or heads k d).file new.file) (none_of heads new.file none k d below) ((bytes_eq-Decides (get_or heads k d).file new.file).1 (sym same)))
    once
  where
    apart : (b : Bool) → b ≡ false → b ≡ true → ⊥
    apart true e h = cc
    apart false e h = cc
