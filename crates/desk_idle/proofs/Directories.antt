-- Directories in a set.
use Rattle.std.proofs.Common.{◌≡◌, ◌∙◌, ℕ, ◌||◌, ◌++◌, Bool, true, false, cond, not, List, [], ◌∷◌, Bor, ap, inl, inr, nat_cmp, refl, sym}
use Rattle.std.specs.BTreeMap.{is_at}
use Rattle.std.specs.BTreeSet.{BTreeSet}
use Rattle.std.specs.BTreeSet as sorted
use Rattle.std.specs.Cmp.Lexicographic.{slice_cmp}
use Rattle.std.specs.List.{list_any}
use Rattle.std.specs.Ordering.{is_eq}
use Rattle.std.proofs.lemmas.Bool.{or_cases, or_left, or_right, true≢false}
use Rattle.std.proofs.lemmas.Bool.Decides.{same_from_decides}
use Rattle.std.proofs.lemmas.List.Folds.{list_any-append}
use Rattle.std.proofs.lemmas.Map.Text.{is_eq-slice_cmp}
use Rattle.std.proofs.lemmas.Slice.Eq.{bytes_eq-Decides, slice_eq-Decides}
use Rattle.desk_text.specs.Laws.{PrintedPathsDiffer}
use Rattle.desk_text.specs.Path.{IsPath, path_text, same_path}
use Rattle.desk_policy.specs.Verdict.{is_directory_among}
use Rattle.desk_idle.specs.Listed.{HasDirs, order}

abbrev pub Path : Type 0
Path = List (List ℕ)

pub same_self : (path : Path) → same_path path path ≡ true
same_self path = (slice_eq-Decides bytes_eq-Decides path path _ refl).1 refl

pub same_are : (path other : Path) → same_path path other ≡ true → path ≡ other
same_are path other e = (slice_eq-Decides bytes_eq-Decides path other _ refl).0 e

-- a directory among these that passes a test
pub passes_among : (p : Path → Bool) (path : Path) (dirs : List Path) → is_directory_among path dirs ≡ true → p path ≡ true → list_any p dirs ≡ true
passes_among p path [] e passes = absurd (true≢false (sym e))
passes_among p path (dir ∷ dirs) e passes =
    elim (or_cases (same_path dir path) (is_directory_among path dirs) e) [
      | inl here ↦ or_left _ _ (ap p (same_are dir path here) ∙ passes)
      | inr later ↦ or_right _ _ (passes_among p path dirs later passes)
    ]

pub texts_same : (xs ys : List ℕ) → is_eq (slice_cmp nat_cmp xs ys) ≡ true → xs ≡ ys
texts_same xs ys e = (bytes_eq-Decides xs ys).0 (sym (is_eq-slice_cmp xs ys) ∙ e)

same_texts : (xs ys : List ℕ) → xs ≡ ys → is_eq (slice_cmp nat_cmp xs ys) ≡ true
same_texts xs ys e = is_eq-slice_cmp xs ys ∙ (bytes_eq-Decides xs ys).1 e

-- paths have one place in the order exactly if they are the same
printed_same : PrintedPathsDiffer → (path other : Path) → IsPath path → IsPath other → is_eq (slice_cmp nat_cmp (path_text path) (path_text other)) ≡ same_path path other
printed_same law path other is is' =
    same_from_decides _ (same_path path other) (λ e. law path other is is' (texts_same (path_text path) (path_text other) e), λ e. same_texts (path_text path) (path_text other) (ap path_text e))
    (slice_eq-Decides bytes_eq-Decides path other _ refl)

either : (a b : Bool) → cond a true b ≡ (b || (a || false))
either true true = refl
either true false = refl
either false true = refl
either false false = refl

abbrev Lent : Type 0
Lent = Bor (List (List ℕ))

-- a set with one more directory
pub one_more : PrintedPathsDiffer → (old new : BTreeSet Lent) (dir : Lent) (known : List Path) → IsPath dir.now
    → ((path : Lent) → sorted.contains order new path ≡ cond (is_at (order dir) path) true (sorted.contains order old path))
    → HasDirs old known → HasDirs new (known ++ dir.now ∷ [])
one_more law old new dir known is updates has path is_path =
    updates path
    ∙ ap (λ b. cond b true (sorted.contains order old path)) (printed_same law dir.now path.now is is_path)
    ∙ ap (λ b. cond (same_path dir.now path.now) true b) (has path is_path)
    ∙ either (same_path dir.now path.now) (is_directory_among path.now known)
    ∙ sym (list_any-append (λ d. same_path d path.now) known (dir.now ∷ []))

-- ---- whether one of some directories is new

abbrev pub is_new : List Path → Path → Bool
is_new known dir = not (is_directory_among dir known)

any_or_last : (x k d : Bool) → (k ≡ false → d ≡ true → x ≡ true) → (x || not (k || d)) ≡ (x || (not k || false))
any_or_last x true d h = refl
any_or_last true false d h = refl
any_or_last false false true h = absurd (true≢false (sym (h refl refl)))
any_or_last false false false h = refl

pub one_more_new : (known done : List Path) (dir : Path) → (list_any (is_new known) done || not (is_directory_among dir (known ++ done))) ≡ list_any (is_new known) (done ++ dir ∷ [])
one_more_new known done dir =
    ap (λ b. list_any (is_new known) done || not b) (list_any-append (λ d. same_path d dir) known done)
    ∙ any_or_last (list_any (is_new known) done) (is_directory_among dir known) (is_directory_among dir done) (λ apart among. passes_among (is_new known) dir done among (ap not apart))
    ∙ sym (list_any-append (is_new known) done (dir ∷ []))
