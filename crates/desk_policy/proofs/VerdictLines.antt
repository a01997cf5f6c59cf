-- Which line a verdict names.
use Rattle.std.proofs.Common.{◌≡◌, ◌&&◌, ◌||◌, Bool, true, cond, List, [], ◌∷◌, Option, Some, None, Result, Ok, Err, sym, ◌∙◌, ap, refl, ℕ}
use Rattle.std.specs.Prelude.{find}
use Rattle.desk_tables.specs.declared.filesystems.FsId.{FsId}
use Rattle.desk_policy.specs.declared.row.Row.{Row}
use Rattle.desk_policy.specs.declared.verdict.Denial.{Denial}
use Rattle.desk_policy.specs.declared.verdict.Denial.TheVariants as denials
use Rattle.desk_policy.specs.PrivateWeights.{has_weight, IsGreatest}
use Rattle.std.proofs.Math.Bool.{and-true}
use Rattle.std.proofs.lemmas.Bool.{eq-eqb}
use Rattle.desk_policy.specs.Policy.{Content}
use Rattle.desk_tables.specs.FileSystems.{fs_of}
use Rattle.desk_policy.specs.Weights.{selected}
use Rattle.desk_policy.specs.Verdict.{Grant, granted_by, verdict_among, lists, lists_here, is_in, is_directory_among}
use Rattle.desk_policy.proofs.GreatestWeight.{find-filter, find_front, selected-none, selected-some}

abbrev pub grant : FsId → Row → Grant
grant fs row = record { fs = fs; line = row.entry.line; terms = row.entry.terms }

module _ (fs : FsId) (listing : Row → Bool) where
  pub among_listed : (rows : List Row) (row : Row) → find listing rows ≡ Some row → verdict_among fs listing rows ≡ Ok (grant fs row)
  among_listed [] row e = cc
  among_listed (first ∷ others) row e = ap (granted_by fs first) e

  pub among_unlisted : (rows : List Row) (first : Row) → find listing rows ≡ None → find (λ _. true) rows ≡ Some first → verdict_among fs listing rows ≡ Err (denials.NotListed fs first.entry.line)
  among_unlisted [] first e f = cc
  among_unlisted (x ∷ others) first e f =
      ap (granted_by fs x) e ∙ ap (λ (o : Option Row). unlisted o) f
    where
      unlisted : Option Row → Result Grant Denial
      unlisted None = Err (denials.NoLine fs)
      unlisted (Some row) = Err (denials.NotListed fs row.entry.line)

  pub among_empty : (rows : List Row) → find (λ _. true) rows ≡ None → verdict_among fs listing rows ≡ Err (denials.NoLine fs)
  among_empty [] e = refl
  among_empty (x ∷ others) e = cc

  module _ (rows : List Row) (address weight : ℕ) (greatest : IsGreatest rows address (Some weight)) where
    pub scan_listed : (row : Row) → find (λ x. has_weight address weight x && listing x) rows ≡ Some row → verdict_among fs listing (selected rows address) ≡ Ok (grant fs row)
    scan_listed row e =
        ap (verdict_among fs listing) (selected-some rows address weight greatest)
        ∙ among_listed _ row (find-filter listing (has_weight address weight) rows ∙ e)

    pub scan_unlisted : (first : Row) → find (λ x. has_weight address weight x && listing x) rows ≡ None → find (has_weight address weight) rows ≡ Some first
        → verdict_among fs listing (selected rows address) ≡ Err (denials.NotListed fs first.entry.line)
    scan_unlisted first e f =
        ap (verdict_among fs listing) (selected-some rows address weight greatest)
        ∙ among_unlisted _ first (find-filter listing (has_weight address weight) rows ∙ e) (find_front (has_weight address weight) rows ∙ f)

    pub scan_empty : find (has_weight address weight) rows ≡ None → verdict_among fs listing (selected rows address) ≡ Err (denials.NoLine fs)
    scan_empty f =
        ap (verdict_among fs listing) (selected-some rows address weight greatest)
        ∙ among_empty _ (find_front (has_weight address weight) rows ∙ f)

  pub scan_none : (rows : List Row) (address : ℕ) → IsGreatest rows address None → verdict_among fs listing (selected rows address) ≡ Err (denials.NoLine fs)
  scan_none rows address h = ap (verdict_among fs listing) (selected-none rows address h)

find_agree : {X : Type 0} (p q : X → Bool) → ((x : X) → p x ≡ q x) → (xs : List X) → find p xs ≡ find q xs
find_agree p q h [] = refl
find_agree p q h (x ∷ xs) = ap (λ b. cond b (Some x) (find p xs)) (h x) ∙ ap (cond (q x) (Some x)) (find_agree p q h xs)

pub among_agree : (fs : FsId) (p q : Row → Bool) → ((x : Row) → p x ≡ q x) → (rows : List Row) → verdict_among fs p rows ≡ verdict_among fs q rows
among_agree fs p q h [] = refl
among_agree fs p q h (first ∷ others) = ap (granted_by fs first) (find_agree p q h (first ∷ others))

-- on a path of this file system, a line lists what its directories or -alldirs list
pub lists_same : (content : Content) (fs : ℕ) (path : List (List ℕ)) → fs_of content.table path ≡ Some fs → (row : Row) → lists_here path row ≡ lists content fs path row
lists_same content fs path e row =
    ap (λ b. is_directory_among path row.entry.dirs || b) (sym (ap (λ o. row.entry.alldirs && is_in o fs) e ∙ ap (λ b. row.entry.alldirs && b) (eq-eqb fs fs refl) ∙ and-true row.entry.alldirs))
