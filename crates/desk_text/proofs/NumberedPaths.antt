-- Paths right below another one whose names are numbers: for `path::Path::child`.
use Rattle.std.proofs.Common.{◌≡◌, ℕ, ◌+◌, ◌<◌, ◌^◌, ◌%◌, false, not, eqb, List, [], ◌∷◌, ◌++◌, length, sym, ap, ◌∙◌, append-nil, arith}
use Rattle.std.specs.Fmt.{decimal}
use Rattle.std.specs.List.{AllByRecursion}
use Rattle.std.proofs.lemmas.Bool.{ne_eqb}
use Rattle.std.proofs.lemmas.Fmt.{decimal_by_steps, decimal_nonempty}
use Rattle.std.proofs.lemmas.List.Concat.{flat_map-append}
use Rattle.desk_text.specs.Path.{components}
use Rattle.desk_text.specs.PrivatePath.{kept_text}
use Rattle.desk_text.proofs.Slashes.{IsComponent, NoSlash, are_components, kept_reads_back}

push : {X : Type 0} (P : X → Type 0) (xs : List X) (x : X) → AllByRecursion P xs → P x → AllByRecursion P (xs ++ x ∷ [])
push P [] x all own = (own, tt)
push P (y ∷ xs) x all own = (all.0, push P xs x all.1 own)

digit : (d : ℕ) → eqb (48 + d) 47 ≡ false
digit d = ne_eqb (48 + d) 47 (λ e. omega arith)

no_slash : (n : ℕ) → n < 2 ^ 64 → NoSlash (decimal n)
no_slash n fits = decimal_by_steps (λ m ds. NoSlash ds) (λ m less. (digit m, tt)) (λ m ds more all. push (λ b. eqb b 47 ≡ false) ds (48 + m % 10) all (digit (m % 10))) n fits

is_name : (n : ℕ) → n < 2 ^ 64 → IsComponent (decimal n)
is_name n fits = (ap not (ne_eqb (length (decimal n)) 0 (λ e. omega (arith, decimal_nonempty n fits))), no_slash n fits)

module _ (text new : List ℕ) (n : ℕ) (fits : n < 2 ^ 64) (kept : kept_text (components text) ≡ text) (is : new ≡ text ++ 47 ∷ decimal n) where
  is_kept : new ≡ kept_text (components text ++ decimal n ∷ [])
  is_kept =
      is ∙ ap (λ t. t ++ 47 ∷ decimal n) (sym kept) ∙ ap (λ t. kept_text (components text) ++ t) (sym (append-nil (47 ∷ decimal n)))
      ∙ sym (flat_map-append (λ part. 47 ∷ part) (components text) (decimal n ∷ []))

  pub child_components : components new ≡ components text ++ decimal n ∷ []
  child_components =
      ap components is_kept ∙ kept_reads_back (components text ++ decimal n ∷ []) (push IsComponent (components text) (decimal n) (are_components text) (is_name n fits))

  pub child_kept : kept_text (components new) ≡ new
  child_kept = ap kept_text child_components ∙ sym is_kept
