use Rattle.std.proofs.Common.{◌≡◌, ◌∙◌, ◌++◌, ◌∷◌, [], ◌<◌, ◌+◌, ◌^◌, ℕ, true, ap, arith, below_more, length, sym, inl, inr}
use Rattle.std.specs.Fmt.{decimal}
use Rattle.std.proofs.lemmas.Bool.{cases_lt, false_from_ne_true}
use Rattle.std.proofs.lemmas.List.{length-map}
use Rattle.desk_policy.specs.Verdict.{is_directory_among}
use Rattle.desk_impact.specs.Places.{paths_in}
use Rattle.desk_impact.proofs.Numbered.{one_is_free}
use Rattle.desk_impact.proofs.unwritten_path.free_path.Goals as goal

pub loop-number-preserved : goal.loop-number-preserved
loop-number-preserved c =
    let taken = paths_in c.args.taken.now in
    below_more (λ (k : ℕ). is_directory_among (c.args.mount.now ++ decimal k ∷ []) taken ≡ true) c.loop-number.number c.loop-number.invariant
    (ap (λ p. is_directory_among p taken) (sym c.in_ok-path.ensures) ∙ sym c.is_among.ensures ∙ c.if-not-is_among.false)

pub returns : goal.returns
returns c =
    let paths = c.args.taken.now in
    let taken = paths_in paths in
    let count : length taken ≡ length paths = length-map paths (λ path. path.now) in
    let fits : length paths < 2 ^ 64 = omega arith in
    let all : is_directory_among c.in_ok-path-2.path taken ≡ true → (k : ℕ) → k < length taken + 1 → is_directory_among (c.args.mount.now ++ decimal k ∷ []) taken ≡ true = λ is k less.
    elim (cases_lt k c.loop-number.number) [
      | inl before ↦ c.loop-number.invariant k before
      | inr last ↦
          let same : length paths ≡ k = omega arith in
          ap (λ n. is_directory_among (c.args.mount.now ++ decimal n ∷ []) taken) (sym same) ∙ ap (λ p. is_directory_among p taken) (sym c.in_ok-path-2.ensures) ∙ is
    ] in
    record {
      name = decimal (length paths);
      below = c.in_ok-path-2.ensures;
      free = false_from_ne_true _ (λ is. one_is_free c.args.mount.now taken (omega arith) (all is));
    }
