-- What the lines of a text answer together, line by line.
use Rattle.std.proofs.Common.{◌≡◌, ℕ, ◌+◌, ◌<◌, ◌≤◌, ◌++◌, List, [], ◌∷◌, Option, Result, Ok, Err, Some, ap, get_or, length, map, sym, subst, take, drop, ◌∙◌}
use Rattle.std.specs.List.{AllZip, cons_option, filter_map}
use Rattle.std.proofs.lemmas.List.{append-nil, drop_more, map-append, take_all, take_more, take-append-drop}
use Rattle.std.proofs.lemmas.List.Elements.{filter_map-append}
use Rattle.desk_text.specs.Lines.{LogicalLine}
use Rattle.desk_text.specs.Reading.{AnsweredLine, answered_value, fault_at, fault_of, read_lines, unless_fault, value_of}
use Rattle.desk_text.specs.declared.reading.LineFault.{LineFault}

-- ---- lists side by side
pub zip_push : {A B : Type 0} (R : A → B → Type 0) (xs : List A) (ys : List B) (x : A) (y : B) → AllZip R xs ys → R x y → AllZip R (xs ++ x ∷ []) (ys ++ y ∷ [])
zip_push R [] [] x y all one = (one, tt)
zip_push R [] (b ∷ ys) x y all one = absurd all
zip_push R (a ∷ xs) [] x y all one = absurd all
zip_push R (a ∷ xs) (b ∷ ys) x y all one = (all.0, zip_push R xs ys x y all.1 one)

module _ {X R : Type 0} (answered : LogicalLine → AnsweredLine X R) where
  -- no line of the list is faulty, and these are the values
  pub record AllGood (lines : List LogicalLine) (values : List X) : Type 0 where
    pub sound : filter_map fault_of (map answered lines) ≡ []
    pub are : filter_map value_of (map answered lines) ≡ values

  -- one good line more
  pub good_more : (lines : List LogicalLine) (i : ℕ) (line : LogicalLine) → i < length lines → line ≡ get_or lines i line → (value : X) → (answered line).answer ≡ Ok (Some value)
      → (values : List X) → AllGood (take i lines) values → AllGood (take (i + 1) lines) (values ++ value ∷ [])
  good_more lines i line below is value good values so_far =
      let more : take (i + 1) lines ≡ take i lines ++ line ∷ [] = take_more lines i line below ∙ ap (λ (l : LogicalLine). take i lines ++ l ∷ []) (sym is) in
      let own : map answered (take i lines ++ line ∷ []) ≡ map answered (take i lines) ++ answered line ∷ [] = map-append answered (take i lines) (line ∷ []) in
      subst (λ ls. AllGood ls (values ++ value ∷ [])) (sym more) (record {
        sound = ap (filter_map fault_of) own ∙ filter_map-append fault_of (map answered (take i lines)) (answered line ∷ [])
            ∙ ap (λ (r : Result (Option X) R). filter_map fault_of (map answered (take i lines)) ++ cons_option (fault_at (answered line).number r) []) good
            ∙ append-nil (filter_map fault_of (map answered (take i lines))) ∙ so_far.sound;
        are = ap (filter_map value_of) own ∙ filter_map-append value_of (map answered (take i lines)) (answered line ∷ [])
            ∙ ap (λ (r : Result (Option X) R). filter_map value_of (map answered (take i lines)) ++ cons_option (answered_value r) []) good
            ∙ ap (λ (vs : List X). vs ++ value ∷ []) so_far.are;
      })

  -- all lines are good
  pub all_good : (lines : List LogicalLine) (i : ℕ) (values : List X) → length lines ≤ i → AllGood (take i lines) values → read_lines (map answered lines) ≡ Ok values
  all_good lines i values over so_far =
      let all : take i lines ≡ lines = take_all i lines over in
      ap (λ (fs : List (LineFault R)). unless_fault fs (filter_map value_of (map answered lines))) (ap (λ ls. filter_map fault_of (map answered ls)) (sym all) ∙ so_far.sound)
      ∙ ap Ok (ap (λ ls. filter_map value_of (map answered ls)) (sym all) ∙ so_far.are)

  -- a line is the first faulty one
  pub first_faulty : (lines : List LogicalLine) (i : ℕ) (line : LogicalLine) → i < length lines → line ≡ get_or lines i line → (rule : R) → (answered line).answer ≡ Err rule
      → (values : List X) → AllGood (take i lines) values → read_lines (map answered lines) ≡ Err (record { line = (answered line).number; rule = rule })
  first_faulty lines i line below is rule bad values so_far =
      let rest = drop (i + 1) lines in
      let parts : lines ≡ take i lines ++ line ∷ rest =
      sym (take-append-drop i lines) ∙ ap (λ ls. take i lines ++ ls) (drop_more lines i line below ∙ ap (λ (l : LogicalLine). l ∷ rest) (sym is)) in
      let faults : filter_map fault_of (map answered lines) ≡ record { line = (answered line).number; rule = rule } ∷ filter_map fault_of (map answered rest) =
      ap (λ ls. filter_map fault_of (map answered ls)) parts
      ∙ ap (filter_map fault_of) (map-append answered (take i lines) (line ∷ rest))
      ∙ filter_map-append fault_of (map answered (take i lines)) (answered line ∷ map answered rest)
      ∙ ap (λ fs. fs ++ filter_map fault_of (answered line ∷ map answered rest)) so_far.sound
      ∙ ap (λ (r : Result (Option X) R). cons_option (fault_at (answered line).number r) (filter_map fault_of (map answered rest))) bad in
      ap (λ (fs : List (LineFault R)). unless_fault fs (filter_map value_of (map answered lines))) faults
