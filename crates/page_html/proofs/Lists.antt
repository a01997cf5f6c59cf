-- A list that is cut says how many it leaves out.
use Rattle.std.proofs.Common.{◌≡◌, ℕ, suc, ◌+◌, ◌-◌, ◌<◌, ◌≤◌, ◌++◌, ◌∙◌, List, [], ◌∷◌, ap, arith, codes, drop, leb, length, take}
use Rattle.std.proofs.lemmas.Bool.{cond-false, cond-true, le-leb, lt-leb}
use Rattle.std.proofs.lemmas.List.{length-drop}
use Rattle.page_html.specs.Amounts.{and_more}
use Rattle.page_html.specs.Numbers.{number}
use Rattle.page_html.specs.Pieces.{code_list}
use Rattle.page_html.specs.Ranges.{folded_ranges, left_out, range_list, ranges_text}
use Rattle.page_html.specs.declared.ranges.Span.{Span}
use Rattle.page_html.specs.Laws.{ListsSayWhatTheyLeaveOut}
use Rattle.page_html.specs.PartPieces.{some_codes}

cut : ℕ → List (List ℕ) → List ℕ
cut most texts = code_list (take most texts) ++ and_more (length (drop most texts))

few : (most : ℕ) (texts : List (List ℕ)) → length texts ≤ most → some_codes most texts ≡ code_list texts
unfolding cut
few most texts enough = cond-true (leb (length texts) most) (code_list texts) (cut most texts) (le-leb (length texts) most enough)

many : (most others : ℕ) (texts : List (List ℕ)) → length texts ≡ most + suc others
    → some_codes most texts ≡ code_list (take most texts) ++ and_more (suc others)
unfolding cut
many most others texts long =
    let more : most < length texts = omega arith in
    let left : length texts - most ≡ suc others = omega arith in
    cond-false (leb (length texts) most) (code_list texts) (cut most texts) (lt-leb (length texts) most more)
    ∙ ap (λ n. code_list (take most texts) ++ and_more n) (length-drop most texts ∙ left)

-- what is folded, given what is listed of it and how many ranges it has
folded : ℕ → List ℕ → List ℕ
folded count listed = codes "<details><summary>" ++ number count ++ codes " more</summary>\n" ++ listed ++ codes "</details>\n"

ranges : (others : ℕ) (spans : List Span) → length spans ≡ 256 + suc others
    → ranges_text spans ≡ range_list (take 8 spans) ++ folded (248 + suc others) (range_list (take 248 (drop 8 spans)) ++ left_out (suc others))
unfolding folded
ranges others [] long = absurd (omega arith)
ranges others (one ∷ []) long = absurd (omega arith)
ranges others (one ∷ other ∷ rest) long =
    let spans = one ∷ other ∷ rest in
    let shown = range_list (take 8 spans) in
    let behind = drop 8 spans in
    let count : length behind ≡ 248 + suc others = length-drop 8 spans ∙ (omega arith) in
    let left : length (drop 248 behind) ≡ suc others = length-drop 248 behind ∙ (omega arith) in
    let many_spans : 8 < length spans = omega arith in
    let many_behind : 248 < length behind = omega arith in
    cond-false (leb (length spans) 8) (range_list spans) (shown ++ folded_ranges behind) (lt-leb (length spans) 8 many_spans)
    ∙ ap (λ listed. shown ++ folded (length behind) listed)
    (cond-false (leb (length behind) 248) (range_list behind) (range_list (take 248 behind) ++ left_out (length (drop 248 behind)))
    (lt-leb (length behind) 248 many_behind))
    ∙ ap (λ n. shown ++ folded n (range_list (take 248 behind) ++ left_out (length (drop 248 behind)))) count
    ∙ ap (λ n. shown ++ folded (248 + suc others) (range_list (take 248 behind) ++ left_out n)) left

pub lists_say_what_they_leave_out : ListsSayWhatTheyLeaveOut
unfolding folded
lists_say_what_they_leave_out = record { few = few; many = many; ranges = ranges }
