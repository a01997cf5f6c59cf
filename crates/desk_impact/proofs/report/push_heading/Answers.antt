use Rattle.std.proofs.Common.{◌≡◌, ◌++◌, ◌∷◌, [], List, ℕ, subst, ap, sym, ◌∙◌}
use Rattle.std.specs.Prelude.{OnOk}
use Rattle.std.specs.String.{string_bytes}
use Rattle.desk_text.specs.Path.{path_text}
use Rattle.desk_impact.specs.Places.{Others, place_of}
use Rattle.desk_impact.specs.Report.{heading}
use Rattle.desk_impact.proofs.report.push_heading.Goals as goal

printed : (mount : List (List ℕ)) (text : List ℕ) → text ≡ path_text mount
    → 61 ∷ 61 ∷ 32 ∷ 111 ∷ 116 ∷ 104 ∷ 101 ∷ 114 ∷ 32 ∷ 100 ∷ 105 ∷ 114 ∷ 101 ∷ 99 ∷ 116 ∷ 111 ∷ 114 ∷ 105 ∷ 101 ∷ 115 ∷ 32 ∷ 111 ∷ 102 ∷ 32 ∷ (text ++ 10 ∷ []) ≡ heading (Others mount)
printed mount text e =
    ap (λ (t : List ℕ). 61 ∷ 61 ∷ 32 ∷ 111 ∷ 116 ∷ 104 ∷ 101 ∷ 114 ∷ 32 ∷ 100 ∷ 105 ∷ 114 ∷ 101 ∷ 99 ∷ 116 ∷ 111 ∷ 114 ∷ 105 ∷ 101 ∷ 115 ∷ 32 ∷ 111 ∷ 102 ∷ 32 ∷ (t ++ 10 ∷ [])) e

pub returns-in-Others : goal.returns-in-Others
returns-in-Others c =
    subst (λ (t : List ℕ). OnOk c.write-in-Others.result (string_bytes c.write-in-Others.new.self ≡ string_bytes c.args.text.now ++ t))
    (printed c.in-Others.mount.now c.text-mount.result.now c.text-mount.ensures.printed ∙ ap (λ p. heading (place_of p)) (sym c.in-Others.is)) c.write-in-Others.ensures.bytes
