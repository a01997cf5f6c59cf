-- Lines that decide for the clients of another one, of its file system.
use Rattle.std.proofs.Common.{◌≡◌, ◌<◌, ◌≤◌, ◌∙◌, ℕ, List, [], ap, arith, get_or, length, map, subst, sym}
use Rattle.std.specs.Prelude.{All}
use Rattle.std.proofs.lemmas.List.{get_or-map, get_or_past, length-map}
use Rattle.page_findings.specs.Deciding.{AreInLineOrder, deciding_of, deciding_value}
use Rattle.page_findings.specs.declared.deciding.Deciding.{Deciding}
use Rattle.page_summary.specs.SiteFinding.{deciding_for}

module _ (deciding : List Deciding) (fs : ℕ) where
  pub own_ascend : (own : Deciding) → fs < length deciding → own ≡ get_or deciding fs own → All AreInLineOrder (map deciding_value deciding) → AreInLineOrder (deciding_value own)
  own_ascend own within is all =
      subst AreInLineOrder (get_or-map deciding_value deciding fs own [] within ∙ ap deciding_value (sym is)) (all fs [] (let many = length-map deciding deciding_value in omega arith))

  pub own_told : (own : Deciding) (line : ℕ) → fs < length deciding → own ≡ get_or deciding fs own → deciding_of line (deciding_value own) ≡ deciding_for (map deciding_value deciding) fs line
  own_told own line within is = ap (deciding_of line) (sym (get_or-map deciding_value deciding fs own [] within ∙ ap deciding_value (sym is)))

  pub none_told : (line : ℕ) → length deciding ≤ fs → [] ≡ deciding_for (map deciding_value deciding) fs line
  none_told line past = ap (deciding_of line) (sym (get_or_past (map deciding_value deciding) fs [] (let many = length-map deciding deciding_value in omega arith)))
