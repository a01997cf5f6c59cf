use Rattle.std.proofs.Common.{◌≡◌, ◌-◌, ◌∙◌, eqb, eq-eqb, true, false, length, get_or, take, drop, sym, ap, arith}
use Rattle.std.specs.List.{list_any, slice_split}
use Rattle.std.specs.String.{string_bytes}
use Rattle.std.proofs.lemmas.Grind.{common_steps}
use Rattle.std.proofs.lemmas.List.{take_rest}
use Rattle.desk_text.specs.Path.{components, is_absolute, is_dot_component}
use Rattle.desk_text.specs.PrivatePath.{is_empty, kept_text}
use Rattle.desk_text.proofs.Slashes.{components-kept_text}
use Rattle.desk_text.proofs.PathParts.{kept_already, dots_behind}
use Rattle.desk_text.proofs.path.Path.read.Goals as goal
use Rattle.desk_text.proofs.path.Path.read.Goals.{Joined-parts-2, then-parts-2+in_ok-text, else-parts-2+in_ok-text-2}

absolute : (c : Joined-parts-2) → is_absolute c.args.text.now ≡ true
absolute c = ap (λ bs. eqb (get_or bs 0 0) 47) (sym c.as_bytes-bytes.ensures.value) ∙ eq-eqb _ _ c.if-bytes-ne47.false

behind : (c : Joined-parts-2) → take (length c.as_bytes-bytes.result.now - 1) (drop 1 c.as_bytes-bytes.result.now) ≡ drop 1 c.args.text.now
behind c = take_rest c.as_bytes-bytes.result.now 1 ∙ ap (drop 1) c.as_bytes-bytes.ensures.value

kept : (c : Joined-parts-2) → string_bytes c.if-parts-2.text ≡ kept_text (components c.args.text.now)
kept c =
    elim c.if-parts-2.branch [
      | then-parts-2+in_ok-text w ↦ ap string_bytes w.text-is ∙ w.in_ok-text.ensures
      | else-parts-2+in_ok-text-2 w ↦
          let none : list_any is_empty (slice_split (λ b. eqb b 47) (drop 1 c.args.text.now)) ≡ false =
          ap (λ t. list_any is_empty (slice_split (λ b. eqb b 47) t)) (sym (behind c)) ∙ sym c.look_at_parts-parts.ensures.empty ∙ w.if-parts-2.false in
          ap string_bytes w.text-is ∙ w.in_ok-text-2.ensures.ok ∙ sym (kept_already c.args.text.now (absolute c) none)
    ]

pub invariant_of-result : goal.invariant_of-result
invariant_of-result c =
    let is = kept (goal.at.invariant_of-result c).Joined-parts-2 in
    ap (λ t. kept_text (components t)) is ∙ ap kept_text (components-kept_text c.args.text.now) ∙ sym is

pub returns : goal.returns
returns c =
    let j = (goal.at.returns c).Joined-parts-2 in
    let same = ap components (kept j) ∙ components-kept_text c.args.text.now in
    let starts = absolute j in
    let dots : list_any is_dot_component (slice_split (λ b. eqb b 47) c.args.text.now) ≡ false =
    sym (dots_behind c.args.text.now starts) ∙ ap (λ t. list_any is_dot_component (slice_split (λ b. eqb b 47) t)) (sym (behind j)) ∙ sym c.look_at_parts-parts.ensures.dots ∙ c.if-parts.false in
    grind (arith, common_steps)
