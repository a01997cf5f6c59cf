use Rattle.std.proofs.Common.{◌≡◌, ◌≢◌, ◌<◌, ◌∙◌, length, sym, ap, subst, arith}
use Rattle.std.specs.String.{string_bytes, string_len}
use Rattle.std.proofs.lemmas.Bool.{eqb-true, eqb-false}
use Rattle.desk_text.specs.Path.{IsPath, components, path_text}
use Rattle.desk_text.proofs.PathLaws.{components_are_path}
use Rattle.desk_text.proofs.Slashes.{kept_none, kept_some}
use Rattle.desk_text.proofs.path.Path.text.Goals as goal

pub returns-then-is_empty-clause-printed : goal.returns-then-is_empty-clause-printed
returns-then-is_empty-clause-printed c =
    let text = c.self.inside.text in
    let none : string_len text ≡ 0 = eqb-true (string_len text) 0 (sym c.is_empty.ensures ∙ c.if-is_empty.true) in
    let empty : length (string_bytes text) ≡ 0 = omega (arith, none, text.bytes.ok.0) in
    kept_none (components (string_bytes text)) (ap length c.self.invariant ∙ empty) ∙ ap path_text c.self.view_is

pub returns-then-is_empty-clause-path : goal.returns-then-is_empty-clause-path
returns-then-is_empty-clause-path c = subst IsPath c.self.view_is (components_are_path (string_bytes c.self.inside.text))

pub returns-else-is_empty-clause-printed : goal.returns-else-is_empty-clause-printed
returns-else-is_empty-clause-printed c =
    let text = c.self.inside.text in
    let filled : string_len text ≢ 0 = eqb-false (string_len text) 0 (sym c.is_empty.ensures ∙ c.if-is_empty.false) in
    let some : 0 < length (string_bytes text) = omega (arith, filled, text.bytes.ok.0) in
    c.as_str.ensures.value ∙ sym c.self.invariant
    ∙ kept_some (components (string_bytes text)) (omega (arith, some, ap length c.self.invariant)) ∙ ap path_text c.self.view_is

pub returns-else-is_empty-clause-path : goal.returns-else-is_empty-clause-path
returns-else-is_empty-clause-path c = subst IsPath c.self.view_is (components_are_path (string_bytes c.self.inside.text))
