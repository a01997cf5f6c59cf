use Rattle.std.proofs.Common.{◌≡◌, ◌++◌, ◌∷◌, ◌∙◌, [], List, ap, ℕ}
use Rattle.std.specs.Prelude.{codes}
use Rattle.std.specs.String.{string_bytes}
use Rattle.std.proofs.lemmas.List.{append_assoc}
use Rattle.desk_text.specs.Path.{path_text}
use Rattle.desk_policy.specs.ListingPrints.{dir_line}
use Rattle.desk_policy.proofs.Gathered.{writes}
use Rattle.desk_policy.proofs.listing_prints.push_dirs.Goals as goal

-- a text that gains a line in three steps
line_added : (start indented named next indent name end : List ℕ) → indented ≡ start ++ indent → named ≡ indented ++ name → next ≡ named ++ end → next ≡ start ++ ((indent ++ name) ++ end)
line_added start indented named next indent name end a b c =
    c ∙ ap (λ t. t ++ end) b ∙ ap (λ t. (t ++ name) ++ end) a ∙ ap (λ t. t ++ end) (append_assoc start indent name) ∙ append_assoc start (indent ++ name) end

pub loop-dir-preserved : goal.loop-dir-preserved
loop-dir-preserved c =
    let dir = c.dir-item.result in
    let now = string_bytes c.loop-dir.text in
    let indented = string_bytes c.push_str.new.self in
    let next = string_bytes c.push_str-in-loop-dir-2.new.self in
    writes c.args.dirs.now c.loop-dir.dir-index dir c.loop-dir-test.true c.dir-item.is dir_line (string_bytes c.args.text.now) now next c.loop-dir.invariant
    (line_added now indented (string_bytes c.push_str-in-loop-dir.new.self) next (codes "  ") (path_text dir) (10 ∷ [])
    c.in_ok-push_str.ensures.bytes (c.in_ok-push_str-2.ensures.bytes ∙ ap (λ t. indented ++ t) c.text.ensures.printed) c.in_ok-push_str-3.ensures.bytes)
