use Rattle.std.proofs.Common.{◌≡◌, ◌++◌, ◌<◌, ◌∙◌, ltb, ℕ, List, [], length, get_or, map, set, sym, ap, arith}
use Rattle.std.specs.String.{string_bytes}
use Rattle.std.proofs.lemmas.Bool.{cond-true, lt-ltb}
use Rattle.std.proofs.lemmas.List.{get_or-map, length-map, map-set}
use Rattle.desk_split.specs.PrivateSplitting.{with_more}
use Rattle.desk_split.specs.Splitting.{written_line}
use Rattle.desk_split.proofs.splitting.append_line.Goals as goal

-- the text in this place goes on
goes_on : {X : Type 0} (bytes : X → List ℕ) (texts : List X) (i : ℕ) (old new : X) (more : List ℕ) → i < length texts → old ≡ get_or texts i old → bytes new ≡ bytes old ++ more
    → map bytes (set texts i new) ≡ with_more (map bytes texts) i more
goes_on bytes texts i old new more below is e =
    let there : i < length (map bytes texts) = omega (arith, length-map texts bytes) in
    map-set bytes texts i new
    ∙ ap (set (map bytes texts) i) (e ∙ ap (λ t. t ++ more) (ap bytes is ∙ sym (get_or-map bytes texts i old [] below)))
    ∙ sym (cond-true (ltb i (length (map bytes texts))) _ _ (lt-ltb _ _ there))

pub returns-in_ok-write_line : goal.returns-in_ok-write_line
returns-in_ok-write_line c =
    let below : c.args.fs.0 < length c.args.texts.now.items = grind (arith, c.in-Some.ensures.variant) in
    goes_on string_bytes c.args.texts.now.items c.args.fs.0 c.in-Some.text.now c.write_line.new.text (written_line c.args.line.now) below c.in-Some.ensures.value c.in_ok-write_line.ensures
