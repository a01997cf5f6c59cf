-- One mark more is added.
use Rattle.std.proofs.Common.{◌≡◌, ◌+◌, ◌++◌, ◌∷◌, ◌∙◌, [], ℕ, ap, append_assoc, arith, rules, suc}
use Rattle.std.specs.List.{repeat}
use Rattle.std.specs.String.{string_bytes}
use Rattle.desk_shown.proofs.ShownTextLemmas.{repeat_more}
use Rattle.desk_shown.proofs.shown_text.push_under.Goals as goal

pub loop-preserved : goal.loop-preserved
loop-preserved c =
    let added : string_bytes c.push-in-loop.new.self ≡ string_bytes c.loop.shown ++ c.args.mark ∷ [] = search rules in
    let next : suc c.loop.counter ≡ c.loop.counter + 1 = omega arith in
    let more : repeat c.loop.counter (c.args.mark ∷ []) ++ c.args.mark ∷ [] ≡ repeat (c.loop.counter + 1) (c.args.mark ∷ []) =
    repeat_more c.loop.counter c.args.mark ∙ ap (λ (n : ℕ). repeat n (c.args.mark ∷ [])) next in
    added ∙ ap (λ l. l ++ c.args.mark ∷ []) c.loop.invariant ∙ append_assoc (string_bytes c.args.shown.now) (repeat c.loop.counter (c.args.mark ∷ [])) (c.args.mark ∷ []) ∙ ap (λ l. string_bytes c.args.shown.now ++ l) more
