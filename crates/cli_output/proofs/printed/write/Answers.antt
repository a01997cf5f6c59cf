-- What was written is a front of the text, at each way out.
use Rattle.std.proofs.Common.{◌≡◌, ℕ, ◌-◌, List, [], ◌++◌, rules, length, take, drop, sym, ap, ◌∙◌, subst, append_assoc, append-nil, take-append-drop, drop_of_length-le}
use Rattle.std.proofs.lemmas.List.{take_rest}
use Rattle.std.specs.Prelude.{Result, Ok, Err, OnOk}
use Rattle.std.specs.Io.KnownBytes.{Appends}
use Rattle.std.proofs.KnownBytes.{Appends-kept, Appends-trans}
use Rattle.cli_output.proofs.printed.write.Goals.{in-Ok, in-Err+else-ne}
use Rattle.cli_output.proofs.printed.write.Goals as goal

moves_front : (all done rest : List ℕ) (n : ℕ) → all ≡ done ++ rest → all ≡ (done ++ take n rest) ++ take (length rest - n) (drop n rest)
moves_front all done rest n e =
    e ∙ ap (λ l. done ++ l) (sym (take-append-drop n rest)) ∙ sym (append_assoc done (take n rest) (drop n rest)) ∙ ap (λ l. (done ++ take n rest) ++ l) (sym (take_rest rest n))

on_any : {A E : Type 0} (result : Result A E) (P : Type 0) → P → OnOk result P
on_any (Ok value) P holds = holds
on_any (Err error) P holds = tt

pub loop-preserved : goal.loop-preserved
loop-preserved g c =
    let (done, split, appended) = c.loop.invariant in
    let rest = c.loop.rest.now in
    elim c.match-write.branch [
      | in-Ok w ↦ (
        done ++ take w.in-Ok.count rest,
        moves_front _ done rest w.in-Ok.count split ∙ ap (λ r. (done ++ take w.in-Ok.count rest) ++ r.now) (sym w.rest-is),
        Appends-trans _ _ _ _ _ appended w.in-Ok.ensures.bytes,
      )
      | in-Err+else-ne w ↦ (done, split ∙ ap (λ r. done ++ r.now) (sym w.rest-is), Appends-kept _ _ _ _ appended w.in-Err.ensures.bytes)
    ]

pub returns-then-is_empty : goal.returns-then-is_empty
returns-then-is_empty g c =
    let (done, split, appended) = c.loop.invariant in
    let rest = c.loop.rest.now in
    let empty : rest ≡ [] = drop_of_length-le rest {i = 0} (search rules) in
    let written = Appends-kept _ _ _ _ (subst (Appends _ _) (sym (split ∙ ap (λ l. done ++ l) empty ∙ append-nil done)) appended) c.flush.ensures.bytes in
    record { whole = on_any c.flush.result _ written; front = record { front = c.args.text.now; rest = []; text_is = sym (append-nil c.args.text.now); prints = written } }
