-- One more file has its own contradictions.
use Rattle.std.proofs.Common.{◌≡◌, ◌<◌, ◌+◌, ◌++◌, ◌∷◌, ◌∙◌, [], ℕ, List, ap, append_assoc, get_or, length, refl, subst, sym, take}
use Rattle.std.proofs.lemmas.List.{append-nil, take_more}
use Rattle.desk_policy.specs.Contradiction.{AreContradictions}
use Rattle.desk_policy.specs.declared.contradiction.Contradiction.{Contradiction}
use Rattle.desk_policy.specs.declared.row.Row.{Row}
use Rattle.desk_findings.specs.CheckOdd.{AreContradictionsIn}
use Rattle.desk_findings.proofs.check_odd.contradictions_in.Goals as goal

one_more : (files : List (List Row)) (rows : List Row) (found own : List Contradiction) → AreContradictionsIn files found → AreContradictions rows rows own → AreContradictionsIn (files ++ rows ∷ []) (found ++ own)
one_more [] rows found own none are = (own, [], (are, (refl, ap (λ l. l ++ own) none ∙ sym (append-nil own))))
one_more (first ∷ files) rows found own so_far are =
    (so_far.0, so_far.1 ++ own, (so_far.2.0, (one_more files rows so_far.1 own so_far.2.1.0 are, ap (λ l. l ++ own) so_far.2.1.1 ∙ append_assoc so_far.0 so_far.1 own)))

step : (files : List (List Row)) (i : ℕ) (rows : List Row) (found own new : List Contradiction) → i < length files → rows ≡ get_or files i rows → AreContradictionsIn (take i files) found → AreContradictions rows rows own → new ≡ found ++ own
    → AreContradictionsIn (take (i + 1) files) new
step files i rows found own new below is so_far are added =
    let longer : take (i + 1) files ≡ take i files ++ rows ∷ [] = take_more files i rows below ∙ ap (λ (r : List Row). take i files ++ r ∷ []) (sym is) in
    subst (λ (fs : List (List Row)). AreContradictionsIn fs new) (sym longer)
    (subst (λ (l : List Contradiction). AreContradictionsIn (take i files ++ rows ∷ []) l) (sym added) (one_more (take i files) rows found own so_far are))

pub loop-rows-preserved : goal.loop-rows-preserved
loop-rows-preserved c =
    let are = subst (λ (rows : List Row). AreContradictions rows rows c.in_ok-more.more) c.as_slice.ensures c.in_ok-more.ensures.all in
    step c.args.files.now c.loop-rows.rows-index c.rows-item.result c.loop-rows.found c.in_ok-more.more c.push_contradictions.new.found c.loop-rows-test.true c.rows-item.is c.loop-rows.invariant are
    (c.in_ok-push_contradictions.ensures ∙ ap (λ l. c.loop-rows.found ++ l) c.as_slice-in-loop-rows.ensures)
