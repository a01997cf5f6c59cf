use Rattle.std.proofs.Common.{◌≡◌, ◌++◌, take, ap, refl, sym, true, ◌∙◌, take_all}
use Rattle.std.specs.List.{flat_map}
use Rattle.std.specs.Fmt.{decimal}
use Rattle.std.proofs.Output.{has_written_append, has_written_of_eq}
use Rattle.desk_tables.specs.Credentials.{gids_text}
use Rattle.desk_tables.proofs.GidLemmas.{behind_colon, one_more, with_colons}
use Rattle.desk_tables.proofs.credentials.GroupIdsDisplay.fmt.Goals as goal

pub returns-clause-writes : goal.returns-clause-writes
returns-clause-writes g c = λ plain. λ ok.
    let first = c.in_ok-write.ensures.writes plain ok in
    let all : flat_map behind_colon (take c.loop-gid.gid-index c.in-Some.others.now) ≡ flat_map behind_colon c.in-Some.others.now =
    ap (flat_map behind_colon) (take_all c.loop-gid.gid-index c.in-Some.others.now c.loop-gid-test.false) in
    has_written_of_eq _ _ _ _ _
    (ap (λ t. decimal c.in-Some.first.now ++ t) all ∙ with_colons c.in-Some.first.now c.in-Some.others.now
    ∙ ap gids_text (sym c.in-Some.ensures.cases.0 ∙ c.as_slice.ensures.value))
    (has_written_append _ _ _ _ _ _ first (c.loop-gid.invariant first.plain))

pub loop-gid-preserved : goal.loop-gid-preserved
loop-gid-preserved g c = λ plain.
    let so_far = c.loop-gid.invariant plain in
    has_written_of_eq _ _ _ _ _ (one_more c.in-Some.others.now c.loop-gid.gid-index c.loop-gid-test.true)
    (has_written_append _ _ _ _ _ _ so_far (c.in_ok-write-2.ensures.writes so_far.plain (refl {a = true})))
