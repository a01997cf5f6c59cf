-- Both are found, and the files are the same.
use Rattle.std.proofs.Common.{◌≡◌, ◌∙◌, bytes_eq, length, ltb-true, refl, sym, true}
use Rattle.std.proofs.lemmas.Option.{slice_get_read}
use Rattle.std.proofs.lemmas.Slice.Eq.{bytes_eq-Decides}
use Rattle.desk_core.specs.Head.{Revision}
use Rattle.desk_store.proofs.gathered_revisions.is_older.Goals as goal

pub returns-then-eq : goal.returns-then-eq
returns-then-eq c = λ less.
    let heads = c.args.heads.now in
    let one : Revision = c.in-Some-Some.one.now in
    let later : Revision = c.in-Some-Some.later.now in
    let here = c.in-Some-Some.ensures.lookup in
    let there = c.in-Some-Some.ensures'.lookup in
    let equal : bytes_eq c.as_str.result.now c.as_str-in-Some-Some.result.now ≡ true = sym c.eq.ensures ∙ c.if-eq.true in
    let same : one.file ≡ later.file = sym c.as_str.ensures ∙ (bytes_eq-Decides c.as_str.result.now c.as_str-in-Some-Some.result.now).0 equal ∙ c.as_str-in-Some-Some.ensures in
    (one, later, slice_get_read heads (length heads) c.args.place one refl here.3.0 here.1, slice_get_read heads (length heads) c.args.other later refl there.3.0 there.1, sym same, ltb-true one.rev later.rev less)
