-- The characters up to the slice are those of the front and those behind it.
use Rattle.std.proofs.Common.{◌≡◌, ◌≤◌, ◌+◌, ◌-◌, ◌∙◌, ℕ, List, ap, arith, drop, sym, take}
use Rattle.std.proofs.Math.Seq.{take-add}
use Rattle.std.proofs.lemmas.List.Sums.{sum_by-append}
use Rattle.std.specs.List.{slice_range}
use Rattle.desk_findings.specs.Finding.{character_count}
use Rattle.desk_findings.proofs.check_faults.characters_before.Goals as goal

counted_on : (bytes : List ℕ) (front start : ℕ) → front ≤ start → character_count (take front bytes) + character_count (slice_range bytes front start) ≡ character_count (take start bytes)
counted_on bytes front start below =
    let whole : front + (start - front) ≡ start = omega arith in
    sym (sum_by-append _ (take front bytes) (take (start - front) (drop front bytes)))
    ∙ ap character_count (sym (take-add front (start - front) bytes) ∙ ap (λ (n : ℕ). take n bytes) whole)

pub returns-clause-count : goal.returns-clause-count
returns-clause-count c =
    let more = c.count_characters.ensures ∙ ap character_count (c.in-Some.ensures.lookup.0.2 ∙ ap (λ (bytes : List ℕ). slice_range bytes c.args.front.bytes c.args.place.start) c.as_bytes-bytes.ensures.value) in
    ap (λ (n : ℕ). n + c.count_characters.result) (c.requires c.if-front-place.true)
    ∙ ap (λ (n : ℕ). character_count (take c.args.front.bytes c.args.source.now) + n) more
    ∙ counted_on c.args.source.now c.args.front.bytes c.args.place.start c.in-Some.ensures.lookup.0.0
