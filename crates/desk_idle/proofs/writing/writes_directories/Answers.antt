use Rattle.std.proofs.Common.{◌≡◌, ◌∙◌, ◌<◌, ℕ, List, All, Some, ap, arith, eqb, length, refl, subst, sym, suc, zero}
use Rattle.std.proofs.lemmas.Bool.{eqb-false, ne_eqb, not-true, not_from_false, true≢false}
use Rattle.desk_tables.specs.FileSystems.{fs_of}
use Rattle.desk_exports.specs.declared.entry.Entry.{Entry}
use Rattle.desk_idle.proofs.Directories.{Path}
use Rattle.desk_idle.proofs.writing.writes_directories.Goals as goal

positive : (n : ℕ) → (n ≡ 0 → ⊥) → 0 < n
positive zero apart = absurd (apart refl)
positive (suc n) apart = omega arith

pub returns-then-are_own : goal.returns-then-are_own
returns-then-are_own c =
    let dirs = c.args.row.now.entry.dirs in
    let own : List Path → Type 0 = λ ds. All (λ (dir : Path). fs_of c.args.table.now dir ≡ Some c.args.fs.0) ds in
    let same : c.as_slice-dirs.result.now ≡ dirs = c.as_slice-dirs.ensures ∙ ap (λ (entry : Entry). entry.dirs) c.deref.ensures in
    let empty : c.is_empty.result ≡ eqb (length dirs) 0 = c.is_empty.ensures ∙ ap (λ (ds : List Path). eqb (length ds) 0) same in (
      λ some. record {
        own = subst own same (c.are_own.ensures.0 c.if-are_own.true);
        some = positive (length dirs) (eqb-false (length dirs) 0 (sym empty ∙ not-true _ some));
      },
      λ writes. not_from_false _ (empty ∙ ne_eqb (length dirs) 0 (λ none. let h = writes.some in absurd (omega arith))),
    )

pub returns-else-are_own : goal.returns-else-are_own
returns-else-are_own c =
    let dirs = c.args.row.now.entry.dirs in
    let own : List Path → Type 0 = λ ds. All (λ (dir : Path). fs_of c.args.table.now dir ≡ Some c.args.fs.0) ds in
    let same : c.as_slice-dirs.result.now ≡ dirs = c.as_slice-dirs.ensures ∙ ap (λ (entry : Entry). entry.dirs) c.deref.ensures in (
      λ yes. absurd (true≢false (sym yes ∙ c.if-are_own.false)),
      λ writes. c.are_own.ensures.1 (subst own (sym same) writes.own),
    )
