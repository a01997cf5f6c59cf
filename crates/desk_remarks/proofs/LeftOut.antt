-- Lines that are left out of several file systems are left out of each.
use Rattle.std.proofs.Common.{◌≡◌, ◌∙◌, ℕ, ◌<◌, ◌+◌, ◌^◌, Bool, true, not, List, [], ◌∷◌, Option, None, Some, ap, arith, get_or, inl, inr, length, refl, subst, suc, sym, zero}
use Rattle.std.specs.Prelude.{filter}
use Rattle.std.proofs.lemmas.Bool.{cases_lt}
use Rattle.std.proofs.lemmas.List.{get_or-set_same, get_or_past, set_past}
use Rattle.desk_tables.specs.FileSystems.{fs_of}
use Rattle.desk_policy.specs.Policy.{Content, rows_of}
use Rattle.desk_policy.specs.Verdict.{lists, verdict_among, verdict_in, verdict_of}
use Rattle.desk_policy.specs.Weights.{selected}
use Rattle.desk_policy.specs.declared.row.Row.{Row}
use Rattle.desk_idle.specs.Idle.{DecidesNothing}
use Rattle.desk_idle.specs.Laws.{IdleLinesChangeNothing, WriteDirectories, without}
use Rattle.desk_remarks.specs.Laws.{LinesLeftOutChangeNothing, left_from, without_lines}

abbrev stays : (ℕ → Bool) → Row → Bool
stays leaves row = not (leaves row.entry.line)

from_0 : (fs : ℕ) → 0 + fs ≡ fs
from_0 fs = omega arith

-- the lines of one of these file systems that stay
left_at : (leaves : ℕ → ℕ → Bool) (first : ℕ) (files : List (List Row)) (k : ℕ) → get_or (left_from leaves first files) k [] ≡ filter (stays (leaves (first + k))) (get_or files k [])
left_at leaves first [] k = refl
left_at leaves first (rows ∷ files) zero = ap (λ (n : ℕ). filter (stays (leaves n)) rows) (omega arith)
left_at leaves first (rows ∷ files) (suc k) =
    left_at leaves (first + 1) files k ∙ ap (λ (n : ℕ). filter (stays (leaves n)) (get_or files k [])) (omega arith)

-- without them of one file system alone
left_of_one : (content : Content) (fs : ℕ) (leaves : ℕ → Bool) → rows_of (without content fs leaves) fs ≡ filter (stays leaves) (rows_of content fs)
left_of_one content fs leaves =
    let left = filter (stays leaves) (rows_of content fs) in
    elim (cases_lt fs (length content.rows)) [
      | inl within ↦ get_or-set_same content.rows fs left [] within
      | inr past ↦
          let none : rows_of content fs ≡ [] = get_or_past content.rows fs [] past in
          ap (λ (rows : List (List Row)). get_or rows fs []) (set_past content.rows fs left past) ∙ none ∙ sym (ap (filter (stays leaves)) none)
    ]

in_one : (content : Content) (leaves : ℕ → ℕ → Bool) (address : ℕ) (path : List (List ℕ)) (fs : ℕ)
    → verdict_in (without_lines content leaves) address path (Some fs) ≡ verdict_in (without content fs (leaves fs)) address path (Some fs)
in_one content leaves address path fs =
    ap (λ (rows : List Row). verdict_among (record { 0 = fs }) (lists content fs path) (selected rows address))
    (left_at leaves 0 content.rows fs ∙ ap (λ (n : ℕ). filter (stays (leaves n)) (rows_of content fs)) (from_0 fs) ∙ sym (left_of_one content fs (leaves fs)))

by_fs : IdleLinesChangeNothing → (content : Content) (leaves : ℕ → ℕ → Bool) → ((fs : ℕ) → WriteDirectories content fs) → ((fs line : ℕ) → leaves fs line ≡ true → DecidesNothing content fs line)
    → (address : ℕ) (path : List (List ℕ)) → address < 2 ^ 32 → (o : Option ℕ) → fs_of content.table path ≡ o → verdict_in (without_lines content leaves) address path o ≡ verdict_in content address path o
unfolding verdict_of
by_fs law content leaves write idle address path below None here = refl
by_fs law content leaves write idle address path below (Some fs) here =
    in_one content leaves address path fs
    ∙ subst (λ (o : Option ℕ). verdict_in (without content fs (leaves fs)) address path o ≡ verdict_in content address path o) here
    (law content fs (leaves fs) (write fs) (λ row has left. idle fs row.entry.line left) address path below)

pub left_out : IdleLinesChangeNothing → LinesLeftOutChangeNothing
unfolding verdict_of
left_out law content leaves write idle address path below = by_fs law content leaves write idle address path below (fs_of content.table path) refl
