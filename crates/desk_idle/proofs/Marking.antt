-- Marks of lines that are selected at one address, one after another.
use Rattle.std.proofs.Common.{◌≡◌, ◌∙◌, ℕ, ◌++◌, Bool, eqb, List, [], ◌∷◌, Result, Ok, Err, ap, arith, length, nat_cmp, not, sym}
use Rattle.std.specs.Prelude.{OnOk}
use Rattle.std.specs.BTreeMap.{BTreeMap, is_at}
use Rattle.std.specs.Map.{lookup}
use Rattle.std.specs.List.{list_any}
use Rattle.std.proofs.lemmas.Bool.{ne_eqb}
use Rattle.std.proofs.lemmas.List.{append-nil, append_assoc}
use Rattle.desk_policy.specs.declared.row.Row.{Row}
use Rattle.desk_idle.specs.Laws.{brings}
use Rattle.desk_policy.specs.Verdict.{is_directory_among}
use Rattle.desk_idle.specs.PrivateMarks.{AreMarks, Look, looks_among, looks_at, mark_of}
use Rattle.desk_idle.specs.declared.marks.Mark.{Mark}
use Rattle.desk_idle.proofs.Directories.{Path}

-- a look at one line more
pub look_more : (first address : ℕ) (earlier done : List Row) (row : Row)
    → looks_among first address earlier (done ++ row ∷ [])
    ≡ looks_among first address earlier done ++ record { line = row.entry.line; first = first; address = address; brought = brings (earlier ++ done) row } ∷ []
look_more first address earlier [] row =
    ap (λ (ys : List Row). let l : Look = record { line = row.entry.line; first = first; address = address; brought = brings ys row } in l ∷ []) (sym (append-nil earlier))
look_more first address earlier (other ∷ done) row =
    let own : Look = record { line = other.entry.line; first = first; address = address; brought = brings earlier other } in
    ap (λ (ls : List Look). own ∷ ls)
    (look_more first address (earlier ++ other ∷ []) done row
    ∙ ap (λ (ys : List Row). looks_among first address (earlier ++ other ∷ []) done ++ (let l : Look = record { line = row.entry.line; first = first; address = address; brought = brings ys row } in l) ∷ [])
    (append_assoc earlier (other ∷ []) done))

-- a line that is the first of all brings any directory
pub any_dir : (dirs : List Path) (empty : Bool) → empty ≡ eqb (length dirs) 0 → not empty ≡ list_any (λ (dir : Path). not (is_directory_among dir [])) dirs
any_dir [] empty e = ap not e
any_dir (dir ∷ dirs) empty e = ap not (e ∙ ne_eqb (length (dir ∷ dirs)) 0 (λ is. absurd (omega arith)))

-- marks of no line tell of no look
pub no_marks : (rows : List Row) (marks : BTreeMap ℕ Mark) → marks.entries ≡ [] → AreMarks (looks_at rows []) marks
unfolding looks_at mark_of
no_marks rows marks empty line = ap (λ (es : List (ℕ × Mark)). lookup (is_at (nat_cmp line)) es) empty

pub on_ok : {A E : Type 0} (P Q : Type 0) → (P → Q) → (r : Result A E) → OnOk r P → OnOk r Q
on_ok P Q h (Ok x) p = h p
on_ok P Q h (Err e) p = p
