-- The exit status counts what is broken.
use Rattle.std.proofs.Common.{◌≡◌, ◌==◌, ◌∙◌, ℕ, Bool, true, false, List, Result, Ok, Err, ap, eqb-true, inl, inr, length, refl, subst, sym, if◌then◌else◌}
use Rattle.std.proofs.lemmas.List.{nil_from_length}
use Rattle.desk_text.specs.declared.reading.LineFault.{LineFault}
use Rattle.desk_expect.specs.Expectation.{Promise}
use Rattle.desk_expect.specs.Laws.{NoBrokenIsAllHold}
use Rattle.desk_expect.specs.Reading.{AreExpectationsOf, read_promises}
use Rattle.desk_expect.specs.declared.rules.Rule.{Rule}
use Rattle.cli_expectations.specs.Laws.{StatusZeroIsAllHold}

abbrev status_of : ℕ → ℕ
status_of broken = if broken == 0 then 0 else 1

zero_by : (n : ℕ) (b : Bool) → (n == 0) ≡ b → ◌≡◌ {A = ℕ} (if b then 0 else 1) 0 → n ≡ 0
zero_by n true is none = eqb-true n 0 is
zero_by n false is none = absurd (cc)

zero_if : (n : ℕ) → ◌≡◌ {A = ℕ} (if n == 0 then 0 else 1) 0 → n ≡ 0
zero_if n e = zero_by n (n == 0) refl e

if_zero : (n : ℕ) → n ≡ 0 → ◌≡◌ {A = ℕ} (if n == 0 then 0 else 1) 0
if_zero n e = ap (λ (m : ℕ). status_of m) e

same_promises : (read : Result (List Promise) (LineFault Rule)) (own other : List Promise) → read ≡ Ok own → read ≡ Ok other → own ≡ other
same_promises read own other is also = cc

faulty : (read : Result (List Promise) (LineFault Rule)) (own : List Promise) (fault : LineFault Rule) → read ≡ Ok own → read ≡ Err fault → ⊥
faulty read own fault is also = absurd (cc)

pub status_zero : NoBrokenIsAllHold → StatusZeroIsAllHold
status_zero law tables content expected printed promises (inl read) is =
    let kept = read.prints in
    let shown = kept.is in
    let own : read.read.promises ≡ promises = same_promises (read_promises tables.netgroups tables.hosts expected.text) read.read.promises promises read.read.read is in
    let of : AreExpectationsOf tables.netgroups tables.hosts promises read.expectations = subst (λ (ps : List Promise). AreExpectationsOf tables.netgroups tables.hosts ps read.expectations) own read.read.are in
    let either = law tables.netgroups tables.hosts expected.text promises read.expectations content shown.broken is of shown.are in (
      λ zero. either.0 (nil_from_length shown.broken (sym shown.count ∙ zero_if kept.report.broken (sym kept.prints.status_is ∙ zero))),
      λ hold. kept.prints.status_is ∙ if_zero kept.report.broken (shown.count ∙ ap length (either.1 hold)),
    )
status_zero law tables content expected printed promises (inr unread) is =
    absurd (faulty (read_promises tables.netgroups tables.hosts expected.text) promises unread.fault is unread.read)
