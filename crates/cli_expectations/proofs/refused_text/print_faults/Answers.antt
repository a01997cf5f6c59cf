-- The lines are those of the text.
use Rattle.std.proofs.Common.{◌≡◌, ◌∙◌, List, ap, get_or, map, refl, subst, sym, ℕ}
use Rattle.std.specs.Str.Lines.{lines}
use Rattle.desk_text.specs.declared.reading.LineFault.{LineFault}
use Rattle.desk_expect.specs.declared.rules.PlacedFault.{PlacedFault}
use Rattle.desk_expect.specs.declared.rules.Rule.{Rule}
use Rattle.cli_expectations.specs.PrivateFaultPrints.{LiesAmong, findings_among, refused_among}
use Rattle.cli_expectations.specs.RefusedText.{refused_text}
use Rattle.cli_expectations.specs.declared.expectations_file.ReportForm.{ReportForm}
use Rattle.cli_expectations.specs.declared.expectations_file.ReportForm.TheVariants as forms
use Rattle.cli_expectations.proofs.refused_text.print_faults.Goals as goal

-- by each form
same_text : (form : ReportForm) (path text : List ℕ) (fault : LineFault Rule) (found : List PlacedFault) → refused_among form path (lines text) fault found ≡ refused_text form path text fault found
same_text forms.Text path text fault found = refl
same_text forms.Json path text fault found = refl
same_text forms.Sarif path text fault found = refl

pub findings_text-requires : goal.findings_text-requires
findings_text-requires c =
    let all : map (λ line. line.now) c.as_slice.result.now ≡ lines c.args.text.now = ap (map (λ line. line.now)) c.as_slice.ensures.value ∙ c.in_ok-lines.ensures in
    λ k d below. subst (λ (ls : List (List ℕ)). LiesAmong ls (get_or c.args.found.now k d)) (sym all) (c.requires k d below).within

pub refused_text-requires : goal.refused_text-requires
refused_text-requires c =
    let all : map (λ line. line.now) c.as_slice-2.result.now ≡ lines c.args.text.now = ap (map (λ line. line.now)) c.as_slice-2.ensures.value ∙ c.in_ok-lines.ensures in
    λ k d below. subst (λ (ls : List (List ℕ)). LiesAmong ls (get_or c.args.found.now k d)) (sym all) (c.requires k d below).within

pub returns : goal.returns
returns c =
    let all : map (λ line. line.now) c.as_slice.result.now ≡ lines c.args.text.now = ap (map (λ line. line.now)) c.as_slice.ensures.value ∙ c.in_ok-lines.ensures in
    let also : map (λ line. line.now) c.as_slice-2.result.now ≡ lines c.args.text.now = ap (map (λ line. line.now)) c.as_slice-2.ensures.value ∙ c.in_ok-lines.ensures in
    record {
      prints = record {
        status_is = refl;
        text_is = c.in_ok-text.ensures ∙ ap (λ (ls : List (List ℕ)). refused_among c.args.form c.args.path.now ls c.args.fault c.args.found.now) also
            ∙ same_text c.args.form c.args.path.now c.args.text.now c.args.fault c.args.found.now;
      };
      shows = c.in_ok-note.ensures ∙ ap (λ (ls : List (List ℕ)). findings_among c.args.path.now ls c.args.found.now) all;
    }
