use Rattle.std.proofs.Common.{◌≡◌, ◌++◌, ◌∷◌, ◌∙◌, ap, sym, subst, refl, take, map, replicate, ℕ, List, [], Ok, Err, Global, String, Vec, arith, length}
use Rattle.std.specs.List.{cons_option}
use Rattle.std.specs.String.{string_bytes}
use Rattle.std.proofs.lemmas.List.{length-map, take_all, take_more}
use Rattle.std.proofs.lemmas.List.FromFn.{length-map-range_with_len}
use Rattle.std.proofs.lemmas.Result.{err_from_is_err_and}
use Rattle.desk_text.specs.Lines.{LogicalLine, logical_lines}
use Rattle.desk_text.specs.Reading.{ReadsAs, unless_fault}
use Rattle.desk_tables.specs.declared.filesystems.Mount.{Mount}
use Rattle.desk_exports.specs.Laws.{faults}
use Rattle.desk_split.specs.Splitting.{destination_of, text_to, texts_to}
use Rattle.desk_split.proofs.SplitTexts.{exit_split, faults_more, none_sent, sent}
use Rattle.desk_split.proofs.splitting.split.Goals as goal

abbrev Texts : Type 0
Texts = Vec (String Global) Global

abbrev bytes_in : Texts → List (List ℕ)
bytes_in texts = map string_bytes texts.items

pub returns-in_err-send_line-clause-split : goal.returns-in_err-send_line-clause-split
returns-in_err-send_line-clause-split c =
    let table : List Mount = c.args.filesystems.now in
    let ls : List LogicalLine = c.deref-line-items.result.now in
    let text : ls ≡ logical_lines c.args.text.now = c.deref-line-items.ensures.value ∙ c.in_ok-lines.ensures.lines in
    let p = err_from_is_err_and c.from_residual-in_err-send_line.result c.from_residual-in_err-send_line.ensures.1 in
    let P : List LogicalLine → Type 0 = λ lines. ReadsAs bytes_in (Err c.in_err-send_line.field-0.0) (unless_fault (faults (destination_of table) lines) (texts_to table lines)) in
    rw (p.1, p.2) (subst P text (exit_split table ls c.loop-line.line-index c.line-item.result c.loop-line-test.true c.line-item.is bytes_in c.in_err-send_line.field-0.0
    (bytes_in c.loop-line.texts) (bytes_in c.send_line.new.texts) c.loop-line.invariant.sound c.in_err-send_line.ensures))

pub loop-line-init : goal.loop-line-init
loop-line-init c = record {
  sound = refl;
  texts = c.in_ok-texts.ensures ∙ ap (λ n. replicate n []) c.len.ensures ∙ none_sent c.args.filesystems.now;
}

pub loop-line-preserved : goal.loop-line-preserved
loop-line-preserved c =
    let table : List Mount = c.args.filesystems.now in
    let ls : List LogicalLine = c.deref-line-items.result.now in
    let i = c.loop-line.line-index in
    let x = c.line-item.result in
    record {
      sound = faults_more table ls i x c.loop-line-test.true c.line-item.is
          ∙ ap (λ o. faults (destination_of table) (take i ls) ++ cons_option o []) c.in_ok-send_line.ensures.0
          ∙ ap (λ fs. fs ++ []) c.loop-line.invariant.sound;
      texts = c.in_ok-send_line.ensures.1
          ∙ sent table (take i ls) x (bytes_in c.loop-line.texts) c.loop-line.invariant.texts
          ∙ ap (texts_to table) (ap (λ l. take i ls ++ l ∷ []) c.line-item.is ∙ sym (take_more ls i x c.loop-line-test.true));
    }

pub returns-clause-split : goal.returns-clause-split
returns-clause-split c =
    let table : List Mount = c.args.filesystems.now in
    let ls : List LogicalLine = c.deref-line-items.result.now in
    let text : ls ≡ logical_lines c.args.text.now = c.deref-line-items.ensures.value ∙ c.in_ok-lines.ensures.lines in
    let all : take c.loop-line.line-index ls ≡ logical_lines c.args.text.now = take_all c.loop-line.line-index ls c.loop-line-test.false ∙ text in
    ap (λ lines. unless_fault (faults (destination_of table) lines) (texts_to table lines)) (sym all)
    ∙ ap (λ fs. unless_fault fs (texts_to table (take c.loop-line.line-index ls))) c.loop-line.invariant.sound
    ∙ ap Ok (sym c.loop-line.invariant.texts)

pub returns-clause-count : goal.returns-clause-count
returns-clause-count c =
    omega (
      arith,
      length-map c.loop-line.texts.items string_bytes,
      ap length c.loop-line.invariant.texts,
      length-map-range_with_len (text_to c.args.filesystems.now (take c.loop-line.line-index c.deref-line-items.result.now)) 0 (length c.args.filesystems.now),
    )
