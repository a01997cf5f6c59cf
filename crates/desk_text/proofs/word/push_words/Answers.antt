use Rattle.std.proofs.Common.{◌≡◌, ◌+◌, ◌-◌, ◌<◌, ◌++◌, ◌∙◌, sym, ap, subst, refl, map, take, drop, length, get_or, arith, eqb, true}
use Rattle.std.proofs.lemmas.Str.{IsCharBoundary-start, IsCharBoundary-after_ascii}
use Rattle.std.proofs.lemmas.List.{take_rest, drop-drop}
use Rattle.desk_text.specs.Word.{has_marks, words_at, has_open_quote}
use Rattle.desk_text.specs.Bytes.{is_blank}
use Rattle.desk_text.specs.Views.{word_of}
use Rattle.desk_text.specs.PrivateWord.{IsWordLen}
use Rattle.desk_text.proofs.AtomsOfWord.{open_behind}
use Rattle.desk_text.proofs.WordList.{skip_blank, skip_open, blank_is_ascii, word_end_boundary, first_byte, pushed_word, next_word}
use Rattle.desk_text.proofs.word.push_words.Goals as goal

pub loop-at-init : goal.loop-at-init
loop-at-init c =
    let zero : c.args.start + 0 ≡ c.args.start = omega arith in
    record {
      so_far = ap (λ s. map word_of c.args.words.now.items ++ words_at s c.args.text.now) zero;
      closed = refl;
      boundary = IsCharBoundary-start c.args.text.now c.utf8.text;
    }

pub loop-at-preserved-then-is_blank : goal.loop-at-preserved-then-is_blank
loop-at-preserved-then-is_blank c =
    let bytes = c.as_bytes-bytes.ensures.value in
    let within : c.loop-at.at < length c.args.text.now = omega (arith, ap length bytes, c.loop-at-test.true) in
    let blank : is_blank (get_or c.args.text.now c.loop-at.at 0) ≡ true = ap (λ bs. is_blank (get_or bs c.loop-at.at 0)) (sym bytes) ∙ sym c.if-is_blank.ensures in
    record {
      so_far = ap (λ ws. map word_of c.loop-at.words.items ++ ws) (sym (skip_blank c.args.start c.loop-at.at c.args.text.now within blank)) ∙ c.loop-at.invariant.so_far;
      closed = sym (skip_open c.args.start c.loop-at.at c.args.text.now within blank) ∙ c.loop-at.invariant.closed;
      boundary = IsCharBoundary-after_ascii c.args.text.now c.loop-at.at c.utf8.text within (blank_is_ascii _ blank);
    }

pub loop-at-preserved : goal.loop-at-preserved
loop-at-preserved c =
    let bytes = c.as_bytes-bytes.ensures.value in
    let text = c.args.text.now in
    let at = c.loop-at.at in
    let n = c.in-Some.end.len in
    let within : at < length text = omega (arith, ap length bytes, c.loop-at-test.true) in
    let rest : take (length c.as_bytes-bytes.result.now - at) (drop at c.as_bytes-bytes.result.now) ≡ drop at text = take_rest c.as_bytes-bytes.result.now at ∙ ap (drop at) bytes in
    let word : IsWordLen (drop at text) n = subst (λ bs. IsWordLen bs n) rest c.in-Some.ensures.len in
    let len : at + n - at ≡ n = omega arith in
    let cut : c.range-raw.result.now ≡ take n (drop at text) = c.range-raw.ensures.value ∙ ap (λ k. take k (drop at text)) len in
    let dashed : eqb (get_or c.as_bytes-bytes.result.now at 0) 45 ≡ eqb (get_or (take n (drop at text)) 0 0) 45 = ap (λ bs. eqb (get_or bs at 0) 45) bytes ∙ ap (λ b. eqb b 45) (sym (first_byte text at n word.some)) in
    let new = pushed_word c.loop-at.words.items _ _ (take n (drop at text)) c.in_ok-push.ensures.items cut dashed in
    record {
      so_far = next_word _ (map word_of c.loop-at.words.items) _ c.args.start at n text c.loop-at.invariant.so_far word new;
      closed = ap has_open_quote (sym (drop-drop n at text)) ∙ open_behind (drop at text) n word.is_run ∙ c.loop-at.invariant.closed;
      boundary = word_end_boundary text at n (omega arith) word;
    }

pub invariant_of-push : goal.invariant_of-push
invariant_of-push c =
    let text = c.args.text.now in
    let at = c.loop-at.at in
    let n = c.in-Some.end.len in
    let rest : take (length c.as_bytes-bytes.result.now - at) (drop at c.as_bytes-bytes.result.now) ≡ drop at text = take_rest c.as_bytes-bytes.result.now at ∙ ap (drop at) c.as_bytes-bytes.ensures.value in
    let len : at + n - at ≡ n = omega arith in
    let cut : c.range-raw.result.now ≡ take n (drop at text) = c.range-raw.ensures.value ∙ ap (λ k. take k (drop at text)) len in
    record { marks = ap has_marks (cut ∙ ap (take n) (sym rest)) ∙ c.in-Some.ensures.marks }
