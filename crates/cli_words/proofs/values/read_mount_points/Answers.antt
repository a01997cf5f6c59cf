-- The loop stops at the first word that is not a path.
use Rattle.std.proofs.Common.{codes, ◌≡◌, ◌∙◌, Bor, List, ℕ, get_or, refl, take_all, map, rules, Ok, subst, [], take}
use Rattle.desk_text.specs.Path.{read_path}
use Rattle.cli_words.specs.Values.{AnswersArgument, IsBadMount, is_no_path}
use Rattle.cli_output.specs.declared.bad_argument.ArgumentFault.TheVariants as fault
use Rattle.cli_words.proofs.FirstBad.{find_none, first_found, none_more_of}
use Rattle.cli_words.proofs.MountWords.{bad_mount, good_mount, paths_more}
use Rattle.cli_words.proofs.values.read_mount_points.Goals as goal

abbrev text : Bor (List ℕ) → List ℕ
text word = word.now

pub returns-in_err-path : goal.returns-in_err-path
returns-in_err-path c =
    let w : Bor (List ℕ) = get_or c.args.words.now c.loop-word.word-index (record { ref_ptr = (0, 0); now = [] }) in
    let answer = subst (AnswersArgument {T = List (List ℕ)} (λ path. path) fault.Path (codes "MOUNT") w.now (read_path w.now)) c.in_err-path.was c.read_path.ensures in
    let bad : IsBadMount (map text c.args.words.now) c.in_err-path.field-0.0 =
    bad_mount (map text c.args.words.now) w.now (read_path w.now) c.in_err-path.field-0.0 refl
    (first_found is_no_path text c.args.words.now c.loop-word.word-index w (record { ref_ptr = (0, 0); now = [] }) c.loop-word-test.true refl c.loop-word.invariant.good)
    answer in
    search (rules, bad)

pub loop-word-preserved : goal.loop-word-preserved
loop-word-preserved c =
    let w : Bor (List ℕ) = get_or c.args.words.now c.loop-word.word-index (record { ref_ptr = (0, 0); now = [] }) in
    let read : read_path w.now ≡ Ok c.in_ok-path.path = subst (AnswersArgument {T = List (List ℕ)} (λ path. path) fault.Path (codes "MOUNT") w.now (read_path w.now)) c.in_ok-path.was c.read_path.ensures in
    record {
      paths =
          c.in_ok-push.ensures.items
          ∙ paths_more text c.args.words.now c.loop-word.word-index w c.in_ok-path.path c.loop-word.mount_points.items (record { ref_ptr = (0, 0); now = [] }) c.loop-word-test.true refl c.loop-word.invariant.paths read;
      good =
          none_more_of is_no_path text c.args.words.now c.loop-word.word-index w (record { ref_ptr = (0, 0); now = [] }) c.loop-word-test.true refl c.loop-word.invariant.good (good_mount w.now c.in_ok-path.path read);
    }

pub returns : goal.returns
returns c =
    let all : take c.loop-word.word-index c.args.words.now ≡ c.args.words.now = take_all c.loop-word.word-index c.args.words.now c.loop-word-test.false in
    (find_none is_no_path (map text c.args.words.now) (rw all at c.loop-word.invariant.good), rw all at c.loop-word.invariant.paths)
