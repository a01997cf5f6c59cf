-- The answer is by the files, since the words say nothing wrong.
use Rattle.std.proofs.Common.{◌∷◌, [], Err, List, Ok, Bor, inl, inr, refl, subst, ℕ}
use Rattle.std.specs.Option.{option_map}
use Rattle.std.specs.String.{string_bytes}
use Rattle.std.proofs.lemmas.Result.{err_from_is_err_and}
use Rattle.cli_edits.specs.PutCommand.{AnswersEdit, IsKey}
use Rattle.cli_edits.proofs.put_command.put_file.Goals as goal

pub returns-in_err-text : goal.returns-in_err-text
returns-in_err-text g c =
    let p = err_from_is_err_and c.from_residual-in_err-text.result c.from_residual-in_err-text.ensures.1 in
    rw (p.1, p.2, c.in_ok-db.ensures, c.in_ok-name.ensures, c.in_ok-base.ensures, c.in_ok-caller.ensures, c.in_ok-base-2.ensures, ← c.given-key.ensures, ← c.given-key_file.ensures, c.in_ok-check_key.ensures)
    (record { step = Err _; is = inl c.in_err-text.ensures.text; next = refl })

pub returns-in_err-key_text : goal.returns-in_err-key_text
returns-in_err-key_text g c =
    let p = err_from_is_err_and c.from_residual-in_err-key_text.result c.from_residual-in_err-key_text.ensures.1 in
    rw (p.1, p.2, c.in_ok-db.ensures, c.in_ok-name.ensures, c.in_ok-base.ensures, c.in_ok-caller.ensures, c.in_ok-base-2.ensures, ← c.given-key.ensures, ← c.given-key_file.ensures, c.in_ok-check_key.ensures)
    (record {
      step = Err _;
      is = inr (string_bytes c.in_ok-text.text, g.I.Read.remaining c.read_if_given.new.input, (c.in_ok-text.ensures.text, (c.read_if_given.ensures.left, inl c.in_err-key_text.ensures.text)));
      next = refl;
    })

pub returns : goal.returns
returns g c =
    let text = string_bytes c.in_ok-text.text in
    let key_text = string_bytes c.in_ok-key_text.key_text in
    let key = c.key_of-key.result.now in
    let word = option_map (λ (word : Bor (List ℕ)). word.now) c.given-key.result in
    rw (c.in_ok-db.ensures, c.in_ok-name.ensures, c.in_ok-base.ensures, c.in_ok-caller.ensures, c.in_ok-base-2.ensures, ← c.given-key.ensures, ← c.given-key_file.ensures, c.in_ok-check_key.ensures)
    (record {
      step = Ok (text ∷ key_text ∷ []);
      is = (
        c.in_ok-text.ensures.text,
        (
          g.I.Read.remaining c.read_if_given.new.input,
          (
            c.read_if_given.ensures.left,
            (c.in_ok-key_text.ensures.text, (g.I.Read.remaining c.read_if_given-2.new.input, (c.read_if_given-2.ensures.left, refl))),
          ),
        ),
      );
      next = (
        key,
        subst (λ (t : List ℕ). IsKey word t key) c.as_str.ensures.value c.key_of-key.ensures,
        subst (λ (t : List ℕ). AnswersEdit c.in_ok-db.db.now (record { file = c.in_ok-name.name.now; base = c.in_ok-base-2.base; caller = c.in_ok-caller.caller.now; key = key; text = t }) c.put_edit.result) c.as_str-text.ensures.value c.put_edit.ensures,
      );
    })
