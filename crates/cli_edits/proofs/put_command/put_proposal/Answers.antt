-- The words are looked at, and then the key's file is read.
use Rattle.std.proofs.Common.{Bor, Err, List, Ok, refl, subst, ℕ}
use Rattle.std.specs.Option.{option_map}
use Rattle.std.specs.String.{string_bytes}
use Rattle.std.proofs.lemmas.Result.{err_from_is_err_and}
use Rattle.cli_edits.specs.PutCommand.{IsKey}
use Rattle.cli_edits.proofs.put_command.put_proposal.Goals as goal

pub returns-in_err-base-2 : goal.returns-in_err-base-2
returns-in_err-base-2 g c =
    let p = err_from_is_err_and c.from_residual-in_err-base-2.result c.from_residual-in_err-base-2.ensures.1 in
    rw (p.1, p.2, c.in_ok-db.ensures, c.in_ok-name.ensures, c.in_ok-base.ensures, c.in_ok-caller.ensures)
    (record { step = Err c.in_err-base-2.field-0.0; is = c.in_err-base-2.ensures; next = refl })

pub returns-in_err-check_digest : goal.returns-in_err-check_digest
returns-in_err-check_digest g c =
    let p = err_from_is_err_and c.from_residual-in_err-check_digest.result c.from_residual-in_err-check_digest.ensures.1 in
    rw (p.1, p.2, c.in_ok-db.ensures, c.in_ok-name.ensures, c.in_ok-base.ensures, c.in_ok-caller.ensures)
    (record { step = Ok c.in_ok-base-2.base; is = c.in_ok-base-2.ensures; next = record { step = Err c.in_err-check_digest.field-0.0; is = c.in_err-check_digest.ensures; next = refl } })

pub returns-in_err-check_key : goal.returns-in_err-check_key
returns-in_err-check_key g c =
    let p = err_from_is_err_and c.from_residual-in_err-check_key.result c.from_residual-in_err-check_key.ensures.1 in
    rw (p.1, p.2, c.in_ok-db.ensures, c.in_ok-name.ensures, c.in_ok-base.ensures, c.in_ok-caller.ensures, ← c.given-key.ensures, ← c.given-key_file.ensures)
    (record {
      step = Ok c.in_ok-base-2.base;
      is = c.in_ok-base-2.ensures;
      next = record { step = Ok tt; is = c.in_ok-check_digest.ensures; next = record { step = Err c.in_err-check_key.field-0.0; is = c.in_err-check_key.ensures; next = refl } };
    })

pub returns-in_err-key_text : goal.returns-in_err-key_text
returns-in_err-key_text g c =
    let p = err_from_is_err_and c.from_residual-in_err-key_text.result c.from_residual-in_err-key_text.ensures.1 in
    rw (p.1, p.2, c.in_ok-db.ensures, c.in_ok-name.ensures, c.in_ok-base.ensures, c.in_ok-caller.ensures, ← c.given-key.ensures, ← c.given-key_file.ensures)
    (record {
      step = Ok c.in_ok-base-2.base;
      is = c.in_ok-base-2.ensures;
      next = record {
        step = Ok tt;
        is = c.in_ok-check_digest.ensures;
        next = record { step = Ok tt; is = c.in_ok-check_key.ensures; next = record { step = Err c.in_err-key_text.field-0.0; is = c.in_err-key_text.ensures.text; next = refl } };
      };
    })

pub returns : goal.returns
returns g c =
    let key_text = string_bytes c.in_ok-key_text.key_text in
    let key = c.key_of-key.result.now in
    let word = option_map (λ (word : Bor (List ℕ)). word.now) c.given-key.result in
    rw (c.in_ok-db.ensures, c.in_ok-name.ensures, c.in_ok-base.ensures, c.in_ok-caller.ensures, ← c.given-key.ensures, ← c.given-key_file.ensures)
    (record {
      step = Ok c.in_ok-base-2.base;
      is = c.in_ok-base-2.ensures;
      next = record {
        step = Ok tt;
        is = c.in_ok-check_digest.ensures;
        next = record {
          step = Ok tt;
          is = c.in_ok-check_key.ensures;
          next = record {
            step = Ok key_text;
            is = c.in_ok-key_text.ensures.text;
            next = (key, subst (λ (t : List ℕ). IsKey word t key) c.as_str.ensures.value c.key_of-key.ensures, c.put_approval.ensures);
          };
        };
      };
    })
