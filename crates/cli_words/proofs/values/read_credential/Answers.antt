-- Out of memory says nothing of CRED.
use Rattle.std.proofs.Common.{ℕ, List, Option, Some, None, Result, Ok, Err, refl}
use Rattle.std.proofs.lemmas.Result.{err_from_is_err_and}
use Rattle.std.specs.Option.{option_map}
use Rattle.desk_tables.specs.Groups.{read_groups}
use Rattle.desk_tables.specs.Users.{read_users}
use Rattle.desk_tables.specs.declared.credential_text.CredFault.{CredFault}
use Rattle.desk_tables.specs.declared.credentials.Cred.{Cred}
use Rattle.cli_words.specs.Values.{IsBadOwn, own_answer}
use Rattle.cli_output.specs.declared.failure.Failure.TheVariants.{Memory}
use Rattle.cli_words.proofs.values.read_credential.Goals as goal

out_of_memory : (word : Option (List ℕ)) (answer : Option (Result Cred CredFault)) → IsBadOwn word answer Memory
out_of_memory None None = refl
out_of_memory None (Some (Ok own)) = refl
out_of_memory None (Some (Err bad)) = refl
out_of_memory (Some word) None = refl
out_of_memory (Some word) (Some (Ok own)) = refl
out_of_memory (Some word) (Some (Err bad)) = tt

pub returns-in_err-users : goal.returns-in_err-users
returns-in_err-users c =
    let word = option_map (λ word. word.now) c.args.word in
    let p = err_from_is_err_and c.from_residual.result c.from_residual.ensures.1 in
    rw (p.1, p.2) (out_of_memory word (own_answer word (read_users c.args.passwd.now) (read_groups c.args.group.now)))
