use Rattle.std.proofs.Common.{codes, ℕ, List, Result, Ok, Err, subst, sym}
use Rattle.std.proofs.lemmas.Result.{err_from_is_err_and}
use Rattle.desk_text.specs.Address.{number_of, read_addr}
use Rattle.desk_text.specs.Path.{read_path}
use Rattle.desk_text.specs.declared.address.Addr.{Addr}
use Rattle.desk_text.specs.declared.address.AddrFault.{AddrFault}
use Rattle.desk_text.specs.declared.path.PathFault.{PathFault}
use Rattle.cli_output.specs.Failure.{IsRefusal}
use Rattle.cli_words.specs.Values.{AnswersArgument, IsBadArgument}
use Rattle.cli_output.specs.declared.bad_argument.ArgumentFault.TheVariants as fault
use Rattle.cli_output.specs.declared.failure.Failure.{Failure}
use Rattle.cli_words.proofs.values.read_request.Goals as goal

module _ (host dir : List ℕ) (other : Failure) where
  -- HOST is refused, or memory ran out
  bad_host : (address : Result ℕ AddrFault) (path : Result (List (List ℕ)) PathFault) → AnswersArgument {T = Addr} number_of fault.Address (codes "HOST") host address (Err other)
      → IsBadArgument host address dir path other
  bad_host (Err bad) path refused = refused
  bad_host (Ok address) (Err bad) memory = subst (IsRefusal (codes "DIR") dir (fault.Path bad)) (sym memory) tt
  bad_host (Ok address) (Ok path) memory = memory

  -- DIR is refused, or memory ran out
  bad_dir : (address : ℕ) (path : Result (List (List ℕ)) PathFault) → AnswersArgument {T = List (List ℕ)} (λ path. path) fault.Path (codes "DIR") dir path (Err other)
      → IsBadArgument host (Ok address) dir path other
  bad_dir address (Err bad) refused = refused
  bad_dir address (Ok path) memory = memory

pub returns-in_err-address : goal.returns-in_err-address
returns-in_err-address c =
    let p = err_from_is_err_and c.from_residual.result c.from_residual.ensures.1 in
    rw (p.1, p.2) (bad_host c.args.host.now c.args.dir.now c.in_err-address.field-0.0 (read_addr c.args.host.now) (read_path c.args.dir.now) c.in_err-address.ensures)

pub returns-in_err-path : goal.returns-in_err-path
returns-in_err-path c =
    let p = err_from_is_err_and c.from_residual-in_err-path.result c.from_residual-in_err-path.ensures.1 in
    let other = c.in_err-path.field-0.0 in
    let B : Result ℕ AddrFault → Type 0 = λ address. IsBadArgument c.args.host.now address c.args.dir.now (read_path c.args.dir.now) other in
    rw (p.1, p.2) (subst B (sym c.in_ok-address.ensures) (bad_dir c.args.host.now c.args.dir.now other (number_of c.in_ok-address.address) (read_path c.args.dir.now) c.in_err-path.ensures))
