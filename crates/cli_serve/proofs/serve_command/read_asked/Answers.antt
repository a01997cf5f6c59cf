-- The words are looked up, and then parsed from left to right.
use Rattle.std.proofs.Common.{refl}
use Rattle.std.proofs.lemmas.Result.{err_from_is_err_and}
use Rattle.cli_serve.proofs.serve_command.read_asked.Goals as goal

pub returns-in_err-db : goal.returns-in_err-db
returns-in_err-db c =
    let p = err_from_is_err_and c.from_residual.result c.from_residual.ensures.1 in
    rw (p.1, p.2, c.in_err-db.ensures.0) c.in_err-db.ensures.1

pub returns-in_err-port_word : goal.returns-in_err-port_word
returns-in_err-port_word c =
    let p = err_from_is_err_and c.from_residual-in_err-port_word.result c.from_residual-in_err-port_word.ensures.1 in
    rw (p.1, p.2, c.in_ok-db.ensures, c.in_err-port_word.ensures.0) c.in_err-port_word.ensures.1

pub returns-in_err-connections_word : goal.returns-in_err-connections_word
returns-in_err-connections_word c =
    let p = err_from_is_err_and c.from_residual-in_err-connections_word.result c.from_residual-in_err-connections_word.ensures.1 in
    rw (p.1, p.2, c.in_ok-db.ensures, c.in_ok-port_word.ensures, c.in_err-connections_word.ensures.0) c.in_err-connections_word.ensures.1

pub returns-in_err-port : goal.returns-in_err-port
returns-in_err-port c =
    let p = err_from_is_err_and c.from_residual-in_err-port.result c.from_residual-in_err-port.ensures.1 in
    rw (p.1, p.2, c.in_ok-db.ensures, c.in_ok-port_word.ensures, c.in_ok-connections_word.ensures, c.in_err-port.ensures.0) c.in_err-port.ensures.1

pub returns-in_err-connections : goal.returns-in_err-connections
returns-in_err-connections c =
    let p = err_from_is_err_and c.from_residual-in_err-connections.result c.from_residual-in_err-connections.ensures.1 in
    rw (p.1, p.2, c.in_ok-db.ensures, c.in_ok-port_word.ensures, c.in_ok-connections_word.ensures, c.in_ok-port.ensures, c.in_err-connections.ensures.0) c.in_err-connections.ensures.1

pub returns-in_err-seconds : goal.returns-in_err-seconds
returns-in_err-seconds c =
    let p = err_from_is_err_and c.from_residual-in_err-seconds.result c.from_residual-in_err-seconds.ensures.1 in
    rw (p.1, p.2, c.in_ok-db.ensures, c.in_ok-port_word.ensures, c.in_ok-connections_word.ensures, c.in_ok-port.ensures, c.in_ok-connections.ensures, ← c.given.ensures, c.in_err-seconds.ensures.0) c.in_err-seconds.ensures.1

pub returns : goal.returns
returns c =
    rw (c.in_ok-db.ensures, c.in_ok-port_word.ensures, c.in_ok-connections_word.ensures, ← c.given.ensures)
    (record { db_is = refl; port_is = c.in_ok-port.ensures; connections_are = c.in_ok-connections.ensures; seconds_are = c.in_ok-seconds.ensures })
