-- Each file is read from what those before it leave of the input.
use Rattle.std.proofs.Common.{inl, inr, refl}
use Rattle.std.proofs.lemmas.Result.{err_from_is_err_and}
use Rattle.std.specs.String.{string_bytes}
use Rattle.cli_sources.proofs.table_files.read_tables.Goals as goal

pub returns-in_err-hosts-clause-texts : goal.returns-in_err-hosts-clause-texts
returns-in_err-hosts-clause-texts g c =
    let p = err_from_is_err_and c.from_residual.result c.from_residual.ensures.1 in
    rw (p.1, p.2) (inl c.in_err-hosts.ensures.text)

pub returns-in_err-networks-clause-texts : goal.returns-in_err-networks-clause-texts
returns-in_err-networks-clause-texts g c =
    let p = err_from_is_err_and c.from_residual-in_err-networks.result c.from_residual-in_err-networks.ensures.1 in
    rw (p.1, p.2) (inr (string_bytes c.in_ok-hosts.hosts, g.I.Read.remaining c.read_file.new.input, (c.in_ok-hosts.ensures.text, (c.read_file.ensures.left, inl c.in_err-networks.ensures.text))))

pub returns-in_err-passwd-clause-texts : goal.returns-in_err-passwd-clause-texts
returns-in_err-passwd-clause-texts g c =
    let p = err_from_is_err_and c.from_residual-in_err-passwd.result c.from_residual-in_err-passwd.ensures.1 in
    rw (p.1, p.2) (inr (string_bytes c.in_ok-hosts.hosts, g.I.Read.remaining c.read_file.new.input, (c.in_ok-hosts.ensures.text, (c.read_file.ensures.left, inr (string_bytes c.in_ok-networks.networks, g.I.Read.remaining c.read_file-2.new.input, (c.in_ok-networks.ensures.text, (c.read_file-2.ensures.left, inl c.in_err-passwd.ensures.text)))))))

pub returns-in_err-group-clause-texts : goal.returns-in_err-group-clause-texts
returns-in_err-group-clause-texts g c =
    let p = err_from_is_err_and c.from_residual-in_err-group.result c.from_residual-in_err-group.ensures.1 in
    rw (p.1, p.2) (inr (string_bytes c.in_ok-hosts.hosts, g.I.Read.remaining c.read_file.new.input, (c.in_ok-hosts.ensures.text, (c.read_file.ensures.left, inr (string_bytes c.in_ok-networks.networks, g.I.Read.remaining c.read_file-2.new.input, (c.in_ok-networks.ensures.text, (c.read_file-2.ensures.left, inr (string_bytes c.in_ok-passwd.passwd, g.I.Read.remaining c.read_file-3.new.input, (c.in_ok-passwd.ensures.text, (c.read_file-3.ensures.left, inl c.in_err-group.ensures.text))))))))))

pub returns-in_err-netgroup-clause-texts : goal.returns-in_err-netgroup-clause-texts
returns-in_err-netgroup-clause-texts g c =
    let p = err_from_is_err_and c.from_residual-in_err-netgroup.result c.from_residual-in_err-netgroup.ensures.1 in
    rw (p.1, p.2) (inr (string_bytes c.in_ok-hosts.hosts, g.I.Read.remaining c.read_file.new.input, (c.in_ok-hosts.ensures.text, (c.read_file.ensures.left, inr (string_bytes c.in_ok-networks.networks, g.I.Read.remaining c.read_file-2.new.input, (c.in_ok-networks.ensures.text, (c.read_file-2.ensures.left, inr (string_bytes c.in_ok-passwd.passwd, g.I.Read.remaining c.read_file-3.new.input, (c.in_ok-passwd.ensures.text, (c.read_file-3.ensures.left, inr (string_bytes c.in_ok-group.group, g.I.Read.remaining c.read_file-4.new.input, (c.in_ok-group.ensures.text, (c.read_file-4.ensures.left, inl c.in_err-netgroup.ensures.text)))))))))))))

pub returns-clause-texts : goal.returns-clause-texts
returns-clause-texts g c = (c.in_ok-hosts.ensures.text, (g.I.Read.remaining c.read_file.new.input, (c.read_file.ensures.left, (c.in_ok-networks.ensures.text, (g.I.Read.remaining c.read_file-2.new.input, (c.read_file-2.ensures.left, (c.in_ok-passwd.ensures.text, (g.I.Read.remaining c.read_file-3.new.input, (c.read_file-3.ensures.left, (c.in_ok-group.ensures.text, (g.I.Read.remaining c.read_file-4.new.input, (c.read_file-4.ensures.left, (c.in_ok-netgroup.ensures.text, (g.I.Read.remaining c.read_file-5.new.input, (c.read_file-5.ensures.left, refl)))))))))))))))
