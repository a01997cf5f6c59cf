-- Each file is read from what those before it leave of the input.
use Rattle.std.proofs.Common.{inl, inr, refl}
use Rattle.std.proofs.lemmas.Result.{err_from_is_err_and}
use Rattle.std.specs.String.{string_bytes}
use Rattle.cli_files.proofs.site_folder.read_texts.Goals as goal

pub returns-in_err-custodians-clause-texts : goal.returns-in_err-custodians-clause-texts
returns-in_err-custodians-clause-texts g c =
    let p = err_from_is_err_and c.from_residual.result c.from_residual.ensures.1 in
    rw (p.1, p.2) (inl c.in_err-custodians.ensures.text)

pub returns-in_err-filesystems-clause-texts : goal.returns-in_err-filesystems-clause-texts
returns-in_err-filesystems-clause-texts g c =
    let p = err_from_is_err_and c.from_residual-in_err-filesystems.result c.from_residual-in_err-filesystems.ensures.1 in
    rw (p.1, p.2) (inr (string_bytes c.in_ok-custodians.custodians, g.I.Read.remaining c.read_file.new.input, (c.in_ok-custodians.ensures.text, (c.read_file.ensures.left, inl c.in_err-filesystems.ensures.text))))

pub returns-in_err-hosts-clause-texts : goal.returns-in_err-hosts-clause-texts
returns-in_err-hosts-clause-texts g c =
    let p = err_from_is_err_and c.from_residual-in_err-hosts.result c.from_residual-in_err-hosts.ensures.1 in
    rw (p.1, p.2) (inr (string_bytes c.in_ok-custodians.custodians, g.I.Read.remaining c.read_file.new.input, (c.in_ok-custodians.ensures.text, (c.read_file.ensures.left, inr (string_bytes c.in_ok-filesystems.filesystems, g.I.Read.remaining c.read_filesystems.new.input, (c.in_ok-filesystems.ensures.text, (c.read_filesystems.ensures.left, inl c.in_err-hosts.ensures.text)))))))

pub returns-in_err-networks-clause-texts : goal.returns-in_err-networks-clause-texts
returns-in_err-networks-clause-texts g c =
    let p = err_from_is_err_and c.from_residual-in_err-networks.result c.from_residual-in_err-networks.ensures.1 in
    rw (p.1, p.2) (inr (string_bytes c.in_ok-custodians.custodians, g.I.Read.remaining c.read_file.new.input, (c.in_ok-custodians.ensures.text, (c.read_file.ensures.left, inr (string_bytes c.in_ok-filesystems.filesystems, g.I.Read.remaining c.read_filesystems.new.input, (c.in_ok-filesystems.ensures.text, (c.read_filesystems.ensures.left, inr (string_bytes c.in_ok-hosts.hosts, g.I.Read.remaining c.read_file-2.new.input, (c.in_ok-hosts.ensures.text, (c.read_file-2.ensures.left, inl c.in_err-networks.ensures.text))))))))))

pub returns-in_err-passwd-clause-texts : goal.returns-in_err-passwd-clause-texts
returns-in_err-passwd-clause-texts g c =
    let p = err_from_is_err_and c.from_residual-in_err-passwd.result c.from_residual-in_err-passwd.ensures.1 in
    rw (p.1, p.2) (inr (string_bytes c.in_ok-custodians.custodians, g.I.Read.remaining c.read_file.new.input, (c.in_ok-custodians.ensures.text, (c.read_file.ensures.left, inr (string_bytes c.in_ok-filesystems.filesystems, g.I.Read.remaining c.read_filesystems.new.input, (c.in_ok-filesystems.ensures.text, (c.read_filesystems.ensures.left, inr (string_bytes c.in_ok-hosts.hosts, g.I.Read.remaining c.read_file-2.new.input, (c.in_ok-hosts.ensures.text, (c.read_file-2.ensures.left, inr (string_bytes c.in_ok-networks.networks, g.I.Read.remaining c.read_file-3.new.input, (c.in_ok-networks.ensures.text, (c.read_file-3.ensures.left, inl c.in_err-passwd.ensures.text)))))))))))))

pub returns-in_err-group-clause-texts : goal.returns-in_err-group-clause-texts
returns-in_err-group-clause-texts g c =
    let p = err_from_is_err_and c.from_residual-in_err-group.result c.from_residual-in_err-group.ensures.1 in
    rw (p.1, p.2) (inr (string_bytes c.in_ok-custodians.custodians, g.I.Read.remaining c.read_file.new.input, (c.in_ok-custodians.ensures.text, (c.read_file.ensures.left, inr (string_bytes c.in_ok-filesystems.filesystems, g.I.Read.remaining c.read_filesystems.new.input, (c.in_ok-filesystems.ensures.text, (c.read_filesystems.ensures.left, inr (string_bytes c.in_ok-hosts.hosts, g.I.Read.remaining c.read_file-2.new.input, (c.in_ok-hosts.ensures.text, (c.read_file-2.ensures.left, inr (string_bytes c.in_ok-networks.networks, g.I.Read.remaining c.read_file-3.new.input, (c.in_ok-networks.ensures.text, (c.read_file-3.ensures.left, inr (string_bytes c.in_ok-passwd.passwd, g.I.Read.remaining c.read_file-4.new.input, (c.in_ok-passwd.ensures.text, (c.read_file-4.ensures.left, inl c.in_err-group.ensures.text))))))))))))))))

pub returns-in_err-netgroup-clause-texts : goal.returns-in_err-netgroup-clause-texts
returns-in_err-netgroup-clause-texts g c =
    let p = err_from_is_err_and c.from_residual-in_err-netgroup.result c.from_residual-in_err-netgroup.ensures.1 in
    rw (p.1, p.2) (inr (string_bytes c.in_ok-custodians.custodians, g.I.Read.remaining c.read_file.new.input, (c.in_ok-custodians.ensures.text, (c.read_file.ensures.left, inr (string_bytes c.in_ok-filesystems.filesystems, g.I.Read.remaining c.read_filesystems.new.input, (c.in_ok-filesystems.ensures.text, (c.read_filesystems.ensures.left, inr (string_bytes c.in_ok-hosts.hosts, g.I.Read.remaining c.read_file-2.new.input, (c.in_ok-hosts.ensures.text, (c.read_file-2.ensures.left, inr (string_bytes c.in_ok-networks.networks, g.I.Read.remaining c.read_file-3.new.input, (c.in_ok-networks.ensures.text, (c.read_file-3.ensures.left, inr (string_bytes c.in_ok-passwd.passwd, g.I.Read.remaining c.read_file-4.new.input, (c.in_ok-passwd.ensures.text, (c.read_file-4.ensures.left, inr (string_bytes c.in_ok-group.group, g.I.Read.remaining c.read_file-5.new.input, (c.in_ok-group.ensures.text, (c.read_file-5.ensures.left, inl c.in_err-netgroup.ensures.text)))))))))))))))))))

pub returns-in_err-exports-clause-texts : goal.returns-in_err-exports-clause-texts
returns-in_err-exports-clause-texts g c =
    let p = err_from_is_err_and c.from_residual-in_err-exports.result c.from_residual-in_err-exports.ensures.1 in
    rw (p.1, p.2) (inr (string_bytes c.in_ok-custodians.custodians, g.I.Read.remaining c.read_file.new.input, (c.in_ok-custodians.ensures.text, (c.read_file.ensures.left, inr (string_bytes c.in_ok-filesystems.filesystems, g.I.Read.remaining c.read_filesystems.new.input, (c.in_ok-filesystems.ensures.text, (c.read_filesystems.ensures.left, inr (string_bytes c.in_ok-hosts.hosts, g.I.Read.remaining c.read_file-2.new.input, (c.in_ok-hosts.ensures.text, (c.read_file-2.ensures.left, inr (string_bytes c.in_ok-networks.networks, g.I.Read.remaining c.read_file-3.new.input, (c.in_ok-networks.ensures.text, (c.read_file-3.ensures.left, inr (string_bytes c.in_ok-passwd.passwd, g.I.Read.remaining c.read_file-4.new.input, (c.in_ok-passwd.ensures.text, (c.read_file-4.ensures.left, inr (string_bytes c.in_ok-group.group, g.I.Read.remaining c.read_file-5.new.input, (c.in_ok-group.ensures.text, (c.read_file-5.ensures.left, inr (string_bytes c.in_ok-netgroup.netgroup, g.I.Read.remaining c.read_file-6.new.input, (c.in_ok-netgroup.ensures.text, (c.read_file-6.ensures.left, inl c.in_err-exports.ensures.text))))))))))))))))))))))

pub returns-clause-texts : goal.returns-clause-texts
returns-clause-texts g c = (c.in_ok-custodians.ensures.text, (g.I.Read.remaining c.read_file.new.input, (c.read_file.ensures.left, (c.in_ok-filesystems.ensures.text, (g.I.Read.remaining c.read_filesystems.new.input, (c.read_filesystems.ensures.left, (c.in_ok-hosts.ensures.text, (g.I.Read.remaining c.read_file-2.new.input, (c.read_file-2.ensures.left, (c.in_ok-networks.ensures.text, (g.I.Read.remaining c.read_file-3.new.input, (c.read_file-3.ensures.left, (c.in_ok-passwd.ensures.text, (g.I.Read.remaining c.read_file-4.new.input, (c.read_file-4.ensures.left, (c.in_ok-group.ensures.text, (g.I.Read.remaining c.read_file-5.new.input, (c.read_file-5.ensures.left, (c.in_ok-netgroup.ensures.text, (g.I.Read.remaining c.read_file-6.new.input, (c.read_file-6.ensures.left, (c.in_ok-exports.ensures.text, (g.I.Read.remaining c.read_file-7.new.input, (c.read_file-7.ensures.left, refl))))))))))))))))))))))))
