-- Each file is that of its option, or that of the folder.
use Rattle.std.proofs.Common.{◌≡◌, ℕ, List, [], ◌∷◌, Option, None, Some, ap, codes, refl, subst, sym}
use Rattle.std.specs.Option.{option_copied}
use Rattle.std.specs.String.{string_bytes}
use Rattle.clap.specs.Words.{Row, first_of}
use Rattle.cli_files.specs.declared.site_folder.SiteFiles.{SiteFiles}
use Rattle.cli_words.specs.Words.{rows_in}
use Rattle.cli_sources.specs.TableFiles.{table_file, table_files}
use Rattle.cli_sources.proofs.table_files.table_files.Goals as goal

module _ (rows : List Row) (hosts networks passwd group netgroup : List ℕ × Option (List ℕ)) where
  by_options : hosts ≡ table_file (codes "--hosts") (first_of (codes "hosts") rows) None
      → networks ≡ table_file (codes "--networks") (first_of (codes "networks") rows) None
      → passwd ≡ table_file (codes "--passwd") (first_of (codes "passwd") rows) None
      → group ≡ table_file (codes "--group") (first_of (codes "group") rows) None
      → netgroup ≡ table_file (codes "--netgroup") (first_of (codes "netgroup") rows) None
      → (folder : Option SiteFiles) → folder ≡ None → hosts ∷ networks ∷ passwd ∷ group ∷ netgroup ∷ [] ≡ table_files folder rows
  by_options is_hosts is_networks is_passwd is_group is_netgroup folder none =
      subst (λ (f : Option SiteFiles). hosts ∷ networks ∷ passwd ∷ group ∷ netgroup ∷ [] ≡ table_files f rows) (sym none) (rw (is_hosts, is_networks, is_passwd, is_group, is_netgroup) refl)

  of_folder : (paths : SiteFiles) (at_hosts at_networks at_passwd at_group at_netgroup : List ℕ)
      → at_hosts ≡ string_bytes paths.hosts → at_networks ≡ string_bytes paths.networks → at_passwd ≡ string_bytes paths.passwd → at_group ≡ string_bytes paths.group → at_netgroup ≡ string_bytes paths.netgroup
      → hosts ≡ table_file (codes "--hosts") (first_of (codes "hosts") rows) (Some at_hosts)
      → networks ≡ table_file (codes "--networks") (first_of (codes "networks") rows) (Some at_networks)
      → passwd ≡ table_file (codes "--passwd") (first_of (codes "passwd") rows) (Some at_passwd)
      → group ≡ table_file (codes "--group") (first_of (codes "group") rows) (Some at_group)
      → netgroup ≡ table_file (codes "--netgroup") (first_of (codes "netgroup") rows) (Some at_netgroup)
      → (folder : Option SiteFiles) → folder ≡ Some paths → hosts ∷ networks ∷ passwd ∷ group ∷ netgroup ∷ [] ≡ table_files folder rows
  of_folder paths at_hosts at_networks at_passwd at_group at_netgroup in_hosts in_networks in_passwd in_group in_netgroup is_hosts is_networks is_passwd is_group is_netgroup folder some =
      subst (λ (f : Option SiteFiles). hosts ∷ networks ∷ passwd ∷ group ∷ netgroup ∷ [] ≡ table_files f rows) (sym some)
      (rw (is_hosts, is_networks, is_passwd, is_group, is_netgroup, in_hosts, in_networks, in_passwd, in_group, in_netgroup) refl)

pub returns-in-None : goal.returns-in-None
returns-in-None c =
    by_options (rows_in c.args.words.now) _ _ _ _ _ c.option_file.ensures c.option_file-in-None.ensures c.option_file-in-None-2.ensures c.option_file-in-None-3.ensures c.option_file-in-None-4.ensures
    (option_copied c.args.folder) (ap option_copied c.in-None.is)

pub returns-in-Some : goal.returns-in-Some
returns-in-Some c =
    of_folder (rows_in c.args.words.now) _ _ _ _ _ c.in-Some.paths.now _ _ _ _ _
    c.as_str.ensures.value c.as_str-in-Some.ensures.value c.as_str-in-Some-2.ensures.value c.as_str-in-Some-3.ensures.value c.as_str-in-Some-4.ensures.value
    c.option_or.ensures c.option_or-in-Some.ensures c.option_or-in-Some-2.ensures c.option_or-in-Some-3.ensures c.option_or-in-Some-4.ensures
    (option_copied c.args.folder) (ap option_copied c.in-Some.is)
