-- The files so far were read and added.
use Rattle.desk_policy.specs.PrivateKnownNames.{AreKnown}
use Rattle.desk_policy.specs.Site.{texts_of}
use Rattle.desk_policy.proofs.FilesRead.{FilesRead}
use Rattle.desk_policy.proofs.parsing.push_files.Given as goal

abbrev pub invariant-loop-place : goal.invariant-loop-place
invariant-loop-place l = record {
  files : FilesRead (texts_of l.site) l.filesystems l.site_tables l.place l.initial.rows.items l.rows.items l.initial.warnings l.warnings;
  known : AreKnown l.site_tables.netgroups l.site_tables.hosts l.known;
}
