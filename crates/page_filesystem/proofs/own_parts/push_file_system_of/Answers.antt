use Rattle.std.proofs.Common.{map, subst, sym}
use Rattle.page_findings.specs.Lines.{line_value}
use Rattle.page_filesystem.specs.Notes.{LinesAscend}
use Rattle.page_filesystem.proofs.Standing.{by_filesystem, own_ascend}
use Rattle.page_filesystem.proofs.own_parts.push_file_system_of.Goals as goal

pub lines_in-own-requires : goal.lines_in-own-requires
lines_in-own-requires c = by_filesystem c.args.given.now.policy.now (map line_value c.args.given.now.lines.now) c.requires.lines

pub notes_of-requires-clause-ascending : goal.notes_of-requires-clause-ascending
notes_of-requires-clause-ascending c =
    let content = c.args.given.now.policy.now in
    let fs = c.args.given.now.fs.0 in
    subst LinesAscend (sym c.lines_in-own.ensures)
    (own_ascend content fs (map line_value c.args.given.now.lines.now) c.requires.lines c.requires.listed (c.requires.sound.each fs c.requires.listed).ascending)
