use Rattle.std.specs.String.{string_bytes}
use Rattle.std.proofs.lemmas.Result.{on_ok_weaker}
use Rattle.page_lists.specs.Reading.{how_to_read}
use Rattle.page_summary.specs.Sections.{footer}
use Rattle.page_site.proofs.Pieces.{gains_just, gains_then}
use Rattle.page_site.proofs.sections.push_end.Goals as goal

pub returns : goal.returns
returns c =
    let read = string_bytes c.push_how_to_read.new.page in
    on_ok_weaker c.push_footer.result
    (λ ended.
    gains_then (gains_just how_to_read (string_bytes c.args.page.now) read c.in_ok-push_how_to_read.ensures)
    (gains_just footer read (string_bytes c.push_footer.new.page) ended))
    c.push_footer.ensures
