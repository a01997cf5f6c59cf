use Rattle.std.proofs.Common.{arith, subst}
use Rattle.std.proofs.lemmas.List.{length-map}
use Rattle.desk_impact.specs.Places.{AreInOrder, paths_in}
use Rattle.page_findings.proofs.figures.count_directories.Goals as goal

pub returns : goal.returns
returns c =
    let ordered = c.in_order-directories.result.items in
    record {
      directories = paths_in ordered;
      are = subst (λ given. AreInOrder given (paths_in ordered)) c.in_ok-paths.ensures c.in_order-directories.ensures;
      many = (let same = length-map ordered (λ path. path.now) in omega (arith, c.len.ensures));
    }
