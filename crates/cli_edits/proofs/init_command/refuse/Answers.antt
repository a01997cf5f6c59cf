-- What the site is refused for is printed.
use Rattle.std.proofs.Common.{◌∙◌, Err, ap, inr, subst}
use Rattle.desk_policy.specs.Site.{texts_of}
use Rattle.desk_store.specs.declared.error.CreateError.TheVariants as create
use Rattle.cli_edits.specs.InitCommand.{IsRefusedFor}
use Rattle.cli_edits.specs.declared.init_command.NotMade.{NotMade}
use Rattle.cli_edits.specs.declared.init_command.NotMade.TheVariants as not_made
use Rattle.cli_edits.proofs.init_command.refuse.Goals as goal

pub returns-in-Create-Schema : goal.returns-in-Create-Schema
returns-in-Create-Schema c = inr (record { answer = Err create.Schema; judged = tt; prints = c.refused_by_table.ensures })

pub returns-in-Create-Fault : goal.returns-in-Create-Fault
returns-in-Create-Fault c = inr (record {
  answer = Err (create.Fault c.in-Create-Fault.fault);
  judged = subst (λ (n : NotMade). IsRefusedFor (texts_of c.args.site.now) n) (c.in-Create-Fault.is ∙ ap not_made.Create (c.in-Create-Fault.field-0-is ∙ ap create.Fault c.in-Create-Fault.fault-is)) c.requires;
  prints = c.faulty.ensures;
})

pub returns-in-Create-TooLarge : goal.returns-in-Create-TooLarge
returns-in-Create-TooLarge c = inr (record {
  answer = Err (create.TooLarge c.in-Create-TooLarge.file);
  judged = subst (λ (n : NotMade). IsRefusedFor (texts_of c.args.site.now) n) (c.in-Create-TooLarge.is ∙ ap not_made.Create (c.in-Create-TooLarge.field-0-is ∙ ap create.TooLarge c.in-Create-TooLarge.file-is)) c.requires;
  prints = c.too_large.ensures;
})
