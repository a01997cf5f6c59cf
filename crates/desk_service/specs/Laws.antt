-- What foreseeing a text has in common with making an edit. (this project's own)
use Rattle.desk_core.specs.Edit.{Edit, revision_of}
use Rattle.desk_core.specs.Head.{put}
use Rattle.desk_core.specs.History.{newest_of}
use Rattle.desk_core.specs.Site.{IsInForce, site_in}
use Rattle.desk_store.specs.Desk.{History}
use Rattle.desk_service.specs.Foreseeing.{Foreseen, content_after}
use Rattle.desk_service.specs.Questions.{AnswersByHistory, Foresee, ForeseeSite, ForeseenIs, SiteIs}
use Rattle.desk_service.specs.Sites.{IsSiteOf, WholeSite}

-- What is foreseen of a file's text is in force once an edit of that file with that text is: its policy is that of the site by which the
-- edit is judged. Who asks, with which key and base, does not count.
abbrev pub ForeseesPutsSite : Type 0
ForeseesPutsSite = (history : History) (e : Edit) (f : Foreseen) → AnswersByHistory history (Foresee e.file e.text) (ForeseenIs f)
    → IsInForce (site_in (put (newest_of history) (revision_of e))) (content_after f)

-- The same of the whole site: its policy, and its tables.
abbrev pub ForeseesWholePutsSite : Type 0
ForeseesWholePutsSite = (history : History) (e : Edit) (site : WholeSite) → AnswersByHistory history (ForeseeSite e.file e.text) (SiteIs site)
    → IsSiteOf (site_in (put (newest_of history) (revision_of e))) site
