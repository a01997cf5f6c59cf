-- The replies to questions: what desk_service answers, printed. (this project's own)
use Rattle.std.specs.Prelude.{◌≡◌, Option}
use Rattle.desk_tables.specs.declared.credentials.Cred.{Cred}
use Rattle.desk_store.specs.Desk.{History}
use Rattle.desk_service.specs.Questions as asked
use Rattle.desk_service.specs.Questions.{Answer, AnswersByHistory, Question}
use Rattle.desk_service.specs.declared.refused.Refused.TheVariants as refused
use Rattle.desk_http_messages.specs.Replies.{Reply, reply_with}
use Rattle.desk_http_bodies.specs.Exports.{exports_data}
use Rattle.desk_http_bodies.specs.Ranges.{who_data}
use Rattle.desk_http_bodies.specs.Revisions.{file_data, proposal_data, revisions_data}
use Rattle.desk_http_bodies.specs.Verdicts.{verdict_data}
use Rattle.desk_http.specs.Replies.{refused_reply}

-- the reply to a question by its answer, printed for a client with this credential of its own, if it told one; to any other answer, that
-- there is no such revision (each is named, so that a new one has to be told here)
abbrev pub reply_of : Question → Option Cred → Answer → Reply
reply_of (asked.Mount address path) own (asked.VerdictIs content verdict) = reply_with 200 (verdict_data content own verdict)
reply_of (asked.Listing address) own (asked.ListingIs content systems) = reply_with 200 (exports_data content address systems)
reply_of (asked.Who path) own (asked.RangesAre content ranges) = reply_with 200 (who_data content path ranges)
reply_of (asked.Text name rev) own (asked.TextIs text) = reply_with 200 (file_data name text)
reply_of (asked.OfFile name what) own (asked.RevisionsAre revisions) = reply_with 200 (revisions_data name revisions)
reply_of (asked.OfFile name what) own (asked.ProposalIs proposal) = reply_with 200 (proposal_data name proposal)
reply_of question own (asked.VerdictIs content verdict) = refused_reply refused.NoRevision
reply_of question own (asked.WhyIs content reasons) = refused_reply refused.NoRevision
reply_of question own (asked.ListingIs content systems) = refused_reply refused.NoRevision
reply_of question own (asked.ExportsAre content) = refused_reply refused.NoRevision
reply_of question own (asked.RangesAre content ranges) = refused_reply refused.NoRevision
reply_of question own (asked.TextIs text) = refused_reply refused.NoRevision
reply_of question own (asked.RevisionsAre revisions) = refused_reply refused.NoRevision
reply_of question own (asked.ProposalIs proposal) = refused_reply refused.NoRevision
reply_of question own asked.NoRevision = refused_reply refused.NoRevision
reply_of question own (asked.FilesAre listed) = refused_reply refused.NoRevision
reply_of question own (asked.ForeseenIs foreseen) = refused_reply refused.NoRevision
reply_of question own (asked.SiteIs site) = refused_reply refused.NoRevision
reply_of question own (asked.RefusedBy refusal) = refused_reply refused.NoRevision

-- this is replied to a question by a history: the answer by that history, printed
abbrev pub QuestionReply : History → Question → Option Cred → Reply → Type 0
QuestionReply history question own reply = (answer : Answer) × AnswersByHistory history question answer × (reply ≡ reply_of question own answer)
