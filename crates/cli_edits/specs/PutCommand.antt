-- What `put` prints by its words and files. (this project's own)
use Rattle.std.specs.Prelude.{◌≡◌, ◌⊎◌, ℕ, ◌++◌, ◌∷◌, false, true, List, [], Option, Some, None, Result, Ok, Err, IsErrAnd, MatchResult, String, codes, length, if◌then◌else◌}
use Rattle.std.specs.Fmt.{decimal}
use Rattle.std.specs.Str.Lines.{IsFirstLine}
use Rattle.std.specs.String.{string_bytes}
use Rattle.clap.specs.Words.{Row, first_of}
use Rattle.sqlite_trees.specs.declared.store.Store.{Ghosts}
use Rattle.sqlite.specs.Held.{state}
use Rattle.desk_core.specs.Edit.{Edit}
use Rattle.desk_core.specs.Site.{IsConsistent, site_in}
use Rattle.desk_core.specs.Standing.{Standing, standing_in}
use Rattle.desk_store.specs.Desk.{AnswersBy, IsEdited, Shown}
use Rattle.desk_store.specs.declared.desk.Done.{Done}
use Rattle.desk_store.specs.declared.error.DeskError.{DeskError}
use Rattle.desk_service.specs.Approving.{Approval, edit_with, text_in}
use Rattle.desk_service.specs.Edits.{reply_to}
use Rattle.desk_service.specs.declared.edits.Replies.{Replies}
use Rattle.desk_service.specs.declared.refused.Refused.{Refused}
use Rattle.cli_output.specs.Failure.{IsMissing, IsRefusal}
use Rattle.cli_output.specs.Printed.{Prints}
use Rattle.cli_output.specs.declared.bad_argument.ArgumentFault.TheVariants as fault
use Rattle.cli_output.specs.declared.failure.Failure.{Failure}
use Rattle.cli_output.specs.declared.failure.Failure.TheVariants.{BesideProposal, InputTwice, KeyTwice, Memory, NoKey}
use Rattle.cli_output.specs.declared.printed.Printed.{Printed}
use Rattle.cli_words.specs.Values.{IsBadNumber, is_digest, revision_number}
use Rattle.cli_words.specs.Words.{After, ByWord}
use Rattle.cli_files.specs.Files.{HasTextIfGiven, LacksTextIfGiven, ReadsInTurn, name_input_twice}
use Rattle.cli_desk.specs.Desks.{HasNoDesk}
use Rattle.cli_desk.specs.RefusalLines.{IsRefused}
use Rattle.cli_desk.specs.RefusalNotes.{IsRefusedBy}

-- a line that is printed of an edit, by its words and the number of the edit's revision, as `accepted rev 2`
abbrev pub line_of : List ℕ → ℕ → List ℕ
line_of words rev = words ++ decimal rev ++ 10 ∷ []

-- the words of it: the edit is stored or proposed, or was before
abbrev pub reply_words : Done → List ℕ
reply_words done =
    if done.proposed then (if done.already then codes "already proposed rev " else codes "proposed rev ")
    else (if done.already then codes "already rev " else codes "accepted rev ")

-- what is printed of an edit that is not refused
abbrev pub reply_line : Done → List ℕ
reply_line done = line_of (reply_words done) done.rev

-- the four lines that may be printed of an edit whose revision has this number
pub record HasReplies {A : Type 0} (rev : ℕ) (replies : Replies (String A)) : Type 0 where
  pub accepted : string_bytes replies.accepted ≡ line_of (codes "accepted rev ") rev
  pub already : string_bytes replies.already ≡ line_of (codes "already rev ") rev
  pub proposed : string_bytes replies.proposed ≡ line_of (codes "proposed rev ") rev
  pub already_proposed : string_bytes replies.already_proposed ≡ line_of (codes "already proposed rev ") rev

-- The answer of a desk to an edit is printed. That the edit is stored or proposed, or was, is always reported, since
-- its lines are made before; a refusal or a fault may be reported as out of memory.
abbrev pub PrintsAnswer : Result Done DeskError → Result Printed Failure → Type 0
PrintsAnswer (Ok done) (Ok printed) = Prints 0 (reply_line done) printed
PrintsAnswer (Ok done) (Err failure) = ⊥
PrintsAnswer (Err failed) result = IsRefusedBy failed result

-- the reply to an edit is printed, or why a desk has none
abbrev pub PrintsReply : {A : Type 0} → Result (String A) DeskError → Result Printed Failure → Type 0
PrintsReply (Ok reply) (Ok printed) = Prints 0 (string_bytes reply) printed
PrintsReply (Ok reply) (Err failure) = ⊥
PrintsReply (Err failed) result = IsRefusedBy failed result

-- An edit was put into an opened desk, as desk_store says of edits, and the reply to its answer, one of these, is
-- printed.
pub record PrintsPut {S V A : Type 0} (g : Ghosts S) (old new : Shown S V) (e : Edit) (replies : Replies (String A)) (result : Result Printed Failure) : Type 0 where
  pub answer : Result Done DeskError
  pub edited : IsEdited (state g old.conn) (state g new.conn) old.state new.state e answer
  pub prints : PrintsReply (reply_to replies answer) result

-- The text that was found for an approval was put into an opened desk, as the edit that the approval is with it. If
-- none was found, the desk is as it was, and it is printed why.
abbrev pub PutsFound : {S V A : Type 0} → Ghosts S → Shown S V → Shown S V → Approval → Replies (String A) → Result Printed Failure → Result (List ℕ) Refused → Type 0
PutsFound g old new a replies result (Ok text) = PrintsPut g old new (edit_with a text) replies result
PutsFound g old new a replies result (Err why) = (new ≡ old) × IsRefused why result

-- The text that waits in an opened desk was put into it, if it has the digest of an approval; or memory ran out before
-- that.
abbrev pub PrintsApproval : {S V A : Type 0} → Ghosts S → Shown S V → Shown S V → Approval → Replies (String A) → Result Printed Failure → Type 0
PrintsApproval g old new a replies result = ((new ≡ old) × (result ≡ Err Memory)) ⊎ PutsFound g old new a replies result (text_in (standing_in old.state.heads old.state.proposals) a)

-- An edit is judged by how files stand in some desk, whose newest revisions write a consistent site, and its answer is
-- printed. Which desk that was, no clause can name, since the connection to its database is made and dropped inside.
pub record PutsInto (e : Edit) (result : Result Printed Failure) : Type 0 where
  pub standing : Standing
  pub consistent : IsConsistent (site_in standing.newest)
  pub answer : Result Done DeskError
  pub answers : AnswersBy standing e answer
  pub prints : PrintsAnswer answer result

-- the answer to an edit of the database at a path: that there is no desk, or that of a desk
abbrev pub AnswersEdit : List ℕ → Edit → Result Printed Failure → Type 0
AnswersEdit path e result = HasNoDesk path result ⊎ PutsInto e result

-- An approval is an edit with the text that waits in some desk and has its digest, by how files stand there, and its
-- answer is printed.
pub record PutsApproved (a : Approval) (result : Result Printed Failure) : Type 0 where
  pub text : List ℕ
  pub puts : PutsInto (edit_with a text) result
  pub waits : text_in puts.standing a ≡ Ok text

-- It is printed why no text waits in some desk that has the digest of an approval, by how files stand there.
pub record RefusesApproval (a : Approval) (result : Result Printed Failure) : Type 0 where
  pub standing : Standing
  pub why : Refused
  pub waits : text_in standing a ≡ Err why
  pub prints : IsRefused why result

-- the answer to an approval of the database at a path: that there is no desk, that of a desk, or that no such text
-- waits there
abbrev pub AnswersApproval : List ℕ → Approval → Result Printed Failure → Type 0
AnswersApproval path a result = HasNoDesk path result ⊎ (PutsApproved a result ⊎ RefusesApproval a result)

-- the words of an edit: DB, NAME, FILE, N, CUSTODIAN, and KEY and the key's file, if these are given
pub record PutWords : Type 0 where
  pub db : List ℕ
  pub name : List ℕ
  pub file : List ℕ
  pub base : List ℕ
  pub caller : List ℕ
  pub key : Option (List ℕ)
  pub key_file : Option (List ℕ)

-- the edit that the words ask for, by the number that N writes, a key and a text
abbrev pub edit_of : PutWords → ℕ → List ℕ → List ℕ → Edit
edit_of words base key text = record { file = words.name; base = base; caller = words.caller; key = key; text = text }

-- the files of an edit, in the order in which they are read: FILE, if that is given, and that of the key
abbrev pub put_files : Option (List ℕ) → Option (List ℕ) → List (List ℕ × Option (List ℕ))
put_files file key_file = (codes "FILE", file) ∷ (codes "--key-file", key_file) ∷ []

-- the key in the text of a key's file: its first line, without its line end; empty if the text is empty
abbrev pub IsKeyIn : List ℕ → List ℕ → Type 0
IsKeyIn text key = ((length text ≡ 0) × (key ≡ [])) ⊎ ((rest : List ℕ) × IsFirstLine text key rest)

-- the key: the word of it, if that is given, or else the one in the text of its file
abbrev pub IsKey : Option (List ℕ) → List ℕ → List ℕ → Type 0
IsKey (Some word) text key = key ≡ word
IsKey None text key = IsKeyIn text key

-- the answer by the texts of FILE and of the key's file
abbrev pub AnswersPutTexts : PutWords → ℕ → List (List ℕ) → Result Printed Failure → Type 0
AnswersPutTexts words base (text ∷ key_text ∷ []) result =
    (key : List ℕ) × IsKey words.key key_text key × AnswersEdit words.db (edit_of words base key text) result
AnswersPutTexts words base texts result = ⊥

-- the answer by the files, or why one has no text
abbrev pub AnswersPutFiles : PutWords → ℕ → Option (List ℕ) → Result Printed Failure → Type 0
AnswersPutFiles words base known result = After (ReadsInTurn (put_files (Some words.file) words.key_file) known) (AnswersPutTexts words base) result

-- what is wrong with FILE and the words of the key: this has to be given just once, and only one file may be standard
-- input
abbrev pub key_fault : Option (List ℕ) → Option (List ℕ) → Option (List ℕ) → Option Failure
key_fault file (Some key) (Some key_file) = Some KeyTwice
key_fault file None None = Some NoKey
key_fault file key key_file = if name_input_twice (put_files file key_file) then Some InputTwice else None

-- the answer by what is wrong with the words of the key
abbrev pub AnswersPutKey : PutWords → ℕ → Option Failure → Option (List ℕ) → Result Printed Failure → Type 0
AnswersPutKey words base (Some failure) known result = result ≡ Err failure
AnswersPutKey words base None known result = AnswersPutFiles words base known result

-- the answer by the number that N writes
abbrev pub AnswersPutBase : PutWords → Option ℕ → Option (List ℕ) → Result Printed Failure → Type 0
AnswersPutBase words None known result = IsErrAnd result (IsBadNumber (codes "--base") words.base)
AnswersPutBase words (Some base) known result = AnswersPutKey words base (key_fault (Some words.file) words.key words.key_file) known result

-- the answer to the words of an edit: that of the edit, or what is wrong with N or the key
abbrev pub AnswersPutWords : PutWords → Option (List ℕ) → Result Printed Failure → Type 0
AnswersPutWords words known result = AnswersPutBase words (revision_number words.base) known result

-- the answer of `put` by FILE and its other words
abbrev pub AnswersPutFile : List ℕ → List Row → Option (List ℕ) → Result Printed Failure → Type 0
AnswersPutFile file rows known result =
    ByWord (codes "DB") rows
    (λ db. ByWord (codes "NAME") rows
    (λ name. ByWord (codes "base") rows
    (λ base. ByWord (codes "caller") rows
    (λ caller. AnswersPutWords (record { db = db; name = name; file = file; base = base; caller = caller; key = first_of (codes "key") rows; key_file = first_of (codes "key-file") rows }) known))))
    result

-- N writes this number of a revision, or is refused
abbrev pub ParsesBase : List ℕ → Result ℕ Failure → Type 0
ParsesBase word step = MatchResult step (λ base. revision_number word ≡ Some base) (λ failure. (revision_number word ≡ None) × IsBadNumber (codes "--base") word failure)

-- DIGEST is a digest, or is refused
abbrev pub TakesDigest : List ℕ → Result Unit Failure → Type 0
TakesDigest word step = MatchResult step (λ fine. is_digest word ≡ true) (λ failure. (is_digest word ≡ false) × IsRefusal (codes "--proposal") word fault.Digest failure)

-- the key is given just once
abbrev pub TakesKey : Option (List ℕ) → Option (List ℕ) → Result Unit Failure → Type 0
TakesKey key key_file step = MatchResult step (λ fine. key_fault None key key_file ≡ None) (λ failure. key_fault None key key_file ≡ Some failure)

-- the key's file has this text, or none if it is not given; or it is said why it has none
abbrev pub ReadsKeyFile : Option (List ℕ) → Option (List ℕ) → Result (List ℕ) Failure → Type 0
ReadsKeyFile key_file known step = MatchResult step (HasTextIfGiven (codes "--key-file") key_file known) (LacksTextIfGiven (codes "--key-file") key_file known)

-- the answer of `put` by DIGEST and its other words: they are looked at, then the key's file is read
abbrev pub AnswersPutProposal : List ℕ → List Row → Option (List ℕ) → Result Printed Failure → Type 0
AnswersPutProposal digest rows known =
    ByWord (codes "DB") rows (λ db. ByWord (codes "NAME") rows (λ name. ByWord (codes "base") rows (λ word. ByWord (codes "caller") rows (λ caller.
    After (ParsesBase word) (λ base. After (TakesDigest digest) (λ fine. After (TakesKey (first_of (codes "key") rows) (first_of (codes "key-file") rows)) (λ once.
    After (ReadsKeyFile (first_of (codes "key-file") rows) known) (λ text result. (key : List ℕ) × IsKey (first_of (codes "key") rows) text key
    × AnswersApproval db (record { file = name; base = base; caller = caller; key = key; digest = digest }) result))))))))

-- the answer of `put` by FILE or DIGEST, one of which is to be given
abbrev pub AnswersPutBy : Option (List ℕ) → Option (List ℕ) → List Row → Option (List ℕ) → Result Printed Failure → Type 0
AnswersPutBy (Some file) (Some digest) rows known result = result ≡ Err BesideProposal
AnswersPutBy (Some file) None rows known result = AnswersPutFile file rows known result
AnswersPutBy None (Some digest) rows known result = AnswersPutProposal digest rows known result
AnswersPutBy None None rows known result = IsErrAnd result (IsMissing (codes "FILE"))

-- the answer of `put` to its words
abbrev pub AnswersPut : List Row → Option (List ℕ) → Result Printed Failure → Type 0
AnswersPut rows known result = AnswersPutBy (first_of (codes "FILE") rows) (first_of (codes "proposal") rows) rows known result
