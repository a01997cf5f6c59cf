-- What is said of a line that breaks no rule. (this project's own)
use Rattle.std.specs.Prelude.{ℕ, Bool, true, false, List, [], ◌∷◌, codes, if◌then◌else◌}
use denote.Enum.Bare.{sameb}
use Rattle.desk_text.specs.Said.{Said, row}
use Rattle.desk_remarks.specs.contracts.remark.Remark.{the_type}
use Rattle.desk_remarks.specs.declared.remark.OtherLine.{OtherLine}
use Rattle.desk_remarks.specs.declared.remark.OtherLine.TheVariants.{First, Grants, Taken}
use Rattle.desk_remarks.specs.declared.remark.Remark.{Remark}
use Rattle.desk_remarks.specs.declared.remark.Remark.TheVariants as remark

-- The kind whose number and name a remark has: the remark itself, but of a line by which mountd(8) may grant that of any such line.
abbrev pub rule_of : Remark → Remark
rule_of said = if sameb the_type said remark.ShadowedHere then remark.Shadowed else said

-- what is printed of a remark, whether it is an opinion, and what the line of its example is
pub record Row : Type 0 where
  pub said : Said
  pub is_opinion : Bool
  pub other : OtherLine

abbrev warning : ℕ → List ℕ → List ℕ → OtherLine → Row
warning number name sentence other = record { said = row number name sentence; is_opinion = false; other = other }

abbrev opinion : ℕ → List ℕ → List ℕ → Row
opinion number name sentence = record { said = row number name sentence; is_opinion = true; other = First }

abbrev pub row_of : Remark → Row
row_of remark.Shadowed = warning 5 (codes "Shadowed") (codes "the line decides nothing: heavier lines match each of its clients") First
row_of remark.Repeated = warning 6 (codes "Repeated") (codes "the line decides nothing: earlier lines of equal weight list all that it lists") First
row_of remark.NoClient = warning 7 (codes "NoClient") (codes "the line decides nothing: its names stand for no address") First
row_of remark.EveryAddress = warning 8 (codes "EveryAddress") (codes "the network has the prefix 0, so the line is for everybody: leave the network out, or correct it") First
row_of remark.WritableByAll = opinion 9 (codes "WritableByAll") (codes "everybody may write to it: add -ro, or name the clients")
row_of remark.RootForMany = opinion 10 (codes "RootForMany") (codes "root of each client acts as root: leave out -maproot or -mapall, or name the hosts")
row_of remark.ShadowedHere = warning 5 (codes "Shadowed") (codes "the line decides nothing here, though mountd(8) may grant by it: heavier lines match each of its clients") First
row_of remark.ServerGrantsMore = warning 11 (codes "ServerGrantsMore") (codes "mountd(8) also lets a client mount a directory by a lighter line: list the directory here as well if that is meant, else keep the client out of that line's network, or give it a file system of its own") Grants
row_of remark.Backslash = warning 12 (codes "Backslash") (codes "mountd(8) may read this word otherwise: write the name in quotes") First
row_of remark.V4Line = opinion 13 (codes "V4Line") (codes "by NFSv4 a client that may mount one directory reaches the whole file system: the verdicts on directories hold for NFSv3 alone")
row_of remark.RepeatedClient = warning 14 (codes "RepeatedClient") (codes "mountd(8) takes one line for a client and a file system, and may leave this one out: write the directories on one line") Taken

-- the number of a kind of warning, behind those of words; its name; and what is said of the line, without the example
abbrev pub remark_number : Remark → ℕ
remark_number remark = (row_of remark).said.number

abbrev pub remark_name : Remark → List ℕ
remark_name remark = (row_of remark).said.name

abbrev pub remark_sentence : Remark → List ℕ
remark_sentence remark = (row_of remark).said.sentence

-- it is an opinion
abbrev pub is_opinion : Remark → Bool
is_opinion remark = (row_of remark).is_opinion

-- what the line of its example is
abbrev pub other_line_of : Remark → OtherLine
other_line_of remark = (row_of remark).other

-- the remarks with numbers of their own, by these
abbrev pub remarks : List Remark
remarks = remark.Shadowed ∷ remark.Repeated ∷ remark.NoClient ∷ remark.EveryAddress ∷ remark.WritableByAll ∷ remark.RootForMany ∷ remark.ServerGrantsMore ∷ remark.Backslash ∷ remark.V4Line ∷ remark.RepeatedClient ∷ []
