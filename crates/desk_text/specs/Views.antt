-- What the structs of the networks, lines and words show.
use Rattle.desk_text.specs.Address.{number_of}
use Rattle.desk_text.specs.Network.{WrittenNet}
use Rattle.desk_text.specs.Lines.{PhysicalLine}
use Rattle.desk_text.specs.Word.{RawWord}
use Rattle.desk_text.specs.declared.lines.Part.{Part}
use Rattle.desk_text.specs.declared.network.NetText.{NetText}
use Rattle.desk_text.specs.declared.raw_word.Word.{Word}

abbrev pub line_of_part : Part → PhysicalLine
line_of_part p = record { start = p.start; whole = p.whole.now; text = p.text.now }

abbrev pub word_of : Word → RawWord
word_of w = record { raw = w.raw.now; start = w.start; dashed = w.dashed }

abbrev pub written_net : NetText → WrittenNet
written_net t = record { addr = number_of t.addr; prefix = t.prefix }
