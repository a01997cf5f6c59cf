-- Each range of codes by how long they are.
use Rattle.std.proofs.Common.{arith, sym}
use Rattle.desk_shown.proofs.ShownTextLemmas.{code_of_1, code_of_2, code_of_3, code_of_4, code_of_5, code_of_6}
use Rattle.desk_shown.proofs.shown_text.code_length.Goals as goal

pub returns-in-0-to-15 : goal.returns-in-0-to-15
returns-in-0-to-15 c = let long = code_of_1 c.args.c (omega (arith, c.in-0-to-15)) in sym long

pub returns-in-16-to-255 : goal.returns-in-16-to-255
returns-in-16-to-255 c = let long = code_of_2 c.args.c (omega (arith, c.in-16-to-255)) (omega (arith, c.in-16-to-255)) in sym long

pub returns-in-256-to-4095 : goal.returns-in-256-to-4095
returns-in-256-to-4095 c = let long = code_of_3 c.args.c (omega (arith, c.in-256-to-4095)) (omega (arith, c.in-256-to-4095)) in sym long

pub returns-in-4096-to-65535 : goal.returns-in-4096-to-65535
returns-in-4096-to-65535 c = let long = code_of_4 c.args.c (omega (arith, c.in-4096-to-65535)) (omega (arith, c.in-4096-to-65535)) in sym long

pub returns-in-65536-to-1048575 : goal.returns-in-65536-to-1048575
returns-in-65536-to-1048575 c = let long = code_of_5 c.args.c (omega (arith, c.in-65536-to-1048575)) (omega (arith, c.in-65536-to-1048575)) in sym long

pub returns-in_default : goal.returns-in_default
returns-in_default c = let long = code_of_6 c.args.c (omega (arith, c.in_default)) (omega (arith, c.ranges.c)) in sym long
