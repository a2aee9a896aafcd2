-- By the derivation in proofs/Rows, and by computing.
use Rattle.std.proofs.Common.{refl}
use Rattle.jp_model.proofs.Rows.Lines.{an_object}
use Rattle.std.specs.Str.{chars}
use Rattle.std.specs.Char.{encode_utf8}
use Rattle.jp_model.proofs.worked.worked_texts.Goals as goal

pub returns-clause-an_object : goal.returns-clause-an_object
returns-clause-an_object c = an_object

pub returns-clause-the_reader_finds_it : goal.returns-clause-the_reader_finds_it
unfolding chars encode_utf8
returns-clause-the_reader_finds_it c = refl
