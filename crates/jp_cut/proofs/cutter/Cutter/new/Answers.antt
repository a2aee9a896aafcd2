use Rattle.std.proofs.Common.{refl}
use Rattle.jp_cut.proofs.Reading.{read_front}
use Rattle.jp_cut.proofs.cutter.Cutter.new.Goals as goal

pub returns-clause-front : goal.returns-clause-front
returns-clause-front c = read_front c.args.pieces _ refl c.new.ensures.items refl refl c.nothing_open.ensures refl refl
