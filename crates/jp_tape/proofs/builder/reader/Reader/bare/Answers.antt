use Rattle.std.proofs.Common.{true, false, ap, refl}
use Rattle.jp_model.specs.Json.Reader.{lead_of}
use Rattle.jp_tape.proofs.Scalars.{found_null, found_boolean, no_null, no_boolean, no_number}
use Rattle.jp_tape.proofs.builder.reader.Reader.bare.Goals as goal

pub word-requires-clause-found : goal.word-requires-clause-found
word-requires-clause-found g c end h = found_null c.args.line.now c.args.at _ h refl refl refl

pub word-requires-clause-none : goal.word-requires-clause-none
word-requires-clause-none g c p = no_null c.args.line.now c.args.at c.if-byte-eq110.true p

pub word-requires-then-byte-eq116-clause-found : goal.word-requires-then-byte-eq116-clause-found
word-requires-then-byte-eq116-clause-found g c end h = found_boolean c.args.line.now true c.args.at _ h refl refl refl

pub word-requires-then-byte-eq116-clause-none : goal.word-requires-then-byte-eq116-clause-none
word-requires-then-byte-eq116-clause-none g c p = no_boolean c.args.line.now true c.args.at (ap lead_of c.if-byte-eq116.true) p

pub word-requires-then-byte-eq102-clause-found : goal.word-requires-then-byte-eq102-clause-found
word-requires-then-byte-eq102-clause-found g c end h = found_boolean c.args.line.now false c.args.at _ h refl refl refl

pub word-requires-then-byte-eq102-clause-none : goal.word-requires-then-byte-eq102-clause-none
word-requires-then-byte-eq102-clause-none g c p = no_boolean c.args.line.now false c.args.at (ap lead_of c.if-byte-eq102.true) p

pub number-requires-clause-none : goal.number-requires-clause-none
number-requires-clause-none g c none =
    no_number c.args.line.now c.args.at c.if-byte-eq110.false c.if-byte-eq116.false c.if-byte-eq102.false c.requires.no_text c.requires.no_array c.requires.no_object none
