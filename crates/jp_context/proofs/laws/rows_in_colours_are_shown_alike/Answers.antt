-- Colours change no row's place.
use Rattle.jp_context.proofs.InColours.{rows_alike, told_alike}
use Rattle.jp_context.proofs.laws.rows_in_colours_are_shown_alike.Goals as goal

pub returns : goal.returns
returns c = record { rows = rows_alike; told = told_alike }
