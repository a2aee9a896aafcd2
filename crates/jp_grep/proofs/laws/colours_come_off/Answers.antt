-- Each part of a row is the part without its colour.
use Rattle.jp_grep.proofs.Coloured.{context_paints, headers_same, output_paints, summary_paints}
use Rattle.jp_grep.proofs.laws.colours_come_off.Goals as goal

pub returns : goal.returns
returns c = record { rows = output_paints; summaries = summary_paints; headers = headers_same; context = context_paints }
