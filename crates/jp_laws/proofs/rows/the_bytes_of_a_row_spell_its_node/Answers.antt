use Rattle.jp_laws.proofs.Moved.{row_text}
use Rattle.jp_laws.proofs.rows.the_bytes_of_a_row_spell_its_node.Goals as goal

pub returns : goal.returns
returns c = row_text
