use Rattle.jp_cut_laws.proofs.Shifted.{shown_is_one, word_is_open, word_is_one}
use Rattle.jp_cut_laws.proofs.laws.a_value_is_one_piece.Goals as goal

pub returns : goal.returns
returns c = record { its_end_shows = shown_is_one; it_may_go_on = word_is_open; it_is_ended = word_is_one }
