use Rattle.jp_query.proofs.Relatives.{has_relative_status, one_relative_status}
use Rattle.jp_query.proofs.laws.every_rel_query_text_has_its_status.Goals as goal

pub returns : goal.returns
returns c = record { has = has_relative_status; only = one_relative_status }
