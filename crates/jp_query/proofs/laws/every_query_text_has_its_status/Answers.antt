use Rattle.jp_query.proofs.Statuses.{has_status, one_status}
use Rattle.jp_query.proofs.laws.every_query_text_has_its_status.Goals as goal

pub returns : goal.returns
returns c = record { has = has_status; only = one_status }
