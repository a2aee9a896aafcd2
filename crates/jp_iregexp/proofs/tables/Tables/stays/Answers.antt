use Rattle.jp_iregexp.proofs.tables.Tables.stays.Goals as goal

pub returns-in-Some : goal.returns-in-Some
returns-in-Some c =
    λ true. record { whole = c.in-Some.whole.now; kept = c.in-Some.ensures; tail = c.is_tail_of.ensures true }
