-- What stands at the index that was found has the name, and where none is found none has it.
use Rattle.std.proofs.Common.{sym, get_or}
use Rattle.std.proofs.lemmas.List.{get_or_default}
use Rattle.jp_values.proofs.Gathered.{found_sorted, missing_sorted}
use Rattle.jp_values.proofs.members.find_sorted.Goals as goal

pub returns-in-Ok-clause-value : goal.returns-in-Ok-clause-value
returns-in-Ok-clause-value c = λ children g.
    let members = c.args.members.now in
    let k = c.in-Ok.index in
    let m = get_or members k c.index-members-index.result in
    found_sorted children members c.args.wanted.now m k g.all c.in-Ok.ensures.bound (get_or_default members k c.index-members-index.result m c.in-Ok.ensures.bound) c.in-Ok.ensures.ok

pub returns-in-Err-clause-value : goal.returns-in-Err-clause-value
returns-in-Err-clause-value c = λ children g. missing_sorted children c.args.members.now c.args.wanted.now c.in-Err.field-0 g c.in-Err.ensures.position

pub returns-in-Ok-clause-behind : goal.returns-in-Ok-clause-behind
returns-in-Ok-clause-behind c = λ children g.
    let members = c.args.members.now in
    let k = c.in-Ok.index in
    let m = get_or members k c.index-members-index.result in
    g.all.behind m (k, c.in-Ok.ensures.bound, sym (get_or_default members k c.index-members-index.result m c.in-Ok.ensures.bound))
