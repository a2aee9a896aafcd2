-- There is no such column, so its name is empty.
use Rattle.std.proofs.Common.{◌∙◌, ◌≤◌, [], map, sym, subst}
use Rattle.std.proofs.lemmas.List.{get_or_past, length-map}
use Rattle.std.proofs.lemmas.Str.{chars-nil}
use Rattle.jp_columns.specs.Names.{text_of}
use Rattle.jp_columns.proofs.order.name_of.Goals as goal

pub returns-in-None : goal.returns-in-None
returns-in-None c =
    let names = c.args.names.now in
    chars-nil ∙ sym (get_or_past (map text_of names) c.args.column [] (subst (λ n. n ≤ c.args.column) (sym (length-map names text_of)) c.in-None.ensures.lookup.3))
