-- The path of the index is the one of its number.
use Rattle.std.proofs.Common.{◌≡◌, ◌∙◌, [], sym, ap, get_or}
use Rattle.std.specs.Prelude.{Some, slice_get}
use Rattle.std.proofs.lemmas.Option.{slice_get-get_or}
use Rattle.jp_index.specs.Entries.{entries_of}
use Rattle.jp_store.specs.Collections.{statuses_in}
use Rattle.jp_store.proofs.store.Store.path_at.Goals as goal

pub returns : goal.returns
returns c =
    let paths = c.args.self.now.state.paths in
    let path = get_or paths c.args.k [] in
    let at : slice_get paths c.args.k ≡ Some path = slice_get-get_or paths c.args.k [] c.requires in
    at ∙ ap Some (sym (c.path.ensures.path path (entries_of path (statuses_in c.args.self.now)) (c.index.ensures path at)))
