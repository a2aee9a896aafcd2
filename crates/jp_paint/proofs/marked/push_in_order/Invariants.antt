-- What stands before the run is appended, and the run and the spans that are left say what is to come.
use Rattle.std.proofs.Common.{drop, map}
use Rattle.jp_model.specs.Json.Places.{bytes_between}
use Rattle.jp_paint.specs.Marked.{clipped}
use Rattle.jp_paint.proofs.Runs.{Stands}
use Rattle.jp_paint.proofs.marked.push_in_order.Given as goal

abbrev pub invariant-loop-span : goal.invariant-loop-span
invariant-loop-span l =
    Stands (map (clipped l.part) l.spans) l.part.start (bytes_between l.line l.part.start l.part.end) l.fn.text.items l.text.items l.run (map (clipped l.part) (drop l.span-index l.spans)) l.rest
