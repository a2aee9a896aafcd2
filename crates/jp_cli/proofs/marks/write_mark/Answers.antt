-- The two places, the path, and the line feed follow one another.
use Rattle.std.proofs.Common.{◌≡◌, ◌∙◌, ap, decimal}
use Rattle.jp_model.specs.declared.Span.{Span}
use Rattle.jp_model.specs.Json.Tree.{span}
use Rattle.jp_model.specs.Meaning.Paths.{path_text}
use Rattle.jp_model.specs.Rows.{line_feed, tab}
use Rattle.jp_nodes.specs.Cursors.{node_of}
use Rattle.jp_devices.proofs.Chains.{both_received, part_more, part_behind, ends_behind, ends_in_part}
use Rattle.jp_cli.proofs.marks.write_mark.Goals as goal

pub returns-in_err-write_whole-2-clause-text : goal.returns-in_err-write_whole-2-clause-text
returns-in_err-write_whole-2-clause-text g c =
    let node = node_of c.args.cursor in
    let first : c.as_bytes.result.now ≡ decimal (span node.tree).start = c.as_bytes.ensures.value ∙ c.format.ensures.text ∙ ap (λ (s : Span). decimal s.start) c.span-span.ensures.value in
    let part = rw first at (part_behind _ _ _ _ tab c.in_ok-write_whole.ensures.text c.in_err-write_whole-2.ensures.text) in
    ends_in_part c.from_residual-in_err-write_whole-2.result _ _ _ c.from_residual-in_err-write_whole-2.ensures.0
    (part_more _ _ _ line_feed (part_more _ _ _ (path_text node.location) (part_more _ _ _ tab (part_more _ _ _ (decimal (span node.tree).end) part))))

pub returns-in_err-write_whole-3-clause-text : goal.returns-in_err-write_whole-3-clause-text
returns-in_err-write_whole-3-clause-text g c =
    let node = node_of c.args.cursor in
    let first : c.as_bytes.result.now ≡ decimal (span node.tree).start = c.as_bytes.ensures.value ∙ c.format.ensures.text ∙ ap (λ (s : Span). decimal s.start) c.span-span.ensures.value in
    let last : c.as_bytes-2.result.now ≡ decimal (span node.tree).end = c.as_bytes-2.ensures.value ∙ c.format-2.ensures.text ∙ ap (λ (s : Span). decimal s.end) c.span-span.ensures.value in
    let one = both_received _ _ _ _ tab c.in_ok-write_whole.ensures.text c.in_ok-write_whole-2.ensures.text in
    let part = rw (first, last) at (part_behind _ _ _ _ _ one c.in_err-write_whole-3.ensures.text) in
    ends_in_part c.from_residual-in_err-write_whole-3.result _ _ _ c.from_residual-in_err-write_whole-3.ensures.0
    (part_more _ _ _ line_feed (part_more _ _ _ (path_text node.location) (part_more _ _ _ tab part)))

pub returns-in_err-write_whole-4-clause-text : goal.returns-in_err-write_whole-4-clause-text
returns-in_err-write_whole-4-clause-text g c =
    let node = node_of c.args.cursor in
    let first : c.as_bytes.result.now ≡ decimal (span node.tree).start = c.as_bytes.ensures.value ∙ c.format.ensures.text ∙ ap (λ (s : Span). decimal s.start) c.span-span.ensures.value in
    let last : c.as_bytes-2.result.now ≡ decimal (span node.tree).end = c.as_bytes-2.ensures.value ∙ c.format-2.ensures.text ∙ ap (λ (s : Span). decimal s.end) c.span-span.ensures.value in
    let one = both_received _ _ _ _ tab c.in_ok-write_whole.ensures.text c.in_ok-write_whole-2.ensures.text in
    let two = both_received _ _ _ _ _ one c.in_ok-write_whole-3.ensures.text in
    let part = rw (first, last) at (part_behind _ _ _ _ tab two c.in_err-write_whole-4.ensures.text) in
    ends_in_part c.from_residual-in_err-write_whole-4.result _ _ _ c.from_residual-in_err-write_whole-4.ensures.0 (part_more _ _ _ line_feed (part_more _ _ _ (path_text node.location) part))

pub returns-in_err-write_path-clause-text : goal.returns-in_err-write_path-clause-text
returns-in_err-write_path-clause-text g c =
    let node = node_of c.args.cursor in
    let first : c.as_bytes.result.now ≡ decimal (span node.tree).start = c.as_bytes.ensures.value ∙ c.format.ensures.text ∙ ap (λ (s : Span). decimal s.start) c.span-span.ensures.value in
    let last : c.as_bytes-2.result.now ≡ decimal (span node.tree).end = c.as_bytes-2.ensures.value ∙ c.format-2.ensures.text ∙ ap (λ (s : Span). decimal s.end) c.span-span.ensures.value in
    let one = both_received _ _ _ _ tab c.in_ok-write_whole.ensures.text c.in_ok-write_whole-2.ensures.text in
    let two = both_received _ _ _ _ _ one c.in_ok-write_whole-3.ensures.text in
    let three = both_received _ _ _ _ tab two c.in_ok-write_whole-4.ensures.text in
    let part = rw (first, last) at (part_behind _ _ _ _ _ three c.in_err-write_path.ensures.text) in
    ends_in_part c.from_residual-in_err-write_path.result _ _ _ c.from_residual-in_err-write_path.ensures.0 (part_more _ _ _ line_feed part)

pub returns-clause-text : goal.returns-clause-text
returns-clause-text g c =
    let node = node_of c.args.cursor in
    let first : c.as_bytes.result.now ≡ decimal (span node.tree).start = c.as_bytes.ensures.value ∙ c.format.ensures.text ∙ ap (λ (s : Span). decimal s.start) c.span-span.ensures.value in
    let last : c.as_bytes-2.result.now ≡ decimal (span node.tree).end = c.as_bytes-2.ensures.value ∙ c.format-2.ensures.text ∙ ap (λ (s : Span). decimal s.end) c.span-span.ensures.value in
    let one = both_received _ _ _ _ tab c.in_ok-write_whole.ensures.text c.in_ok-write_whole-2.ensures.text in
    let two = both_received _ _ _ _ _ one c.in_ok-write_whole-3.ensures.text in
    let three = both_received _ _ _ _ tab two c.in_ok-write_whole-4.ensures.text in
    let written = rw (first, last) at (both_received _ _ _ _ _ three c.in_ok-write_path.ensures.text) in
    ends_behind c.write_whole-5.result _ _ _ _ line_feed written c.write_whole-5.ensures.text
