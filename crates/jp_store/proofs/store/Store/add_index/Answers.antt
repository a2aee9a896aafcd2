-- The index is of the present lines, and its path is the last.
use Rattle.std.proofs.Common.{◌≡◌, ◌∙◌, ◌<◌, ◌++◌, [], ◌∷◌, List, length, map, ap, sym, subst, arith, length-append}
use Rattle.std.specs.Prelude.{All, count_by, false}
use Rattle.std.proofs.lemmas.List.{map-append, length-map}
use Rattle.std.proofs.lemmas.List.Elements.{All-append, All-cons}
use Rattle.jp_model.specs.Json.Status.{LineStatus}
use Rattle.jp_model.specs.Steps.{Step}
use Rattle.jp_model.specs.Script.Machine.{has_path, has_node, statuses}
use Rattle.jp_syntax.specs.SingularPaths.{path_steps}
use Rattle.jp_index.specs.Entries.{entries_of}
use Rattle.jp_index.specs.Indexes.{IsIndexOf}
use Rattle.jp_index.specs.declared.index.ValueIndex.{ValueIndex}
use Rattle.jp_store.specs.Collections.{Collection, with_index, with_paths, statuses_in}
use Rattle.jp_store.specs.Stored.{IsOver, path_of}
use Rattle.jp_lines.specs.Stored.{IsRead, stored_text}
use Rattle.jp_store.proofs.Counted.{entries_count, no_fault}
use Rattle.jp_store.proofs.store.Store.add_index.Goals as goal

pub build_index-requires-clause-read : goal.build_index-requires-clause-read
build_index-requires-clause-read c =
    let s = c.self.inside in
    (s.framing, subst (λ lines. All (IsRead s.framing c.deref-2.result.now c.deref-3.result.now) lines) (sym c.deref-4.ensures.value) (subst (λ bytes. All (IsRead s.framing bytes c.deref-3.result.now) s.lines.items) (sym c.deref-2.ensures.value) (subst (λ tapes. All (IsRead s.framing s.bytes.items tapes) s.lines.items) (sym c.deref-3.ensures.value) c.self.invariant.each)))

pub returns : goal.returns
returns c =
    let s = c.self.inside in
    let p : List Step = path_steps c.args.path in
    let old : Collection = c.args.self.now in
    let ss : List LineStatus = statuses s.framing (map (stored_text s.bytes.items) s.lines.items) in
    let each = subst (λ lines. All (IsRead s.framing c.deref-2.result.now c.deref-3.result.now) lines) (sym c.deref-4.ensures.value) (subst (λ bytes. All (IsRead s.framing bytes c.deref-3.result.now) s.lines.items) (sym c.deref-2.ensures.value) (subst (λ tapes. All (IsRead s.framing s.bytes.items tapes) s.lines.items) (sym c.deref-3.ensures.value) c.self.invariant.each)) in
    let built = c.in-Ok.ensures s.framing each in
    let is : IsIndexOf c.in-Ok.index p (entries_of p ss) =
    subst (λ lines. IsIndexOf c.in-Ok.index p (entries_of p (statuses s.framing (map (stored_text s.bytes.items) lines)))) c.deref-4.ensures.value
    (subst (λ bytes. IsIndexOf c.in-Ok.index p (entries_of p (statuses s.framing (map (stored_text bytes) c.deref-4.result.now)))) c.deref-2.ensures.value built) in
    let none : has_path p old.state.paths ≡ false =
    ap (λ (v : Collection). has_path p v.state.paths) (sym c.self.view_is) ∙ (ap (λ xs. has_path p (map path_of xs)) (sym c.deref.ensures.value) ∙ (sym c.has_index.ensures ∙ c.if-has_index.false)) in
    let few : length old.state.paths < 16 = omega (arith, c.if-len-ge16.false, c.len.ensures, ap (λ (v : Collection). length v.state.paths) c.self.view_is, length-map s.indexes.items path_of) in (
      no_fault p old none few,
      ap (λ ps. with_paths ps (record { framing = s.framing; most = s.most; state = record { lines = map (stored_text s.bytes.items) s.lines.items; paths = [] }; is_metered = s.is_metered }))
          (ap (map path_of) c.in-Ok-push.ensures.items ∙ map-append path_of s.indexes.items (c.in-Ok.index ∷ []) ∙ ap (λ q. map path_of s.indexes.items ++ q ∷ []) is.path_is)
          ∙ ap (with_index p) c.self.view_is,
      c.count-count.ensures p (entries_of p ss) is ∙ entries_count p 1 ss (λ m. c.a_line_has_one_entry.ensures c.in-Ok.index p (entries_of p ss) m is) ∙ ap (λ (v : Collection). count_by (has_node p) (statuses_in v)) c.self.view_is,
    )

pub invariant_of-self-2 : goal.invariant_of-self-2
invariant_of-self-2 c =
    let s = c.self.inside in
    let p : List Step = path_steps c.args.path in
    let ss : List LineStatus = statuses s.framing (map (stored_text s.bytes.items) s.lines.items) in
    let each = subst (λ lines. All (IsRead s.framing c.deref-2.result.now c.deref-3.result.now) lines) (sym c.deref-4.ensures.value) (subst (λ bytes. All (IsRead s.framing bytes c.deref-3.result.now) s.lines.items) (sym c.deref-2.ensures.value) (subst (λ tapes. All (IsRead s.framing s.bytes.items tapes) s.lines.items) (sym c.deref-3.ensures.value) c.self.invariant.each)) in
    let built = c.in-Ok.ensures s.framing each in
    let is : IsIndexOf c.in-Ok.index p (entries_of p ss) =
    subst (λ lines. IsIndexOf c.in-Ok.index p (entries_of p (statuses s.framing (map (stored_text s.bytes.items) lines)))) c.deref-4.ensures.value
    (subst (λ bytes. IsIndexOf c.in-Ok.index p (entries_of p (statuses s.framing (map (stored_text bytes) c.deref-4.result.now)))) c.deref-2.ensures.value built) in
    record {
      each = c.self.invariant.each;
      few = c.self.invariant.few;
      counted = c.self.invariant.counted;
      indexed = subst (λ (is : List ValueIndex). All (IsOver ss) is) (sym c.in-Ok-push.ensures.items)
          (All-append (IsOver ss) s.indexes.items (c.in-Ok.index ∷ []) c.self.invariant.indexed
          (All-cons (IsOver ss) c.in-Ok.index [] (subst (λ q. IsIndexOf c.in-Ok.index q (entries_of q ss)) (sym is.path_is) is) (λ k d l. absurd (omega arith))));
      few_indexes = omega (arith, ap length c.in-Ok-push.ensures.items, length-append s.indexes.items (c.in-Ok.index ∷ []), c.if-len-ge16.false, c.len.ensures);
    }
