-- The lines are those of the bytes that came, each read, and no index is there.
use Rattle.std.proofs.Common.{◌≡◌, true, false, refl, ◌∙◌, ℕ, List, length, map, sym, ap, ap₂, subst, arith, All}
use Rattle.std.proofs.lemmas.Bool.{false≢true}
use Rattle.jp_devices.proofs.Devices.{came_so, goes_on, came_whole, not_ended, was_ended}
use Rattle.jp_model.specs.Lines.{is_framed, lines}
use Rattle.jp_model.specs.Steps.{Step}
use Rattle.jp_model.specs.Script.Machine.{bytes_held, statuses}
use Rattle.jp_index.specs.declared.index.ValueIndex.{ValueIndex}
use Rattle.jp_lines.specs.declared.line.Line.{Line}
use Rattle.jp_store.specs.Stored.{AreCounted, IsOver, path_of}
use Rattle.jp_lines.specs.Stored.{IsRead, stored_text}
use Rattle.jp_store.specs.Collections.{Collection}
use Rattle.jp_store.proofs.Loaded.{few_stored}
use Rattle.jp_store.proofs.store.Store.load.Goals as goal

pub returns-in-Err-Read-clause-came : goal.returns-in-Err-Read-clause-came
returns-in-Err-Read-clause-came g c =
    let came = c.in-Err-Read.ensures.bytes in
    let size = rw c.in-Err-Read.field-0-is at came.2 in
    (came_so came.0 false c.read_collection.new.reader.failed, goes_on g.R.Read.remaining c.args.reader.now c.read_collection.new.reader came.0 came.1 c.requires (not_ended _ _ c.in-Err-Read.ensures.end), (refl, size))

pub returns-in-Err-Size-clause-came : goal.returns-in-Err-Size-clause-came
returns-in-Err-Size-clause-came g c =
    let came = c.in-Err-Size.ensures.bytes in
    let size = rw c.in-Err-Size.field-0-is at came.2 in
    (came_so came.0 false c.read_collection.new.reader.failed, goes_on g.R.Read.remaining c.args.reader.now c.read_collection.new.reader came.0 came.1 c.requires (not_ended _ _ c.in-Err-Size.ensures.end), (refl, size))

pub returns-in-Err-Memory-clause-came : goal.returns-in-Err-Memory-clause-came
returns-in-Err-Memory-clause-came g c =
    let came = c.in-Err-Memory.ensures.bytes in
    let size = rw c.in-Err-Memory.field-0-is at came.2 in
    (came_so came.0 false c.read_collection.new.reader.failed, goes_on g.R.Read.remaining c.args.reader.now c.read_collection.new.reader came.0 came.1 c.requires (not_ended _ _ c.in-Err-Memory.ensures.end), (size, λ e. absurd (false≢true e)))

pub returns-then-not-is_framed_text-clause-came : goal.returns-then-not-is_framed_text-clause-came
returns-then-not-is_framed_text-clause-came g c =
    let came = c.in-Ok.ensures.bytes in (
      came_so came.0 true c.read_collection.new.reader.failed,
      came_whole g.R.Read.remaining c.args.reader.now c.read_collection.new.reader came.0 came.1 (was_ended g.R.Read.remaining _ _ c.requires c.in-Ok.ensures.end c.in-Ok.ensures.ended),
      (refl, came.2.1, ap (is_framed c.args.framing) (sym came.2.0 ∙ sym c.deref.ensures.value) ∙ sym c.if-not-is_framed_text.ensures),
    )

pub returns-in_default-clause-came : goal.returns-in_default-clause-came
returns-in_default-clause-came g c =
    let came = c.in-Ok.ensures.bytes in (
      came_so came.0 true c.read_collection.new.reader.failed,
      came_whole g.R.Read.remaining c.args.reader.now c.read_collection.new.reader came.0 came.1 (was_ended g.R.Read.remaining _ _ c.requires c.in-Ok.ensures.end c.in-Ok.ensures.ended),
      (came.2.1, λ e. ap (is_framed c.args.framing) (sym came.2.0 ∙ sym c.deref.ensures.value) ∙ sym c.if-not-is_framed_text.ensures),
    )

pub returns-in_default-measure-clause-came : goal.returns-in_default-measure-clause-came
returns-in_default-measure-clause-came g c =
    let came = c.in-Ok.ensures.bytes in (
      came_so came.0 true c.read_collection.new.reader.failed,
      came_whole g.R.Read.remaining c.args.reader.now c.read_collection.new.reader came.0 came.1 (was_ended g.R.Read.remaining _ _ c.requires c.in-Ok.ensures.end c.in-Ok.ensures.ended),
      (came.2.1, λ e. ap (is_framed c.args.framing) (sym came.2.0 ∙ sym c.deref.ensures.value) ∙ sym c.if-not-is_framed_text.ensures),
    )

pub returns-clause-came : goal.returns-clause-came
returns-clause-came g c =
    let came = c.in-Ok.ensures.bytes in (
      came_so came.0 true c.read_collection.new.reader.failed,
      came_whole g.R.Read.remaining c.args.reader.now c.read_collection.new.reader came.0 came.1 (was_ended g.R.Read.remaining _ _ c.requires c.in-Ok.ensures.end c.in-Ok.ensures.ended),
      (
        refl,
        came.2.1,
        ap (is_framed c.args.framing) (sym came.2.0 ∙ sym c.deref.ensures.value) ∙ sym c.if-not-is_framed_text.ensures,
        ap₂ (λ (ls : List (List ℕ)) (ps : List (List Step)). let whole : Collection = record { framing = c.args.framing; most = c.args.most; state = record { lines = ls; paths = ps }; is_metered = false } in whole)
            (subst (λ (b : List ℕ). map (stored_text b) c.in-Ok-read_lines.lines.items ≡ lines c.args.framing b) c.deref-2.ensures.value c.in-Ok-read_lines.ensures.came ∙ ap (lines c.args.framing) came.2.0)
            (ap (map path_of) c.new.ensures.items),
      ),
    )

pub measure-requires-clause-few : goal.measure-requires-clause-few
measure-requires-clause-few g c =
    let came = c.in-Ok.ensures.bytes.2 in
    let told = subst (λ (b : List ℕ). map (stored_text b) c.in-Ok-read_lines.lines.items ≡ lines c.args.framing b) c.deref-2.ensures.value c.in-Ok-read_lines.ensures.came in
    let few = few_stored c.args.framing c.in-Ok.bytes.items c.in-Ok-read_lines.lines.items told (omega (arith, ap length came.0, came.1, c.ranges.most.fits)) in
    omega (arith, few.0, ap length c.deref-4.ensures.value)

pub measure-requires-clause-room : goal.measure-requires-clause-room
measure-requires-clause-room g c =
    let came = c.in-Ok.ensures.bytes.2 in
    let told = subst (λ (b : List ℕ). map (stored_text b) c.in-Ok-read_lines.lines.items ≡ lines c.args.framing b) c.deref-2.ensures.value c.in-Ok-read_lines.ensures.came in
    let few = few_stored c.args.framing c.in-Ok.bytes.items c.in-Ok-read_lines.lines.items told (omega (arith, ap length came.0, came.1, c.ranges.most.fits)) in
    omega (arith, few.1, ap₂ (λ (b : List ℕ) (ls : List Line). bytes_held (map (stored_text b) ls)) c.deref-3.ensures.value c.deref-4.ensures.value)

pub measure-requires-clause-read : goal.measure-requires-clause-read
measure-requires-clause-read g c =
    let read = subst (λ (b : List ℕ). All (IsRead c.args.framing b c.in-Ok-read_lines.tapes.items) c.in-Ok-read_lines.lines.items) (c.deref-2.ensures.value ∙ sym c.deref-3.ensures.value) c.in-Ok-read_lines.ensures.read in
    (c.args.framing, c.in-Ok-read_lines.tapes.items, subst (λ (ls : List Line). All (IsRead c.args.framing c.deref-3.result.now c.in-Ok-read_lines.tapes.items) ls) (sym c.deref-4.ensures.value) read)

pub invariant_of-result : goal.invariant_of-result
invariant_of-result g c =
    let framing = c.args.framing in
    let bytes = c.in-Ok.bytes.items in
    let stored = c.in-Ok-read_lines.lines.items in
    let came = c.in-Ok.ensures.bytes.2 in
    let told = subst (λ (b : List ℕ). map (stored_text b) stored ≡ lines framing b) c.deref-2.ensures.value c.in-Ok-read_lines.ensures.came in
    let few = few_stored framing bytes stored told (omega (arith, ap length came.0, came.1, c.ranges.most.fits)) in
    let read = subst (λ (b : List ℕ). All (IsRead framing b c.in-Ok-read_lines.tapes.items) stored) c.deref-2.ensures.value c.in-Ok-read_lines.ensures.read in
    let seen = subst (λ (ls : List Line). All (IsRead framing c.deref-3.result.now c.in-Ok-read_lines.tapes.items) ls) (sym c.deref-4.ensures.value) (subst (λ (b : List ℕ). All (IsRead framing b c.in-Ok-read_lines.tapes.items) stored) (sym c.deref-3.ensures.value) read) in
    let counted = c.in-Ok-measure.ensures framing c.in-Ok-read_lines.tapes.items seen in
    record {
      each = read;
      few = few.0;
      counted = subst (λ (ls : List Line). AreCounted framing (map (stored_text bytes) ls) c.in-Ok-measure.counts) c.deref-4.ensures.value
          (subst (λ (b : List ℕ). AreCounted framing (map (stored_text b) c.deref-4.result.now) c.in-Ok-measure.counts) c.deref-3.ensures.value counted);
      indexed = subst (λ (is : List ValueIndex). All (IsOver (statuses framing (map (stored_text bytes) stored))) is) (sym c.new.ensures.items) (λ k d l. absurd (omega arith));
      few_indexes = omega (arith, ap length c.new.ensures.items);
    }
