-- The front of the stream is no mark of another format.
use Rattle.std.proofs.Common.{◌≡◌, ◌∙◌, ◌++◌, [], ℕ, List, Bool, true, false, None, Result, Ok, Err, OnOk, ap, is_ok, refl, sym, subst}
use Rattle.std.specs.Prelude.{IfErr, MatchResult, is_err, if◌then◌else◌}
use Rattle.jp_cut.specs.Cuts.{Piece}
use Rattle.jp_cut.specs.Holding.{HasRead}
use Rattle.jp_cut.specs.declared.machine.Pieces.{Pieces}
use Rattle.jp_grep.specs.Faults.{IsOfNoDevice, is_inner_fault}
use Rattle.jp_grep.specs.Finding.{RefusesFront}
use Rattle.jp_grep.specs.Formats.{begins_mark, format_of}
use Rattle.jp_grep.specs.Stands.{IsAnswered, IsTaken, IsUncut}
use Rattle.jp_grep.specs.declared.cutting.Cutting.{Cutting}
use Rattle.jp_grep.specs.declared.fault.SearchFault.{SearchFault}
use Rattle.jp_grep.specs.declared.fault.SearchFault.TheVariants as faults
use Rattle.jp_grep.proofs.Advancing.{inner_no_front}
use Rattle.jp_grep.proofs.Uncut.{format_settled}
use Rattle.jp_grep.proofs.cutting.Cutting.take_in.Goals as goal

module _ (pieces : Pieces) (came bytes front : List ℕ) (handed : List Piece) (old new : Cutting) (is_front : front ≡ came ++ bytes) (format : format_of front ≡ None) (unbegun : begins_mark front ≡ false) where
  -- where the bytes that came are held to be cut, they have no mark
  passed : (r : Result Unit SearchFault) → IsUncut pieces came old handed → new.is_first ≡ false → OnOk r (HasRead pieces front [] new.cutter) → IfErr r (λ fault. is_inner_fault fault ≡ true)
      → MatchResult r (λ _. IsTaken pieces (came ++ bytes) new handed new.is_first) (λ fault. RefusesFront came bytes handed fault)
  passed (Err fault) at first read inner = λ front_fault. absurd (inner_no_front fault inner front_fault)
  passed (Ok x) at first read inner =
      subst (λ (b : Bool). IsTaken pieces (came ++ bytes) new handed b) (sym first) (record {
        read = subst (λ (l : List Piece). HasRead pieces (came ++ bytes) l new.cutter) (sym at.none) (subst (λ (l : List ℕ). HasRead pieces l [] new.cutter) is_front read);
        format = λ more. ap (λ l. format_of (l ++ more)) (sym is_front) ∙ format_settled front more format unbegun;
      })

-- where a growth was not refused, the bytes came
grew : {A E X : Type 0} (r : Result A E) (b : Bool) (was now xs : List X) → now ≡ (if is_ok r then was ++ xs else was) → b ≡ is_err r → b ≡ false → now ≡ was ++ xs
grew (Ok x) b was now xs e f g = e
grew (Err y) b was now xs e f g = absurd (apart (sym g ∙ f))
  where
    apart : false ≡ true → ⊥
    apart h = cc

pub returns-clause-taken : goal.returns-clause-taken
returns-clause-taken c pieces came handed at =
    let first = c.if-not-self.false in
    let uncut = subst (λ (b : Bool). IsAnswered pieces came c.args.self.now handed b) first at in
    let front = c.extend_from_slice.new.self.items in
    let is_front = grew c.extend_from_slice.result c.is_err.result c.args.self.now.front.items front c.args.bytes.now c.extend_from_slice.ensures.items c.is_err.ensures.value c.if-is_err.false
    ∙ ap (λ l. l ++ c.args.bytes.now) uncut.front in
    let format = ap format_of (sym c.deref.ensures.value) ∙ sym c.format_of.ensures ∙ c.in_default.is in
    let unbegun = ap begins_mark (sym c.deref-2.ensures.value) ∙ sym c.begins_mark.ensures ∙ c.if-begins_mark.false in
    passed pieces came c.args.bytes.now front handed c.args.self.now c.pass_front.new.self is_front format unbegun c.pass_front.result uncut c.pass_front.ensures.is_first
    (c.pass_front.ensures.read pieces uncut.cutter) c.pass_front.ensures.fault

inner_no_device : (r : Result Unit SearchFault) → IfErr r (λ fault. is_inner_fault fault ≡ true) → IfErr r IsOfNoDevice
inner_no_device (Ok x) inner = tt
inner_no_device (Err fault) inner = by fault inner
  where
    by : (fault : SearchFault) → is_inner_fault fault ≡ true → IsOfNoDevice fault
    by faults.Size h = record { write = refl; report = refl; read = refl }
    by faults.Memory h = record { write = refl; report = refl; read = refl }
    by faults.Read h = absurd (cc)
    by faults.Write h = absurd (cc)
    by faults.Report h = absurd (cc)
    by faults.Framing h = absurd (cc)
    by (faults.Foreign format) h = absurd (cc)

pub returns-clause-fault : goal.returns-clause-fault
returns-clause-fault c = inner_no_device c.pass_front.result c.pass_front.ensures.fault
