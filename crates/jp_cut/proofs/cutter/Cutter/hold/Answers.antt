use Rattle.std.proofs.Common.{arith, ◌≡◌, ◌++◌, Result, Ok, Err, List, refl, is_ok}
use Rattle.std.specs.Prelude.{OnOk, OnErr, if◌then◌else◌}
use Rattle.jp_cut.proofs.Reading.{read_more, read_none}
use Rattle.jp_cut.proofs.cutter.Cutter.hold.Goals as goal

where_ok : {T E X : Type 0} (r : Result T E) (old more new : List X) (P : Type 0) → new ≡ (if is_ok r then old ++ more else old) → (new ≡ old ++ more → P) → OnOk r P
where_ok (Ok x) old more new P e p = p e
where_ok (Err x) old more new P e p = tt

where_err : {T E X : Type 0} (r : Result T E) (old more new : List X) (P : Type 0) → new ≡ (if is_ok r then old ++ more else old) → (new ≡ old → P) → OnErr r P
where_err (Ok x) old more new P e p = tt
where_err (Err x) old more new P e p = p e

pub returns-clause-read : goal.returns-clause-read
returns-clause-read c pieces stream handed h =
    let l = c.let_go.ensures in
    where_ok c.extend_from_slice.result c.let_go.new.self.held.items c.args.bytes.now c.extend_from_slice.new.self.items _ c.extend_from_slice.ensures.items
    (λ e. read_more pieces stream c.args.bytes.now handed c.args.self.now c.let_go.new.self _ h l.is_front l.front (λ fed. l.cut pieces fed handed) e refl refl refl refl refl refl)

pub returns-clause-err : goal.returns-clause-err
returns-clause-err c pieces stream handed h =
    let l = c.let_go.ensures in
    where_err c.extend_from_slice.result c.let_go.new.self.held.items c.args.bytes.now c.extend_from_slice.new.self.items _ c.extend_from_slice.ensures.items
    (λ e. read_none pieces stream handed c.args.self.now c.let_go.new.self _ h l.is_front l.front (λ fed. l.cut pieces fed handed) e refl refl refl refl refl refl)

pub returns-clause-all : goal.returns-clause-all
returns-clause-all c = omega (arith, c.let_go.ensures.start)
