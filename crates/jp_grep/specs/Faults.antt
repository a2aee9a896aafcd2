-- What a fault of a search says.
use Rattle.std.specs.Prelude.{◌≡◌, Bool, true, false, Result, Ok, Err, MatchResult}
use Rattle.jp_grep.specs.declared.fault.SearchFault.{SearchFault}
use Rattle.jp_grep.specs.declared.fault.SearchFault.TheVariants as faults
use Rattle.jp_grep.specs.declared.found.Limit.{Limit}
use Rattle.jp_grep.specs.declared.found.Limit.TheVariants as limits

-- the fault that says that rows were not written
abbrev pub is_write_fault : SearchFault → Bool
is_write_fault faults.Write = true
is_write_fault _ = false

-- the fault that says that a message was not written
abbrev pub is_report_fault : SearchFault → Bool
is_report_fault faults.Report = true
is_report_fault _ = false

-- the fault that says that a read failed
abbrev pub is_read_fault : SearchFault → Bool
is_read_fault faults.Read = true
is_read_fault _ = false

-- a fault of what is read, and not of what is written
abbrev pub is_input_fault : SearchFault → Bool
is_input_fault faults.Read = true
is_input_fault faults.Framing = true
is_input_fault (faults.Foreign format) = true
is_input_fault _ = false

-- `told` is true exactly where the fault is of this kind, and so never at Ok
abbrev pub IsToldOf : {A : Type 0} → (SearchFault → Bool) → Result A SearchFault → Bool → Type 0
IsToldOf is result told = MatchResult result (λ _. told ≡ false) (λ fault. told ≡ is fault)

-- a fault of the search itself: a size or a growth
abbrev pub is_inner_fault : SearchFault → Bool
is_inner_fault faults.Size = true
is_inner_fault faults.Memory = true
is_inner_fault _ = false

-- the limit that it tells
abbrev pub limit_of : SearchFault → Limit
limit_of faults.Size = limits.Size
limit_of _ = limits.Memory

-- rows that were not written
abbrev pub write_of : {E : Type 0} → Result Unit E → Result Unit SearchFault
write_of (Ok done) = Ok done
write_of (Err fault) = Err faults.Write

-- a message that was not written
abbrev pub report_of : {E : Type 0} → Result Unit E → Result Unit SearchFault
report_of (Ok done) = Ok done
report_of (Err fault) = Err faults.Report

-- a fault of a writer
abbrev pub is_writer_fault : SearchFault → Bool
is_writer_fault faults.Write = true
is_writer_fault faults.Report = true
is_writer_fault _ = false

-- no fault of a device
pub record IsOfNoDevice (fault : SearchFault) : Type 0 where
  pub write : is_write_fault fault ≡ false
  pub report : is_report_fault fault ≡ false
  pub read : is_read_fault fault ≡ false

-- a fault by which a stream is refused as a whole: it is not framed, or data of another format
abbrev pub is_front_fault : SearchFault → Bool
is_front_fault faults.Framing = true
is_front_fault (faults.Foreign format) = true
is_front_fault _ = false
