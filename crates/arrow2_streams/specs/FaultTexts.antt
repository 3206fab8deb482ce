-- The text of a fault.
use Rattle.std.specs.Prelude.{ℕ, List, codes}
use Rattle.arrow2_streams.specs.declared.fault.ReplayFault.{ReplayFault}
use Rattle.arrow2_streams.specs.declared.fault.ReplayFault.TheVariants.{Read, Memory, Write}

-- the text of a fault, without a line end
abbrev pub fault_text : ReplayFault → List ℕ
fault_text Read = codes "read failed"
fault_text Memory = codes "out of memory"
fault_text Write = codes "write failed"
