-- Faults as the definitions see them, and which of several is told.
use Rattle.std.specs.Prelude.{Option, Some, None, option_map}
use Rattle.jv_types.specs.Refusal.{line_kind_of}
use Rattle.text_model.specs.LineFaults.{Fault, least_of}
use Rattle.asm_parts.specs.declared.first_fault.LineFault.{LineFault}
use Rattle.asm_parts.specs.declared.first_fault.FirstFault.{FirstFault}

abbrev pub fault_of : LineFault → Fault
fault_of fault = (fault.line, line_kind_of fault.kind)

-- the first of the faults that were noted
abbrev pub told_by : FirstFault → Option Fault
told_by first = option_map fault_of first.told

-- the one that is told of two, where there are any
abbrev pub either : Option Fault → Option Fault → Option Fault
either None other = other
either (Some fault) other = Some (least_of fault other)
