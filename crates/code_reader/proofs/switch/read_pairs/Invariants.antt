use Rattle.std.proofs.Common.{◌≡◌, ◌-◌, None, option_map}
use Rattle.code_model.specs.OperandReading.{pairs_at}
use Rattle.jv_types.specs.Instruction.{pairs_of}
use Rattle.jv_model.specs.Input.{in_front}
use Rattle.code_reader.specs.Switch.{key_of}
use Rattle.code_reader.specs.Behind.{IsBehind}
use Rattle.code_reader.specs.Gives.{site_of}
use Rattle.code_reader.proofs.switch.read_pairs.Given as goal

-- the pairs so far, and those that are still to be read
abbrev pub invariant-loop : goal.invariant-loop
invariant-loop l = record {
  so_far : in_front (pairs_of l.pairs.items)
      (pairs_at (site_of l.site) (option_map key_of l.before) (l.count - l.counter) l.input)
      ≡ pairs_at (site_of l.site) None l.count l.fn.input;
  on : IsBehind l.fn.input l.input;
}
