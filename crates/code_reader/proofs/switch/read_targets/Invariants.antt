use Rattle.std.proofs.Common.{◌≡◌, ◌-◌}
use Rattle.code_model.specs.OperandReading.{targets_at}
use Rattle.jv_model.specs.Input.{in_front}
use Rattle.code_reader.specs.Behind.{IsBehind}
use Rattle.code_reader.specs.Gives.{site_of}
use Rattle.code_reader.proofs.switch.read_targets.Given as goal

-- the targets so far, and those that are still to be read
abbrev pub invariant-loop : goal.invariant-loop
invariant-loop l = record {
  so_far : in_front l.targets.items
      (targets_at (site_of l.site) (l.count - l.counter) l.input)
      ≡ targets_at (site_of l.site) l.count l.fn.input;
  on : IsBehind l.fn.input l.input;
}
