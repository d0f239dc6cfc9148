use Rattle.std.proofs.Common.{◌≡◌, ◌+◌, ◌==◌, drop}
use Rattle.std.specs.List.{list_any}
use Rattle.jv_types.specs.declared.number.ClassNo.{ClassNo}
use Rattle.class_world.proofs.search.is_among.Given as goal

-- it's none of those so far, and each was a step
abbrev pub invariant-loop-other : goal.invariant-loop-other
invariant-loop-other g l = record {
  searched : list_any (λ (c : ClassNo). l.class.0 == c.0) (drop l.other-index l.order) ≡ list_any (λ (c : ClassNo). l.class.0 == c.0) l.order;
  counted : l.steps ≡ l.fn.steps + l.other-index;
}
