use Rattle.std.proofs.Common.{length, drop, sym, ap, ◌∙◌, arith}
use Rattle.std.proofs.lemmas.List.{drop-drop, length-drop}
use Rattle.frame_stacks.proofs.starts.Starts.take.Goals as goal

pub overflow_add-self : goal.overflow_add-self
overflow_add-self c =
    omega (arith, c.requires, ap length c.self.view_is, length-drop c.self.inside.taken c.self.inside.all.items, c.self.invariant.0)

pub returns : goal.returns
returns c = sym (drop-drop 1 c.self.inside.taken c.self.inside.all.items) ∙ ap (drop 1) c.self.view_is
