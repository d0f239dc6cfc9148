use Rattle.class_methods.proofs.Rows.{adds_method}
use Rattle.class_methods.proofs.filling.add_method.Goals as goal

pub returns : goal.returns
returns c =
    adds_method _ _ c.args.row.now.items c.push.new.self.items _ c.in_ok-number.number c.in_ok-number.ensures c.in_ok-push.ensures.ok
