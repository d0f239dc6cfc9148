use Rattle.std.proofs.Common.{OnOk, List, map, ap, sym, subst, ◌∙◌}
use Rattle.jv_types.specs.ClassData.{pool_of}
use Rattle.class_world.specs.Signatures.{Pair, boot_method_pair, member_pair, method_pairs}
use Rattle.class_methods.specs.Filling.{AddsMethods}
use Rattle.class_methods.proofs.filling.add_methods.Goals as goal

pub returns-in-Boot : goal.returns-in-Boot
returns-in-Boot c =
    subst (λ (l : List Pair). OnOk c.add_boot.result
    (AddsMethods c.args.filling.now c.add_boot.new.filling c.args.row.now.items c.add_boot.new.row.items l))
    (ap (map boot_method_pair) c.as_slice.ensures ∙ ap method_pairs (sym c.in-Boot.is)) c.add_boot.ensures

pub returns-in-Program : goal.returns-in-Program
returns-in-Program c =
    subst (λ (l : List Pair). OnOk c.add_read.result
    (AddsMethods c.args.filling.now c.add_read.new.filling c.args.row.now.items c.add_read.new.row.items l))
    ((λ i. map (member_pair (pool_of (c.as_slice-in-Program.ensures i))) (c.as_slice-in-Program-2.ensures i)) ∙ ap method_pairs (sym c.in-Program.is)) c.add_read.ensures
