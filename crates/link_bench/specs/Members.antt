-- The class that declares the member that an entry of a constant pool names.
use Rattle.std.specs.Prelude.{ℕ, List, Option, None, option_map}
use Rattle.jv_model.specs.ClassData.{Const, fieldref, methodref, interface_methodref}
use Rattle.jv_model.specs.ConstantPool.{const_at}
use Rattle.jv_model.specs.Operand.{MemberReference}
use Rattle.world_model.specs.World.{World, Field, Method}
use Rattle.world_model.specs.LookUp.{Found, find_field, find_method}
use Rattle.code_model.specs.Names.{member_at}

abbrev pub field_class : World → MemberReference → Option (List ℕ)
field_class world m = option_map (λ (f : Found Field). f.class) (find_field world m.class m.name m.descriptor)

abbrev pub method_class : World → MemberReference → Option (List ℕ)
method_class world m = option_map (λ (f : Found Method). f.class) (find_method world m.class m.name m.descriptor)

-- of a reference to that entry, and none of other entries
abbrev pub declaring_of : World → MemberReference → Const → Option (List ℕ)
declaring_of world m (fieldref owner pair) = field_class world m
declaring_of world m (methodref owner pair) = method_class world m
declaring_of world m (interface_methodref owner pair) = method_class world m
declaring_of world m other = None

abbrev pub declaring_at : World → List Const → ℕ → Option (List ℕ)
declaring_at world pool index = declaring_of world (member_at pool index) (const_at pool index)
