-- What an entry of a constant pool leads to in a world (JVMS 5.1, 5.4.3).
use Rattle.std.specs.Prelude.{ℕ, List, [], Option, Some, None, length, option_map, option_and_then, slice_get}
use Rattle.jv_model.specs.ClassData.{Const, class, string, fieldref, methodref, interface_methodref}
use Rattle.jv_model.specs.ConstantPool.{const_at, units_at}
use Rattle.jv_model.specs.LoadedClass.{LoadedClass}
use Rattle.jv_model.specs.Operand.{MemberReference}
use Rattle.code_model.specs.Names.{member_at}
use Rattle.world_model.specs.World.{Class, Field, Method, World, class_in}
use Rattle.world_model.specs.Supertypes.{field_order, method_order}
use Rattle.world_model.specs.LookUp.{Found, find_field, find_method}
use Rattle.world_model.specs.Resolution.{class_with_methods}
use Rattle.jv_types.specs.declared.number.ClassNo.{ClassNo}

pub data Target : Type 0 where
  -- the class of that name
  a_class : List ℕ → Target
  a_field : Found Field → Target
  a_method : Found Method → Target
  -- the String of these units
  a_literal : List ℕ → Target

-- ---- what a name leads to

-- the class, where it's there
abbrev pub class_target : World → List ℕ → Option Target
class_target world name = option_map (λ (c : Class). a_class name) (class_in world name)

-- the member, where its class has it
abbrev pub field_target : World → MemberReference → Option Target
field_target world member = option_map a_field (find_field world member.class member.name member.descriptor)

-- an array type has the methods of java/lang/Object
abbrev pub method_target : World → MemberReference → Option Target
method_target world member =
    option_map a_method (find_method world (class_with_methods member.class) member.name member.descriptor)

-- what the name at an index of a pool leads to
abbrev pub named_by : World → List Const → ℕ → Const → Option Target
named_by world pool index (class name) = class_target world (units_at pool name)
named_by world pool index (fieldref owner pair) = field_target world (member_at pool index)
named_by world pool index (methodref owner pair) = method_target world (member_at pool index)
named_by world pool index (interface_methodref owner pair) = method_target world (member_at pool index)
named_by world pool index other = None

abbrev pub named_target : World → List Const → ℕ → Option Target
named_target world pool index = named_by world pool index (const_at pool index)

-- and what its entry leads to, which may be a String
abbrev pub target_by : World → List Const → ℕ → Const → Option Target
target_by world pool index (string text) = Some (a_literal (units_at pool text))
target_by world pool index other = named_by world pool index other

abbrev pub target_of : World → List Const → ℕ → Option Target
target_of world pool index = target_by world pool index (const_at pool index)

-- ---- the pools of a world

-- A boot class has none.
abbrev pub pool_in : Option LoadedClass → List Const
pool_in None = []
pool_in (Some loaded) = loaded.file.pool

abbrev pub pool_at : World → ClassNo → List Const
pool_at world number = pool_in (option_and_then (λ (c : Class). c.loaded) (slice_get world.classes number.0))

-- what the entry at an index of the pool of a class leads to
abbrev pub target_at : World → ClassNo → ℕ → Option Target
target_at world number index = target_of world (pool_at world number) index

-- ---- steps

abbrev pub steps_by : World → List Const → ℕ → Const → ℕ
steps_by world pool index (fieldref owner pair) = length (field_order world (member_at pool index).class)
steps_by world pool index (methodref owner pair) =
    length (method_order world (class_with_methods (member_at pool index).class))
steps_by world pool index (interface_methodref owner pair) =
    length (method_order world (class_with_methods (member_at pool index).class))
steps_by world pool index other = 0

-- as many as the named class has supertypes, itself included; a class is found without one
abbrev pub most_steps : World → List Const → ℕ → ℕ
most_steps world pool index = steps_by world pool index (const_at pool index)
