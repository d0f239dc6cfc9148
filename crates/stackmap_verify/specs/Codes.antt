-- Methods of a class that was read.
use Rattle.std.specs.Prelude.{◌≡◌, ℕ, Option, Some, slice_get}
use Rattle.code_model.specs.Names.{named}
use Rattle.jv_model.specs.ConstantPool.{units_at}
use Rattle.jv_model.specs.Refusal.{Cause, not_verified}
use Rattle.world_model.specs.World.{World, Method}
use Rattle.link_model.specs.WorldOf.{class_of, method_of}
use Rattle.linked_laws.specs.Code.{CodeIsLinked}
use Rattle.jv_types.specs.ClassData.{member_of, pool_of}
use Rattle.jv_types.specs.Code.{body_of}
use Rattle.jv_types.specs.Loaded.{loaded_of, code_of}
use Rattle.jv_types.specs.Refusal.{rule_of}
use Rattle.class_world.specs.World.{IsInfo}
use Rattle.class_world.specs.declared.class_info.ClassInfo.{ClassInfo}
use Rattle.stackmap_verify.specs.declared.failure.Place.{Place}
use Rattle.jv_types.specs.declared.class_data.Member.{Member}
use Rattle.jv_types.specs.declared.code.CodeBody.{CodeBody}
use Rattle.jv_types.specs.declared.loaded.Loaded.{Loaded}

-- the method that a member is, with that code
abbrev pub method_in : Loaded → Member → Option CodeBody → Method
method_in loaded member code = method_of (pool_of loaded.file.pool.items) (member_of member) (code_of code)

-- all that its code names is there
abbrev pub IsLinkedCode : World → Loaded → Member → CodeBody → Type 0
IsLinkedCode world loaded member body =
    CodeIsLinked world (class_of (loaded_of loaded)) (method_in loaded member (Some body))
    (named (pool_of loaded.file.pool.items) (units_at (pool_of loaded.file.pool.items) member.descriptor) (body_of body))

-- The class with some number was read so, and these are its numbers.
pub record HoldsClass (world : World) (loaded : Loaded) (class : ClassInfo) : Type 0 where
  pub number : ℕ
  pub at : slice_get world.classes number ≡ Some (class_of (loaded_of loaded))
  pub info : IsInfo world (class_of (loaded_of loaded)) class

-- what is told of a method that fails at a place
abbrev pub told_of : ClassInfo → Loaded → Member → Place → Cause
told_of class loaded member place =
    not_verified class.name.items (units_at (pool_of loaded.file.pool.items) member.name)
    (units_at (pool_of loaded.file.pool.items) member.descriptor) place.pc (rule_of place.rule)
