-- Which environment of the definitions a `Method` is.
use Rattle.std.specs.Prelude.{◌≡◌, ℕ}
use Rattle.std.specs.List.{All}
use Rattle.jv_model.specs.Code.{Placed}
use Rattle.code_model.specs.Names.{named_placed}
use Rattle.jv_types.specs.ClassData.{pool_of}
use Rattle.typing_model.specs.Environment as model
use Rattle.typing_model.specs.DescriptorFrame.{has_room}
use Rattle.linked_laws.specs.Code.{InstructionIsLinked}
use Rattle.instruction_types.specs.Environment.{IsEnvironment, IsReady}
use Rattle.member_types.specs.Signatures.{AreKnownFields}
use Rattle.map_frames.specs.Methods.{HasMethodCode}
use Rattle.map_frames.specs.Linked.{HasLinkedEntries}
use Rattle.stackmap_verify.specs.FrameNumbers.{AreNumbers}
use Rattle.stackmap_verify.specs.declared.method.Method.{Method}

-- The environment by names is the method by numbers.
pub record IsMethod (method : Method) (e : model.Environment) : Type 0 where
  pub environment : IsEnvironment method.world.now method.here.now e
  pub code : HasMethodCode method.world.now method.code.now e
  pub room : has_room e ≡ method.has_room

-- The classes that it names are there, and the numbers are those of its frames.
pub record IsSound (method : Method) : Type 0 where
  pub ready : IsReady method.world.now method.here.now
  pub parameters : AreKnownFields method.world.now method.code.now.parameters.now
  pub instructions : All (λ (p : Placed ℕ). InstructionIsLinked method.world.now
      (named_placed (pool_of method.code.now.pool.now) p).instruction) method.code.now.body.now.instructions
  pub frames : All (HasLinkedEntries method.world.now (pool_of method.code.now.pool.now)) method.code.now.body.now.frames
  pub numbers : AreNumbers method.code.now.body.now.frames method.numbers.now
