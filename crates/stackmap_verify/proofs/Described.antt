-- A method that was read, as an environment of the definitions.
use Rattle.std.proofs.Common.{◌≡◌, Bool, length, ℕ, true, List, Option, Some, None, get_or, option_map, option_and_then, ap, sym, ◌∙◌, refl}
use Rattle.std.specs.List.{All}
use Rattle.std.specs.Option.{IfSome}
use Rattle.jv_model.specs.ClassData.{Const}
use Rattle.jv_model.specs.ConstantPool.{units_at}
use Rattle.jv_model.specs.Partial.{passes}
use Rattle.jv_model.specs.Code.{Body, Placed}
use Rattle.jv_model.specs.Operand.{Operand}
use Rattle.world_model.specs.World.{World, Class, class_in}
use Rattle.code_model.specs.TypeReading.{method_type_of}
use Rattle.code_model.specs.Names.{named, named_placed, named_frame}
use Rattle.link_model.specs.UseFaults.{is_class_where, are_types_there}
use Rattle.link_model.specs.WorldOf.{class_of}
use Rattle.typing_model.specs.VerificationType.{type_of as model_type_of}
use Rattle.typing_model.specs.Environment.{Environment, environment_of}
use Rattle.typing_model.specs.FailingPlace.{failing_place, first_place, visits}
use Rattle.typing_model.specs.WellTyped.{IsTypingTo, IsTyping}
use Rattle.linked_laws.specs.Code.{InstructionIsLinked, FrameIsLinked}
use Rattle.jv_types.specs.ClassData.{pool_of}
use Rattle.jv_types.specs.Code.{body_of}
use Rattle.jv_types.specs.Loaded.{loaded_of}
use Rattle.jv_types.specs.declared.number.ClassNo.{ClassNo}
use Rattle.jv_types.specs.declared.class_data.Member.{Member}
use Rattle.jv_types.specs.declared.code.CodeBody.{CodeBody}
use Rattle.jv_types.specs.declared.loaded.Loaded.{Loaded}
use Rattle.class_world.specs.World.{number_of, name_at, IsInfo}
use Rattle.class_world.specs.declared.class_info.ClassInfo.{ClassInfo}
use Rattle.type_rules.specs.Types.{IsKnown}
use Rattle.type_rules.specs.Frames.{Types}
use Rattle.instruction_types.specs.declared.environment.Environment as numbered
use Rattle.instruction_types.specs.Environment.{IsEnvironment}
use Rattle.instruction_types.proofs.Found.{found-name, found-known}
use Rattle.member_types.proofs.LinkedTypes.{class-number}
use Rattle.numbered_types.specs.declared.method_types.MethodType.{MethodType}
use Rattle.map_frames.specs.Methods.{IsMethodType}
use Rattle.map_frames.specs.Linked.{HasLinkedEntries}
use Rattle.map_frames.proofs.LinkedFrames.{linked-entries}
use Rattle.stackmap_verify.specs.Codes.{IsLinkedCode, method_in}
use Rattle.stackmap_verify.specs.Passed.{frames_of, Keeps, Passes, PassesAs}
use Rattle.stackmap_verify.specs.declared.pass.Passed.{Passed}
use Rattle.stackmap_verify.specs.declared.pass.Passed.TheVariants.{Typed, Breaks}
use Rattle.stackmap_verify.specs.Environments.{Describes}
use Rattle.stackmap_verify.proofs.Sound.{all_of_mapped}

-- ---- the class above

above_known : (world : World) (superclass : Option (List ℕ)) (number : Option ClassNo) → number ≡ option_and_then (number_of world) superclass
    → IfSome number (IsKnown world)
above_known world None None is = tt
above_known world None (Some class) is = absurd cc
above_known world (Some name) None is = tt
above_known world (Some name) (Some class) is = found-known world name class (sym is)

above_named : (world : World) (superclass : Option (List ℕ)) (number : Option ClassNo) → number ≡ option_and_then (number_of world) superclass
    → IfSome superclass (λ (name : List ℕ). is_class_where world (λ (above : Class). true) name ≡ true)
    → superclass ≡ option_map (name_at world) number
above_named world None None is there = refl
above_named world None (Some class) is there = absurd cc
above_named world (Some name) None is there = absurd (let found = class-number world name there in let both = is ∙ found.1 in cc)
above_named world (Some name) (Some class) is there = ap Some (sym (found-name world name class (sym is)))

-- ---- the parts of named code

max_stack_named : (pool : List Const) (descriptor : List ℕ) (body : Body ℕ) → (named pool descriptor body).max_stack ≡ body.max_stack
unfolding named
max_stack_named pool descriptor body = refl

instructions_linked : (world : World) (pool : List Const) (descriptor : List ℕ) (body : Body ℕ)
    → All (λ (p : Placed Operand). InstructionIsLinked world p.instruction) (named pool descriptor body).instructions
    → All (λ (p : Placed ℕ). InstructionIsLinked world (named_placed pool p).instruction) body.instructions
unfolding named
instructions_linked world pool descriptor body all =
    all_of_mapped (λ (p : Placed Operand). InstructionIsLinked world p.instruction) (named_placed pool) body.instructions all

frames_linked : (world : World) (pool : List Const) (descriptor : List ℕ) (body : Body ℕ)
    → All (FrameIsLinked world) (named pool descriptor body).frames → All (HasLinkedEntries world pool) body.frames
unfolding named
frames_linked world pool descriptor body all k d inside =
    linked-entries world pool (method_type_of descriptor) (get_or body.frames k d)
    (all_of_mapped (FrameIsLinked world) (named_frame pool (method_type_of descriptor)) body.frames all k d inside)

module _ (world : World) (class : ClassInfo) (loaded : Loaded) (member : Member) (body : CodeBody)
    (info : IsInfo world (class_of (loaded_of loaded)) class) (linked : IsLinkedCode world loaded member body) where
  -- the types of its descriptor are there
  pub types_there : (descriptor : List ℕ) → descriptor ≡ units_at (pool_of loaded.file.pool.items) member.descriptor
      → passes (are_types_there world) (method_type_of descriptor) ≡ true
  types_there descriptor is =
      ap (λ (d : List ℕ). passes (are_types_there world) (method_type_of d)) is
      ∙ ap (passes (are_types_there world)) linked.is_type ∙ linked.types_there

  -- its class is there
  pub own_there : is_class_where world (λ (c : Class). true) class.name.items ≡ true
  own_there =
      ap (λ (n : List ℕ). passes (λ (c : Class). true) (class_in world n)) info.name
      ∙ ap (passes (λ (c : Class). true)) linked.class_found

  -- so is the class above it
  pub superclass_there : IfSome class.superclass (IsKnown world)
  superclass_there = above_known world (class_of (loaded_of loaded)).superclass class.superclass info.superclass

  pub instructions_there : All (λ (p : Placed ℕ). InstructionIsLinked world (named_placed (pool_of loaded.file.pool.items) p).instruction) body.instructions
  instructions_there =
      instructions_linked world (pool_of loaded.file.pool.items) (units_at (pool_of loaded.file.pool.items) member.descriptor) (body_of body) linked.instructions

  pub frames_there : All (HasLinkedEntries world (pool_of loaded.file.pool.items)) body.frames
  frames_there =
      frames_linked world (pool_of loaded.file.pool.items) (units_at (pool_of loaded.file.pool.items) member.descriptor) (body_of body) linked.frames

  module _ (types : MethodType) (spelled : IsMethodType world (units_at (pool_of loaded.file.pool.items) member.descriptor) types) where
    -- the environment of the definitions
    abbrev pub env : Environment
    env = record {
      world = world;
      class = class_of (loaded_of loaded);
      method = method_in loaded member (Some body);
      type = spelled.type;
      body = named (pool_of loaded.file.pool.items) (units_at (pool_of loaded.file.pool.items) member.descriptor) (body_of body);
    }

    is_env : environment_of world (class_of (loaded_of loaded)) (method_in loaded member (Some body)) ≡ Some env
    is_env = rw spelled.is_type refl

    -- the method fails where the pass over its code does
    fails_in : failing_place world (class_of (loaded_of loaded)) (method_in loaded member (Some body)) ≡ first_place env (visits env)
    fails_in = rw spelled.is_type refl

    -- what a pass says of its code it says of the method
    pub passes_as : (wanted : Bool) (passed : Passed) → Passes world env wanted passed
        → PassesAs world (class_of (loaded_of loaded)) (method_in loaded member (Some body)) wanted passed
    passes_as wanted (Typed kept) told = (fails_in ∙ told.0, by kept told.1)
      where
        by : (k : Option (List Types)) → Keeps wanted (λ frames. IsTypingTo env (length env.body.instructions) (frames_of world frames)) k
            → Keeps wanted (λ frames. IsTyping world (class_of (loaded_of loaded)) (method_in loaded member (Some body)) (frames_of world frames)) k
        by None none = none
        by (Some frames) typing = record { environment = env; is_environment = is_env; typing = typing }
    passes_as wanted (Breaks place) told = fails_in ∙ told

    -- what describes it by numbers is this environment
    pub described : (here : numbered.Environment)
        → Describes world class (units_at (pool_of loaded.file.pool.items) member.name) types.result body.max_stack here
        → IsEnvironment world here env
    described here is = record {
      world_is = refl;
      max_stack = max_stack_named (pool_of loaded.file.pool.items) (units_at (pool_of loaded.file.pool.items) member.descriptor) (body_of body) ∙ sym is.stack_is;
      class_name = sym (is.class_name ∙ info.name);
      superclass = above_named world (class_of (loaded_of loaded)).superclass here.superclass (is.superclass_is ∙ info.superclass) linked.superclass_there;
      constructor = sym is.constructor_is;
      result_is = sym (is.result_is ∙ ap (option_map model_type_of) spelled.result);
    }
