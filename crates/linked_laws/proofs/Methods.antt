-- The code of a method of a linked world: all that it names is there.
use Rattle.std.proofs.Common.{◌≡◌, ℕ, zero, suc, Bool, true, List, [], ◌∷◌, ◌++◌, Option, Some, None, refl, sym, ap, subst, ◌∙◌}
use Rattle.std.specs.Prelude.{IsTrue, slice_get, option_to_list, option_map, flat_map, is_none}
use Rattle.std.specs.List.{AllByRecursion, list_all}
use Rattle.std.proofs.lemmas.List.Elements.{All-from_recursion}
use Rattle.jv_model.specs.Partial.{passes}
use Rattle.jv_model.specs.ClassData.{Const, Member}
use Rattle.jv_model.specs.ConstantPool.{units_at}
use Rattle.jv_model.specs.Descriptors.{MethodType}
use Rattle.jv_model.specs.Operand.{Operand}
use Rattle.jv_model.specs.Code.{Placed, Body}
use Rattle.jv_model.specs.LoadedClass.{LoadedClass}
use Rattle.world_model.specs.World.{Method, Class, World, class_in, declared_method}
use Rattle.world_model.specs.BootTable.{boot_table}
use Rattle.code_model.specs.Laws.{IsFieldType}
use Rattle.code_model.specs.TypeReading.{method_type_of}
use Rattle.code_model.specs.Names.{class_name_at, named, named_placed, named_handler, named_frame}
use Rattle.code_laws.proofs.MethodDescriptors.{one_method_descriptor}
use Rattle.link_model.specs.WorldOf.{class_of, method_of, methods_of}
use Rattle.link_model.specs.Uses.{Used, instruction_uses, handler_uses, frame_uses, code_uses, uses_of}
use Rattle.link_model.specs.UseFaults.{is_class_where, fits_superclass, are_types_there, resolves}
use Rattle.link_laws.proofs.LinkedWorlds.{code_in}
use Rattle.link_laws.proofs.Lists.{all_left, all_right, all_weaker, passes_some, some_passes}
use Rattle.link_laws.proofs.UsedMembers.{all_of_flat}
use Rattle.linked_laws.specs.Code.{InstructionIsLinked, HandlerIsLinked, FrameIsLinked, CodeIsLinked}
use Rattle.linked_laws.specs.Laws.{CodesAreLinked}
use Rattle.linked_laws.specs.Worlds.{IsLinkedWorld}
use Rattle.linked_laws.proofs.Classes.{IsOfProgram, class_at, class_found}
use Rattle.linked_laws.proofs.Instructions.{instruction_linked}
use Rattle.linked_laws.proofs.Lists.{all_at, all_from, all_pass, all_to_map, found_holds}
use Rattle.linked_laws.proofs.Maps.{frame_linked, handler_linked}
use Rattle.linked_laws.proofs.Types.{program_types}

-- ---- methods with code

-- A method with code: what was read of its class file's member.
pub record IsRead (pool : List Const) (codes : List (Option (Body ℕ))) (k : ℕ) (method : Method) (body : Body Operand) : Type 0 where
  pub raw : Body ℕ
  pub is_raw : slice_get codes k ≡ Some (Some raw)
  pub is_body : named pool method.descriptor raw ≡ body

pub method_read : (pool : List Const) (members : List Member) (codes : List (Option (Body ℕ))) (k : ℕ) (method : Method) (body : Body Operand)
    → slice_get (methods_of pool members codes) k ≡ Some method → method.code ≡ Some body → IsRead pool codes k method body
unfolding methods_of
method_read pool [] codes k method body at code = absurd cc
method_read pool (m ∷ members) [] zero method body at code =
    absurd (let none : None ≡ method.code = cc in let fails = none ∙ code in cc)
method_read pool (m ∷ members) [] (suc k) method body at code =
    absurd (let read = method_read pool members [] k method body at code in let none = read.is_raw in cc)
method_read pool (m ∷ members) (first ∷ codes) zero method body at code =
    let same : method_of pool m first ≡ method = cc in by first (λ i. (same i).descriptor) (λ i. (same i).code)
  where
    by : (o : Option (Body ℕ)) → units_at pool m.descriptor ≡ method.descriptor → option_map (named pool (units_at pool m.descriptor)) o ≡ method.code
        → IsRead pool (o ∷ codes) zero method body
    by None descriptor is = absurd (let fails = is ∙ code in cc)
    by (Some raw) descriptor is =
        let body_is : Some (named pool (units_at pool m.descriptor) raw) ≡ Some body = is ∙ code in
        let named_is : named pool (units_at pool m.descriptor) raw ≡ body = cc in
        record { raw = raw; is_raw = refl; is_body = ap (λ (d : List ℕ). named pool d raw) (sym descriptor) ∙ named_is }
method_read pool (m ∷ members) (first ∷ codes) (suc k) method body at code =
    let read = method_read pool members codes k method body at code in
    record { raw = read.raw; is_raw = read.is_raw; is_body = read.is_body }

-- ---- what its class uses

abbrev Resolves : World → LoadedClass → Used → Type 0
Resolves world loaded u = IsTrue (resolves world loaded.file u.index u.use_as)

-- the uses of a method's code
pub code_resolves : (world : World) (loaded : LoadedClass) (k : ℕ) (raw : Body ℕ) → AllByRecursion (Resolves world loaded) (uses_of loaded)
    → slice_get loaded.codes k ≡ Some (Some raw) → AllByRecursion (Resolves world loaded) (code_uses loaded.file.pool raw)
code_resolves world loaded k raw uses at =
    let each = all_of_flat (Resolves world loaded) (code_uses loaded.file.pool) (flat_map option_to_list loaded.codes) (code_in (Resolves world loaded) loaded uses) in
    (all_at _ loaded.codes k (Some raw) (all_of_flat (λ b. AllByRecursion (Resolves world loaded) (code_uses loaded.file.pool b)) option_to_list loaded.codes each) at).0

superclass_there : (world : World) (loaded : LoadedClass) → AllByRecursion (Resolves world loaded) (uses_of loaded)
    → is_class_where world (λ (c : Class). true) (class_name_at loaded.file.pool loaded.file.super_class) ≡ true
unfolding uses_of resolves
superclass_there world loaded uses =
    let name = class_name_at loaded.file.pool loaded.file.super_class in
    let found = passes_some (fits_superclass loaded.file) (class_in world name) uses.0 in
    some_passes (λ (c : Class). true) (class_in world name) found.0 found.1 refl

-- ---- linked code

-- the parameters of a method's type are types
parameters_are : (descriptor : List ℕ) (type : MethodType) → method_type_of descriptor ≡ Some type → AllByRecursion IsFieldType type.parameters
parameters_are descriptor type is = ((one_method_descriptor descriptor type).0 is).1.0

-- a type that is there
pub method_type : (world : World) (method : Option MethodType) → passes (are_types_there world) method ≡ true
    → (type : MethodType) × (method ≡ Some type) × (are_types_there world type ≡ true)
method_type world method there = passes_some (are_types_there world) method there

module _ (world : World) (linked : IsLinkedWorld world) where
  code_linked : (loaded : LoadedClass) → IsOfProgram world loaded → (method : Method) → passes (are_types_there world) (method_type_of method.descriptor) ≡ true
      → (k : ℕ) (raw : Body ℕ) → slice_get loaded.codes k ≡ Some (Some raw)
      → CodeIsLinked world (class_of loaded) method (named loaded.file.pool method.descriptor raw)
  unfolding named
  code_linked loaded is method there k raw at =
      let pool = loaded.file.pool in
      let type = method_type world (method_type_of method.descriptor) there in
      let are = parameters_are method.descriptor in
      let uses = code_resolves world loaded k raw is.uses at in
      let instructions = flat_map (λ (p : Placed ℕ). instruction_uses pool p.instruction) raw.instructions in
      let handlers = flat_map handler_uses raw.handlers in
      let frames = flat_map frame_uses raw.frames in
      let before = all_left (Resolves world loaded) (instructions ++ handlers) frames uses in
      record {
        class_found = is.found;
        superclass_there = superclass_there world loaded is.uses;
        type = type.0;
        is_type = type.1;
        types_there = type.2;
        instructions = All-from_recursion _ _
            (all_to_map (λ (p : Placed Operand). InstructionIsLinked world p.instruction) (named_placed pool) raw.instructions
            (all_weaker _ _ raw.instructions (λ (p : Placed ℕ) u. instruction_linked world linked loaded.file p.instruction u)
            (all_of_flat (Resolves world loaded) (λ (p : Placed ℕ). instruction_uses pool p.instruction) raw.instructions
            (all_left (Resolves world loaded) instructions handlers before))));
        handlers = All-from_recursion _ _
            (all_to_map (HandlerIsLinked world) (named_handler pool) raw.handlers
            (all_weaker _ _ raw.handlers (handler_linked world linked loaded.file (method_type_of method.descriptor) there are)
            (all_of_flat (Resolves world loaded) handler_uses raw.handlers
            (all_right (Resolves world loaded) instructions handlers before))));
        frames = All-from_recursion _ _
            (all_to_map (FrameIsLinked world) (named_frame pool (method_type_of method.descriptor)) raw.frames
            (all_weaker _ _ raw.frames (frame_linked world linked loaded.file (method_type_of method.descriptor) there are)
            (all_of_flat (Resolves world loaded) frame_uses raw.frames
            (all_right (Resolves world loaded) (instructions ++ handlers) frames uses))));
      }

-- a boot class has no code
abbrev has_no_code : Class → Bool
has_no_code class = list_all (λ (m : Method). is_none m.code) class.methods

boot_code : list_all has_no_code boot_table ≡ true
unfolding boot_table
boot_code = refl

not_code : (class : Class) → has_no_code class ≡ true → (k : ℕ) (method : Method) (body : Body Operand) → slice_get class.methods k ≡ Some method → method.code ≡ Some body → ⊥
not_code class none k method body at code =
    let is = all_at _ class.methods k method (all_pass (λ (m : Method). is_none m.code) class.methods none) at in
    let fails = sym (ap is_none code) ∙ is in cc

-- What holds of the code of each method of the program's classes holds of all code.
module _ (world : World) (linked : IsLinkedWorld world) (Q : Class → Method → Body Operand → Type 0)
    (each : (l : LoadedClass) → IsOfProgram world l → (k : ℕ) (method : Method) → slice_get (class_of l).methods k ≡ Some method
    → (raw : Body ℕ) → slice_get l.codes k ≡ Some (Some raw) → Q (class_of l) method (named l.file.pool method.descriptor raw)) where
  abbrev OfMethod : Class → Method → Type 0
  OfMethod class method = (body : Body Operand) → method.code ≡ Some body → Q class method body

  abbrev OfMethods : Class → Type 0
  OfMethods class = AllByRecursion (OfMethod class) class.methods

  of_boot : AllByRecursion OfMethods boot_table
  of_boot =
      all_weaker _ OfMethods boot_table
      (λ c none. all_from (OfMethod c) c.methods (λ k m at body code. absurd (not_code c none k m body at code)))
      (all_pass has_no_code boot_table boot_code)

  of_user : (l : LoadedClass) → IsOfProgram world l → OfMethods (class_of l)
  of_user l is =
      all_from (OfMethod (class_of l)) (class_of l).methods (λ k m at body code.
      (let read = method_read l.file.pool l.file.methods l.codes k m body at code in
      subst (Q (class_of l) m) read.is_body (each l is k m at read.raw read.is_raw)))

  -- by number, and by name
  pub method_at : (n k : ℕ) (class : Class) (method : Method) (body : Body Operand) → slice_get world.classes n ≡ Some class
      → slice_get class.methods k ≡ Some method → method.code ≡ Some body → Q class method body
  method_at n k class method body there at code =
      all_at (OfMethod class) class.methods k method (class_at world linked OfMethods of_boot of_user n class there) at body code

  pub method_declared : (name : List ℕ) (class : Class) (m descriptor : List ℕ) (method : Method) (body : Body Operand) → class_in world name ≡ Some class
      → declared_method m descriptor class ≡ Some method → method.code ≡ Some body → Q class method body
  method_declared name class m descriptor method body there declared code =
      (found_holds (OfMethod class) _ class.methods method (class_found world linked OfMethods of_boot of_user name class there).1 declared).1 body code

pub codes_are_linked : CodesAreLinked
codes_are_linked world linked =
    method_at world linked (CodeIsLinked world) (λ l is k method at raw read.
    code_linked world linked l is method
    (all_at _ (class_of l).methods k method (program_types world l is.uses).methods at) k raw read)
