-- What the classes of a linked world are, and methods that are found in them.
use Rattle.std.proofs.Common.{◌≡◌, ℕ, Bool, true, false, List, [], ◌∷◌, Option, Some, refl, sym, ap, subst, ◌∙◌, inl}
use Rattle.std.specs.Prelude.{◌==◌, not, bytes_eq, option_and_then}
use Rattle.std.specs.List.{AllByRecursion, list_all}
use Rattle.std.proofs.lemmas.Bool.{and_parts, eqb-true, not-true}
use Rattle.jv_model.specs.Partial.{◌>>=◌}
use Rattle.jv_model.specs.Refusal.{reserved}
use Rattle.jv_model.specs.Operand.{Operand, MemberReference, is_array_name}
use Rattle.jv_model.specs.Code.{Body}
use Rattle.jv_model.specs.Descriptors.{MethodType}
use Rattle.jv_model.specs.LoadedClass.{LoadedClass}
use Rattle.world_model.specs.World.{Method, Class, World, class_in, declared_method}
use Rattle.world_model.specs.BootNames.{is_reserved}
use Rattle.world_model.specs.BootTable.{boot_table}
use Rattle.world_model.specs.LookUp.{Found}
use Rattle.world_model.specs.Layout.{declared}
use Rattle.code_model.specs.TypeReading.{method_type_of}
use Rattle.link_model.specs.WorldOf.{class_of, world_of}
use Rattle.link_model.specs.DescriptorFaults.{is_supported, is_method_descriptor, are_supported}
use Rattle.link_laws.proofs.Lists.{all_weaker, passes_some}
use Rattle.link_laws.proofs.Names.{same_text}
use Rattle.link_laws.proofs.Passes.{fault_if_none}
use Rattle.typing_model.specs.Environment.{environment_of}
use Rattle.machine_laws.specs.Runnable.{CallUse, HasEnvironment}
use Rattle.linked_laws.specs.Worlds.{IsLinkedWorld}
use Rattle.linked_laws.proofs.Classes.{IsOfProgram, is_linked, class_found, found_named}
use Rattle.linked_laws.proofs.Lists.{all_at, all_from, all_pass, found_holds}
use Rattle.linked_world_laws.proofs.Described.{IsDescribed, boot_are_described, program_described, all_have_values}
use Rattle.linked_world_laws.proofs.MethodKinds.{WithoutCode, boot_without_code, program_methods}

-- ---- classes

-- What each class is.
pub record IsFound (world : World) (class : Class) : Type 0 where
  pub described : IsDescribed class
  pub whole : AllByRecursion (WithoutCode world class) class.methods
  pub plain_name : is_array_name class.name ≡ false

-- a name that isn't kept isn't that of an array
free_name : (name : List ℕ) → is_reserved name ≡ false → is_array_name name ≡ false
free_name [] free = refl
free_name (unit ∷ name) free = by (unit == 0x5B) refl
  where
    by : (b : Bool) → (unit == 0x5B) ≡ b → (unit == 0x5B) ≡ false
    by false is = is
    by true is = absurd (let fails = subst (λ (u : ℕ). is_reserved (u ∷ name) ≡ false) (eqb-true unit 0x5B is) free in cc)

boot_names : list_all (λ (c : Class). not (is_array_name c.name)) boot_table ≡ true
unfolding boot_table
boot_names = refl

boot_found : (classes : List LoadedClass) → AllByRecursion (IsFound (world_of boot_table classes)) boot_table
boot_found classes =
    all_from (IsFound (world_of boot_table classes)) boot_table (λ k c at. record {
      described = all_at IsDescribed boot_table k c boot_are_described at;
      whole = all_at _ boot_table k c (boot_without_code classes) at;
      plain_name = not-true (is_array_name c.name) (all_at _ boot_table k c (all_pass (λ (x : Class). not (is_array_name x.name)) boot_table boot_names) at);
    })

program_found : (world : World) (l : LoadedClass) → IsOfProgram world l → IsFound world (class_of l)
program_found world l is = record {
  described = program_described l is.descriptors;
  whole = all_weaker _ (WithoutCode world (class_of l)) (class_of l).methods (λ m its none. inl (its.without_code none)) (program_methods l is.read is.methods);
  plain_name = free_name (class_of l).name (fault_if_none (is_reserved (class_of l).name) (reserved (class_of l).name) is.reserved);
}

environment_by : (world : World) (class : Class) (method : Method) (body : Body Operand) (type : MethodType) → method.code ≡ Some body
    → method_type_of method.descriptor ≡ Some type
    → environment_of world class method ≡ Some (record { world = world; class = class; method = method; type = type; body = body })
environment_by world class method body type code is =
    ap (λ (o : Option (Body Operand)). o >>= λ b. method_type_of method.descriptor >>= λ t.
    Some (record { world = world; class = class; method = method; type = t; body = b })) code
    ∙ ap (λ (o : Option MethodType). o >>= λ t. Some (record { world = world; class = class; method = method; type = t; body = body })) is

module _ (world : World) (linked : IsLinkedWorld world) where
  pub found_is : (name : List ℕ) (class : Class) → class_in world name ≡ Some class → IsFound world class
  found_is name class is =
      (class_found world linked (IsFound world)
      (subst (λ (w : World). AllByRecursion (IsFound w) boot_table) (sym (is_linked world linked).is) (boot_found linked.classes))
      (program_found world) name class is).1

  -- ---- methods

  -- the code of a method has an environment
  pub has_environment : (found : Found Method) (class : Class) → class_in world found.class ≡ Some class
      → declared_method found.member.name found.member.descriptor class ≡ Some found.member → HasEnvironment world found
  has_environment found class there declared body code =
      let its = found_holds (λ (x : Method). is_method_descriptor x.descriptor ≡ true) _ class.methods found.member (found_is found.class class there).described.methods declared in
      let type = passes_some are_supported (method_type_of found.member.descriptor) its.1 in
      let made : environment_of world class found.member ≡ Some (record { world = world; class = class; method = found.member; type = type.0; body = body }) = environment_by world class found.member body type.0 code type.1 in (
        record { world = world; class = class; method = found.member; type = type.0; body = body },
        ap (option_and_then (λ (c : Class). option_and_then (environment_of world c) (declared_method found.member.name found.member.descriptor c))) there
            ∙ ap (option_and_then (environment_of world class)) declared ∙ made,
        refl,
        refl,
        found_named world found.class class there,
      )

  -- a method that is called has a type of which the verifier has the parameters
  pub call_use : (m : MemberReference) (name : List ℕ) (class : Class) (method : Method) → class_in world name ≡ Some class
      → declared_method m.name m.descriptor class ≡ Some method → CallUse m
  call_use m name class method there declared =
      let found = found_holds (λ (x : Method). is_method_descriptor x.descriptor ≡ true) _ class.methods method (found_is name class there).described.methods declared in
      let same = same_text method.descriptor m.descriptor (and_parts (bytes_eq method.name m.name) (bytes_eq method.descriptor m.descriptor) found.0).1 in
      let type = passes_some are_supported (method_type_of m.descriptor) (ap is_method_descriptor (sym same) ∙ found.1) in
      record {
        type = type.0;
        is_type = type.1;
        has_values = all_have_values type.0.parameters (and_parts (list_all is_supported type.0.parameters) _ type.2).0;
      }
