-- What the code of a linked class refers to is there, and of the kind that its instruction wants.
use Rattle.std.proofs.Common.{◌≡◌, ℕ, Bool, true, false, cond, List, [], ◌∷◌, ◌++◌, Some, None, refl, ap, ◌∙◌, inl, inr}
use Rattle.std.specs.Prelude.{IsTrue, bytes_eq, not, ◌&&◌, ◌||◌, flat_map, option_to_list, option_and_then}
use Rattle.std.specs.Bool.{beq}
use Rattle.std.specs.List.{AllByRecursion}
use Rattle.std.proofs.lemmas.Bool.{and_parts, or_cases, not-true, both_ways}
use Rattle.jv_model.specs.Partial.{passes}
use Rattle.jv_model.specs.ClassData.{ClassData}
use Rattle.jv_model.specs.ConstantPool.{names, interface_methodref_tag}
use Rattle.jv_model.specs.Operand.{MemberReference, is_array_name}
use Rattle.jv_model.specs.Code.{Placed, Body}
use Rattle.jv_model.specs.LoadedClass.{LoadedClass}
use Rattle.world_model.specs.World.{Class, Field, Method, World, class_in, is_static_field, is_static_method, is_interface}
use Rattle.world_model.specs.BootNames.{is_constructor_name, java_object}
use Rattle.world_model.specs.LookUp.{Found, find_field, find_method}
use Rattle.world_model.specs.Resolution.{resolved_method, resolved_field, class_with_methods}
use Rattle.code_model.specs.Names.{member_at}
use Rattle.link_model.specs.Uses.{Used, as_field, as_method, instruction_uses, handler_uses, frame_uses, code_uses}
use Rattle.link_model.specs.UseFaults.{is_class_where, fits_field, fits_method, resolves_field, resolves_method, is_run_of_thread, resolves}
use Rattle.link_laws.specs.Linked.{UsesResolve}
use Rattle.link_laws.proofs.Names.{same_text}
use Rattle.link_laws.proofs.Lists.{all_left, all_right, all_weaker, passes_some}
use Rattle.link_laws.proofs.LinkedWorlds.{code_in}

-- ---- references

same_bool : (a b : Bool) → IsTrue (beq a b) → a ≡ b
same_bool true true h = refl
same_bool false false h = refl
same_bool true false h = absurd cc
same_bool false true h = absurd cc

-- a field that is found, static or not as wanted, and no field of an interface unless it's static
pub record FieldThere (world : World) (is_static : Bool) (reference : MemberReference) : Type 0 where
  pub found : Found Field
  pub is : find_field world reference.class reference.name reference.descriptor ≡ Some found
  pub kind : is_static_field found.member ≡ is_static
  pub owner : is_static ≡ false → is_class_where world is_interface found.class ≡ false

pub field_there : (world : World) (is_static : Bool) (reference : MemberReference) → IsTrue (resolves_field world is_static reference) → FieldThere world is_static reference
field_there world is_static reference h =
    let found = passes_some (fits_field world is_static) (find_field world reference.class reference.name reference.descriptor) h in
    let parts = and_parts (beq (is_static_field found.0.member) is_static) (is_static || not (is_class_where world is_interface found.0.class)) found.2 in
    record {
      found = found.0;
      is = found.1;
      kind = same_bool _ _ parts.0;
      owner = λ instance. elim (or_cases is_static (not (is_class_where world is_interface found.0.class)) parts.1) [
        | inl static ↦ absurd (both_ways is_static instance static)
        | inr no_interface ↦ not-true _ no_interface
      ];
    }

-- a method that is found, static or not as wanted, by a reference of its class's kind; a constructor of the class itself
pub record MethodThere (world : World) (of_interface is_static : Bool) (reference : MemberReference) : Type 0 where
  pub class : Class
  pub class_there : class_in world reference.class ≡ Some class
  pub class_kind : is_interface class ≡ of_interface
  pub found : Found Method
  pub is : find_method world reference.class reference.name reference.descriptor ≡ Some found
  pub kind : is_static_method found.member ≡ is_static
  pub own : IsTrue (is_constructor_name reference.name) → found.class ≡ reference.class

own_constructor : (test : Bool) (class name : List ℕ) → IsTrue (not test || bytes_eq class name) → IsTrue test → class ≡ name
own_constructor true class name h is = same_text class name h
own_constructor false class name h is = absurd cc

pub method_there : (world : World) (of_interface is_static : Bool) (reference : MemberReference) → IsTrue (resolves_method world of_interface is_static reference) → MethodThere world of_interface is_static reference
method_there world of_interface is_static reference h =
    let outer = and_parts (is_class_where world (λ class. beq (is_interface class) of_interface) reference.class && not (is_run_of_thread reference)) (passes (fits_method is_static reference) (find_method world reference.class reference.name reference.descriptor)) h in
    let inner = and_parts (is_class_where world (λ class. beq (is_interface class) of_interface) reference.class) (not (is_run_of_thread reference)) outer.0 in
    let class = passes_some (λ class. beq (is_interface class) of_interface) (class_in world reference.class) inner.0 in
    let found = passes_some (fits_method is_static reference) (find_method world reference.class reference.name reference.descriptor) outer.1 in
    let parts = and_parts (beq (is_static_method found.0.member) is_static) (not (is_constructor_name reference.name) || bytes_eq found.0.class reference.class) found.2 in
    record {
      class = class.0;
      class_there = class.1;
      class_kind = same_bool _ _ class.2;
      found = found.0;
      is = found.1;
      kind = same_bool _ _ parts.0;
      own = own_constructor (is_constructor_name reference.name) found.0.class reference.class parts.1;
    }

-- ---- what runs make of them

same_beq : (a b : Bool) → a ≡ b → IsTrue (beq a b)
same_beq true true e = refl
same_beq false false e = refl
same_beq true false e = absurd cc
same_beq false true e = absurd cc

pub field_resolved : (world : World) (is_static : Bool) (reference : MemberReference) → (there : FieldThere world is_static reference)
    → resolved_field is_static world reference ≡ Some (record { class = there.found.class; name = reference.name; descriptor = reference.descriptor })
field_resolved world is_static reference there =
    rw there.is (ap (λ (b : Bool). cond b (Some (record { class = there.found.class; name = reference.name; descriptor = reference.descriptor })) None) (same_beq _ _ there.kind))

pub method_resolved : (world : World) (of_interface is_static : Bool) (reference : MemberReference) → (there : MethodThere world of_interface is_static reference) → is_array_name reference.class ≡ false
    → resolved_method is_static world reference ≡ Some there.found
method_resolved world of_interface is_static reference there plain =
    let named : class_with_methods reference.class ≡ reference.class = ap (λ (b : Bool). cond b java_object reference.class) plain in
    ap (λ (name : List ℕ). option_and_then (λ (found : Found Method). cond (beq (is_static_method found.member) is_static) (Some found) None) (find_method world name reference.name reference.descriptor)) named
    ∙ ap (option_and_then (λ (found : Found Method). cond (beq (is_static_method found.member) is_static) (Some found) None)) there.is
    ∙ ap (λ (b : Bool). cond b (Some there.found) None) (same_beq _ _ there.kind)

-- ---- entries

pub field_entry_there : (world : World) (file : ClassData) (index : ℕ) (is_static : Bool) → IsTrue (resolves world file index (as_field is_static)) → FieldThere world is_static (member_at file.pool index)
unfolding resolves
field_entry_there world file index is_static h = field_there world is_static (member_at file.pool index) h

pub method_entry_there : (world : World) (file : ClassData) (index : ℕ) (is_static : Bool) → IsTrue (resolves world file index (as_method is_static))
    → MethodThere world (names file.pool interface_methodref_tag index) is_static (member_at file.pool index)
unfolding resolves
method_entry_there world file index is_static h = method_there world (names file.pool interface_methodref_tag index) is_static (member_at file.pool index) h

-- ---- the code of a class

pub all_of_flat : {A B : Type 0} (P : B → Type 0) (f : A → List B) (xs : List A) → AllByRecursion P (flat_map f xs) → AllByRecursion (λ x. AllByRecursion P (f x)) xs
all_of_flat P f [] all = tt
all_of_flat P f (x ∷ xs) all = (all_left P (f x) (flat_map f xs) all, all_of_flat P f xs (all_right P (f x) (flat_map f xs) all))

-- each instruction of each method names what it wants
pub instructions_resolve : (world : World) (loaded : LoadedClass) → UsesResolve world loaded
    → AllByRecursion (λ (body : Body ℕ). AllByRecursion (λ (p : Placed ℕ). AllByRecursion (λ (u : Used). IsTrue (resolves world loaded.file u.index u.use_as)) (instruction_uses loaded.file.pool p.instruction)) body.instructions)
    (flat_map option_to_list loaded.codes)
instructions_resolve world loaded all =
    let holds = λ (u : Used). IsTrue (resolves world loaded.file u.index u.use_as) in
    all_weaker _ _ (flat_map option_to_list loaded.codes)
    (λ body uses. all_of_flat holds (λ (p : Placed ℕ). instruction_uses loaded.file.pool p.instruction) body.instructions
    (all_left holds (flat_map (λ (p : Placed ℕ). instruction_uses loaded.file.pool p.instruction) body.instructions) (flat_map handler_uses body.handlers)
    (all_left holds (flat_map (λ (p : Placed ℕ). instruction_uses loaded.file.pool p.instruction) body.instructions ++ flat_map handler_uses body.handlers) (flat_map frame_uses body.frames) uses)))
    (all_of_flat holds (code_uses loaded.file.pool) (flat_map option_to_list loaded.codes) (code_in holds loaded all))
