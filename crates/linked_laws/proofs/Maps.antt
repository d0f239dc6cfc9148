-- Rows of exception tables and map frames of a linked class name what is there (JVMS 4.7.3, 4.7.4).
use Rattle.std.proofs.Common.{◌≡◌, ℕ, Bool, true, false, List, [], ◌∷◌, ◌++◌, Option, Some, None, refl, ap, subst, ◌∙◌, map}
use Rattle.std.specs.Prelude.{IsTrue, nat_eq, slice_get, option_to_list, option_map, unwrap_or}
use Rattle.std.specs.List.{AllByRecursion, list_all}
use Rattle.std.specs.Option.{IfSome}
use Rattle.std.proofs.lemmas.Bool.{and_parts, eqb-true}
use Rattle.std.proofs.lemmas.List.Elements.{All-from_recursion}
use Rattle.jv_model.specs.Partial.{passes}
use Rattle.jv_model.specs.ClassData.{ClassData}
use Rattle.jv_model.specs.Descriptors.{FieldType, byte_type, char_type, double_type, float_type, int_type, long_type, short_type, boolean_type, class_type, array_of, MethodType}
use Rattle.jv_model.specs.Operand.{is_array_name}
use Rattle.jv_model.specs.Code.{Handler, MapType, map_top, map_object, map_argument, MapFrame}
use Rattle.world_model.specs.World.{Class, World}
use Rattle.code_model.specs.Laws.{IsFieldType}
use Rattle.code_model.specs.TypeReading.{are_parts, is_class_name, descriptor_of}
use Rattle.code_model.specs.Names.{operand_at, argument_type, argument_at, named_type, named_frame, named_handler}
use Rattle.code_laws.proofs.FieldDescriptors.{one_field_descriptor}
use Rattle.link_model.specs.Uses.{Used, used, as_type, handler_uses, map_type_uses, frame_uses}
use Rattle.link_model.specs.UseFaults.{is_type_there, are_types_there, names_type, resolves}
use Rattle.link_laws.proofs.Lists.{all_left, all_right, all_weaker}
use Rattle.link_laws.proofs.UsedMembers.{all_of_flat}
use Rattle.linked_laws.specs.Operands.{ClassIsLinked}
use Rattle.linked_laws.specs.Code.{HandlerIsLinked, MapTypeIsLinked, FrameIsLinked}
use Rattle.linked_laws.specs.Worlds.{IsLinkedWorld}
use Rattle.linked_laws.proofs.Lists.{all_at, all_pass, all_to_map}
use Rattle.linked_laws.proofs.Members.{type_entry}

-- ---- the types of parameters

-- the name of a class isn't that of an array
plain_name : (name : List ℕ) → IsTrue (is_class_name name) → is_array_name name ≡ false
unfolding are_parts
plain_name [] is = refl
plain_name (unit ∷ units) is = by (nat_eq unit 0x5B) refl
  where
    by : (bracket : Bool) → nat_eq unit 0x5B ≡ bracket → nat_eq unit 0x5B ≡ false
    by false same = same
    by true same = absurd (let none = subst (λ (u : ℕ). IsTrue (is_class_name (u ∷ units))) (eqb-true unit 0x5B same) is in cc)

-- the descriptor of an array names its type
array_linked : (world : World) (component : FieldType) → IsFieldType (array_of component) → is_type_there world (array_of component) ≡ true
    → names_type world (λ (c : Class). true) (descriptor_of (array_of component)) ≡ true
unfolding descriptor_of
array_linked world component is there =
    ap (passes (is_type_there world)) ((one_field_descriptor (descriptor_of (array_of component)) (array_of component)).1 (refl, is)) ∙ there

-- a parameter's type as a frame keeps it
argument_linked : (world : World) (type : FieldType) → IsFieldType type → is_type_there world type ≡ true → MapTypeIsLinked world (argument_type type)
unfolding is_type_there
argument_linked world (class_type name) is there = rw (plain_name name is.0) there
argument_linked world (array_of component) is there = array_linked world component is there
argument_linked world byte_type is there = tt
argument_linked world char_type is there = tt
argument_linked world double_type is there = tt
argument_linked world float_type is there = tt
argument_linked world int_type is there = tt
argument_linked world long_type is there = tt
argument_linked world short_type is there = tt
argument_linked world boolean_type is there = tt

-- the parameter with a number
numbered_linked : (world : World) (method : Option MethodType) (number : ℕ) → passes (are_types_there world) method ≡ true
    → ((type : MethodType) → method ≡ Some type → AllByRecursion IsFieldType type.parameters) → MapTypeIsLinked world (argument_at method number)
numbered_linked world None number there are = tt
numbered_linked world (Some type) number there are = by (slice_get type.parameters number) refl
  where
    by : (found : Option FieldType) → slice_get type.parameters number ≡ found
        → MapTypeIsLinked world (unwrap_or (option_map argument_type found) map_top)
    by None is = tt
    by (Some parameter) is =
        let parts = and_parts (list_all (is_type_there world) type.parameters) _ there in
        argument_linked world parameter (all_at IsFieldType type.parameters number parameter (are type refl) is)
        (all_at _ type.parameters number parameter (all_pass (is_type_there world) type.parameters parts.0) is)

module _ (world : World) (linked : IsLinkedWorld world) (file : ClassData) (method : Option MethodType) (there : passes (are_types_there world) method ≡ true)
    (are : (type : MethodType) → method ≡ Some type → AllByRecursion IsFieldType type.parameters) where
  -- ---- map frames

  abbrev Resolves : Used → Type 0
  Resolves u = IsTrue (resolves world file u.index u.use_as)

  map_type_linked : (type : MapType ℕ) → AllByRecursion Resolves (map_type_uses type) → MapTypeIsLinked world (named_type file.pool method type)
  map_type_linked (map_object index) uses = type_entry world linked file index uses.0
  map_type_linked (map_argument number) uses = numbered_linked world method number there are
  map_type_linked other uses = tt

  pub frame_linked : (frame : MapFrame ℕ) → AllByRecursion Resolves (frame_uses frame) → FrameIsLinked world (named_frame file.pool method frame)
  frame_linked frame uses =
      let each = all_of_flat Resolves map_type_uses (frame.locals ++ frame.stack) uses in
      record {
        locals = All-from_recursion _ _ (typed frame.locals (all_left _ frame.locals frame.stack each));
        stack = All-from_recursion _ _ (typed frame.stack (all_right _ frame.locals frame.stack each));
      }
    where
      typed : (types : List (MapType ℕ)) → AllByRecursion (λ t. AllByRecursion Resolves (map_type_uses t)) types
          → AllByRecursion (MapTypeIsLinked world) (map (named_type file.pool method) types)
      typed types each = all_to_map (MapTypeIsLinked world) (named_type file.pool method) types (all_weaker _ _ types map_type_linked each)

  -- ---- the exception table

  pub handler_linked : (row : Handler ℕ) → AllByRecursion Resolves (handler_uses row) → HandlerIsLinked world (named_handler file.pool row)
  handler_linked row uses = by row.catch uses
    where
      by : (catch : Option ℕ) → AllByRecursion Resolves (map (used as_type) (option_to_list catch))
          → IfSome (option_map (operand_at file.pool) catch) (ClassIsLinked world)
      by None uses = tt
      by (Some index) uses = type_entry world linked file index uses.0
