-- What parameters are in the frames of a map.
use Rattle.std.proofs.Common.{◌≡◌, ◌<◌, ◌≤◌, ℕ, zero, suc, Bool, true, false, ◌==◌, ◌&&◌, ◌||◌, not, List, [], ◌∷◌, Option, Some, None, option_map, unwrap_or, slice_get, map, IsTrue, eqb, inl, inr, ap, sym, subst, ◌∙◌, refl, arith}
use Rattle.std.specs.List.{All, AllByRecursion, starts_with}
use Rattle.std.proofs.lemmas.Bool.{cases_Bool}
use Rattle.std.proofs.lemmas.Bool.Decides.{eqb_tells}
use Rattle.std.proofs.lemmas.Option.{slice_get-map, slice_get_within, get_or_from_slice_get}
use Rattle.jv_model.specs.Descriptors as descriptors
use Rattle.jv_model.specs.Descriptors.{byte_type, char_type, double_type, float_type, int_type, long_type, short_type, boolean_type, class_type, array_of}
use Rattle.jv_model.specs.Operand.{is_array_name}
use Rattle.code_model.specs.TypeReading.{is_part_unit, are_parts, is_class_name, method_type_of, descriptor_of}
use Rattle.code_model.specs.Laws.{IsFieldType}
use Rattle.jv_model.specs.Code.{map_top}
use Rattle.code_model.specs.Names.{argument_type, argument_at}
use Rattle.code_laws.proofs.FieldDescriptors.{one_field_descriptor}
use Rattle.code_laws.proofs.MethodDescriptors.{one_method_descriptor}
use Rattle.world_model.specs.World.{World}
use Rattle.typing_model.specs.VerificationType as model
use Rattle.typing_model.specs.Environment.{Environment, array_or_class}
use Rattle.typing_model.specs.DescriptorFrame.{map_type}
use Rattle.type_rules.specs.declared.types.ElementType.{ElementType}
use Rattle.type_rules.specs.declared.types.ElementType.TheVariants.{Byte, Char, Double, Float, Int, Long, Short, Boolean, Class}
use Rattle.type_rules.specs.declared.types.FieldType.{FieldType}
use Rattle.type_rules.specs.Types.{element_of, in_arrays, field_type_of}
use Rattle.member_types.proofs.NamedTypes.{class-named}

-- ---- names in descriptors

-- a unit of a part isn't a bracket
no_bracket : (unit : ℕ) → IsTrue (is_part_unit unit) → (unit == 0x5B) ≡ false
no_bracket unit is = by (unit == 0x2E) (unit == 0x3B) (unit == 0x5B) is
  where
    by : (dot semicolon bracket : Bool) → IsTrue (not (dot || semicolon || bracket)) → bracket ≡ false
    by true semicolon bracket is = absurd cc
    by false true bracket is = absurd cc
    by false false true is = absurd cc
    by false false false is = refl

and_first : (a b : Bool) → IsTrue (a && b) → IsTrue a
and_first true b is = refl
and_first false b is = absurd cc

-- the name of a class doesn't begin as an array's does
pub plain-name : (name : List ℕ) → IsTrue (is_class_name name) → is_array_name name ≡ false
unfolding are_parts
plain-name [] is = refl
plain-name (unit ∷ name) is =
    elim (cases_Bool (unit == 0x2F)) [
      | inl slash ↦ let never : IsTrue (false && are_parts false name) = rw slash at is in absurd cc
      | inr plain ↦
          let part : IsTrue (is_part_unit unit && are_parts true name) = rw plain at is in
          no_bracket unit (and_first (is_part_unit unit) (are_parts true name) part)
    ]

-- a bracket stands first
pub begins-array : (name : List ℕ) → starts_with eqb name (0x5B ∷ []) ≡ is_array_name name
begins-array [] = refl
begins-array (unit ∷ name) = grind (arith, eqb_tells)

-- ---- parameters

-- what a type is in a frame of the map
abbrev pub kept : descriptors.FieldType → model.VerificationType
kept double_type = model.long
kept other = model.type_of other

pub kept-type : (e : Environment) (type : descriptors.FieldType) → IsFieldType type → map_type e (argument_type type) ≡ kept type
unfolding map_type model.type_of
kept-type e byte_type is = refl
kept-type e char_type is = refl
kept-type e double_type is = refl
kept-type e float_type is = refl
kept-type e int_type is = refl
kept-type e long_type is = refl
kept-type e short_type is = refl
kept-type e boolean_type is = refl
kept-type e (class_type name) is = ap model.type_of (class-named name (plain-name name is.0))
kept-type e (array_of component) is =
    let read = (one_field_descriptor (descriptor_of (array_of component)) (array_of component)).1 (refl, is) in
    ap (λ (o : Option descriptors.FieldType). model.type_of (array_or_class (descriptor_of (array_of component)) o)) read

-- ---- parameters by number

-- an array is kept as it is
pub kept-array : (world : World) (dimensions : ℕ) (element : ElementType) → 0 < dimensions
    → kept (in_arrays dimensions (element_of world element)) ≡ model.type_of (in_arrays dimensions (element_of world element))
unfolding model.type_of
kept-array world zero element some = absurd (omega arith)
kept-array world (suc n) element some = refl

-- and so is another type but a double
pub kept-other : (world : World) (dimensions : ℕ) (element : ElementType) → dimensions ≤ 0 → (element ≡ Double → ⊥)
    → kept (in_arrays dimensions (element_of world element)) ≡ model.type_of (in_arrays dimensions (element_of world element))
unfolding model.type_of
kept-other world (suc n) element none other = absurd (omega arith)
kept-other world zero Byte none other = refl
kept-other world zero Char none other = refl
kept-other world zero Double none other = absurd (other refl)
kept-other world zero Float none other = refl
kept-other world zero Int none other = refl
kept-other world zero Long none other = refl
kept-other world zero Short none other = refl
kept-other world zero Boolean none other = refl
kept-other world zero (Class class) none other = refl

pub kept-double : (world : World) (dimensions : ℕ) (element : ElementType) → dimensions ≤ 0 → element ≡ Double
    → kept (in_arrays dimensions (element_of world element)) ≡ model.long
kept-double world (suc n) element none is = absurd (omega arith)
kept-double world zero element none is = ap (λ (t : ElementType). kept (element_of world t)) is

-- ---- the parameter with a number

-- what holds of all holds of that one
pub all-at : {A : Type 0} (P : A → Type 0) (xs : List A) (k : ℕ) (x : A) → All P xs → slice_get xs k ≡ Some x → P x
all-at P xs k x all at = subst P (get_or_from_slice_get xs k x x at) (all k x (slice_get_within xs k x at))

-- the types of a descriptor are types of fields
pub parameters-right : (descriptor : List ℕ) (type : descriptors.MethodType) → method_type_of descriptor ≡ Some type
    → AllByRecursion IsFieldType type.parameters
parameters-right descriptor type is = ((one_method_descriptor descriptor type).0 is).1.0

pub argument-some : (e : Environment) (type : descriptors.MethodType) (number : ℕ) (parameter : descriptors.FieldType)
    → slice_get type.parameters number ≡ Some parameter → map_type e (argument_at (Some type) number) ≡ map_type e (argument_type parameter)
argument-some e type number parameter is =
    ap (λ (o : Option descriptors.FieldType). map_type e (unwrap_or (option_map argument_type o) map_top)) is

pub argument-none : (e : Environment) (type : descriptors.MethodType) (number : ℕ) → slice_get type.parameters number ≡ None
    → map_type e (argument_at (Some type) number) ≡ model.top
unfolding map_type
argument-none e type number is = ap (λ (o : Option descriptors.FieldType). map_type e (unwrap_or (option_map argument_type o) map_top)) is

-- the parameter by name, of the one by number
pub parameter-named : (world : World) (numbers : List FieldType) (types : List descriptors.FieldType) (number : ℕ) (found : Option FieldType)
    → map (field_type_of world) numbers ≡ types → found ≡ slice_get numbers number
    → slice_get types number ≡ option_map (field_type_of world) found
parameter-named world numbers types number found are is =
    ap (λ (ts : List descriptors.FieldType). slice_get ts number) (sym are)
    ∙ slice_get-map (field_type_of world) numbers number ∙ ap (option_map (field_type_of world)) (sym is)
