-- The types of methods that are there, by number.
use Rattle.std.proofs.Common.{◌≡◌, true, List, [], ◌∷◌, Option, Some, None, option_map, option_and_then, option_to_list, map, is_some, ap, ◌∙◌, refl}
use Rattle.std.specs.List.{list_all, All}
use Rattle.std.specs.Option.{IfSome}
use Rattle.std.proofs.lemmas.List.Elements.{All-nil, All-cons}
use Rattle.class_graph.proofs.Passing.{and_left, and_right}
use Rattle.jv_model.specs.Partial.{◌>>=◌, passes}
use Rattle.jv_model.specs.Descriptors as descriptors
use Rattle.world_model.specs.World.{World}
use Rattle.link_model.specs.UseFaults.{is_type_there, are_types_there}
use Rattle.type_rules.specs.declared.types.FieldType.{FieldType}
use Rattle.type_rules.specs.Types.{field_type_of, IsKnownElement}
use Rattle.numbered_types.specs.declared.method_types.MethodType.{MethodType}
use Rattle.numbered_types.specs.Numbered.{numbers_of_types, number_of_result}
use Rattle.numbered_types.specs.Methods.{Types, method_shown, number_of_method}
use Rattle.member_types.proofs.LinkedTypes.{type-number}

abbrev pub IsKnownField : World → FieldType → Type 0
IsKnownField world type = IsKnownElement world type.element

-- All of some types by number, whose classes are there.
pub record HaveNumbers (world : World) (types : List descriptors.FieldType) : Type 0 where
  pub numbers : List FieldType
  pub are_numbers : numbers_of_types world types ≡ Some numbers
  pub same : map (field_type_of world) numbers ≡ types
  pub known : All (IsKnownField world) numbers

pub record HasResult (world : World) (type : Option descriptors.FieldType) : Type 0 where
  pub number : Option FieldType
  pub is_number : number_of_result world type ≡ Some number
  pub same : option_map (field_type_of world) number ≡ type
  pub known : IfSome number (IsKnownField world)

-- A method's type by number, which was read.
pub record HasMethod (world : World) (read : Option descriptors.MethodType) : Type 0 where
  pub type : descriptors.MethodType
  pub is_type : read ≡ Some type
  pub parameters : HaveNumbers world type.parameters
  pub result : HasResult world type.result

-- what the first and the others come to
both_by : Option FieldType → Option (List FieldType) → Option (List FieldType)
both_by first others = first >>= λ (type : FieldType). (others >>= λ (types : List FieldType). Some (type ∷ types))

module _ (world : World) where
  types-number : (types : List descriptors.FieldType) → list_all (is_type_there world) types ≡ true → HaveNumbers world types
  unfolding both_by
  types-number [] there = record { numbers = []; are_numbers = refl; same = refl; known = All-nil (IsKnownField world) }
  types-number (type ∷ types) there =
      let first = type-number world type (and_left (is_type_there world type) (list_all (is_type_there world) types) there) in
      let others = types-number types (and_right (is_type_there world type) (list_all (is_type_there world) types) there) in
      record {
        numbers = first.number ∷ others.numbers;
        are_numbers = λ i. both_by (first.is_number i) (others.are_numbers i);
        same = λ i. first.same i ∷ others.same i;
        known = All-cons (IsKnownField world) first.number others.numbers first.known others.known;
      }

  result-number : (type : Option descriptors.FieldType) → list_all (is_type_there world) (option_to_list type) ≡ true → HasResult world type
  result-number None there = record { number = None; is_number = refl; same = refl; known = tt }
  result-number (Some type) there =
      let found = type-number world type (and_left (is_type_there world type) true there) in
      record {
        number = Some found.number;
        is_number = ap (λ (o : Option FieldType). option_map Some o) found.is_number;
        same = ap Some found.same;
        known = found.known;
      }

  pub method-number : (read : Option descriptors.MethodType) → passes (are_types_there world) read ≡ true → HasMethod world read
  method-number None there = absurd cc
  method-number (Some type) there =
      let parameters = list_all (is_type_there world) type.parameters in
      let result = list_all (is_type_there world) (option_to_list type.result) in
      record {
        type = type;
        is_type = refl;
        parameters = types-number type.parameters (and_left parameters result there);
        result = result-number type.result (and_right parameters result there);
      }

  methods_by : Option (List FieldType) → Option (Option FieldType) → Option Types
  methods_by parameters result = parameters >>= λ (ps : List FieldType). (result >>= λ (r : Option FieldType). Some (ps, r))

  -- what was read, by number
  pub method-shown : (read : Option descriptors.MethodType) (has : HasMethod world read)
      → option_and_then (number_of_method world) read ≡ Some (has.parameters.numbers, has.result.number)
  unfolding methods_by
  method-shown read has =
      ap (option_and_then (number_of_method world)) has.is_type
      ∙ (λ i. methods_by (has.parameters.are_numbers i) (has.result.is_number i))

pub shown-some : (found : Option MethodType) (shown : Types) → option_map method_shown found ≡ Some shown → is_some found ≡ true
shown-some None shown is = absurd cc
shown-some (Some type) shown is = refl

pub shown-is : (found : Option MethodType) (type : MethodType) (shown : Types) → option_map method_shown found ≡ Some shown
    → found ≡ Some type → method_shown type ≡ shown
shown-is found type shown is some = let made = ap (option_map method_shown) some in cc
