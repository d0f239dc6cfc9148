-- The types above a class, by number.
use Rattle.std.specs.Prelude.{◌≡◌, ℕ, zero, suc, ◌<◌, List, [], ◌∷◌, Option, Some, None, length, map, flat_map, slice_get, get_or, option_and_then, option_to_list}
use Rattle.jv_types.specs.declared.number.ClassNo.{ClassNo}
use Rattle.class_world.specs.declared.class_info.ClassInfo.{ClassInfo}

-- the numbers of a class's own interfaces, and of those of the class with a number
abbrev pub interfaces_of : ClassInfo → List ℕ
interfaces_of info = map (λ (c : ClassNo). c.0) info.interfaces.items

abbrev pub interfaces_at : List ClassInfo → ℕ → List ℕ
interfaces_at infos number = flat_map interfaces_of (option_to_list (slice_get infos number))

abbrev pub superclass_at : List ClassInfo → ℕ → Option ClassNo
superclass_at infos number = option_and_then (λ (i : ClassInfo). i.superclass) (slice_get infos number)

-- the class, its superclass, and so on upwards, at most so many
unfoldable pub chain_from : ℕ → List ClassInfo → Option ClassNo → List ℕ
chain_from zero infos next = []
chain_from (suc most) infos None = []
chain_from (suc most) infos (Some class) = class.0 ∷ chain_from most infos (superclass_at infos class.0)

-- the interfaces of a class, of its superclass, and so on upwards
abbrev pub inherited_by : List ClassInfo → ℕ → List ℕ
inherited_by infos number =
    flat_map (interfaces_at infos) (chain_from (length infos) infos (Some (record { 0 = number })))

-- A row for each class.
pub record AreInherited (infos : List ClassInfo) (rows : List (List ℕ)) : Type 0 where
  pub count : length rows ≡ length infos
  pub each_row : (k : ℕ) → k < length infos → get_or rows k [] ≡ inherited_by infos k
