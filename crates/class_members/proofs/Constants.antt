-- The values that ConstantValue attributes name.
use Rattle.std.proofs.Common.{◌≡◌, ℕ, ◌+◌, ◌<◌, Bool, true, false, cond, List, [], ◌∷◌, Option, Some, None, option_map, length, get_or, drop, slice_get, find, unwrap_or, ap, sym, ◌∙◌, refl}
use Rattle.std.proofs.lemmas.List.{at_drop_more}
use Rattle.std.proofs.lemmas.Option.{slice_get-map}
use Rattle.byteorder.specs.Endian.{big_number}
use Rattle.jv_model.specs.ClassData as model
use Rattle.jv_model.specs.ConstantPool.{const_at, is_named}
use Rattle.jv_model.specs.Profile.{constant_value}
use Rattle.code_model.specs.Names.{operand_at, operand_by}
use Rattle.world_model.specs.World.{Field}
use Rattle.machine_model.specs.Value.{Value, zero_of, kind_of}
use Rattle.machine_model.specs.Start.{first_value}
use Rattle.jv_types.specs.ClassData.{const_of, pool_of, attr_of, attrs_of}
use Rattle.jv_types.specs.declared.class_data.Attr.{Attr}
use Rattle.jv_types.specs.declared.class_data.Const.{Const}
use Rattle.jv_types.specs.declared.class_data.Const.TheVariants.{Gap, Utf8, Integer, Float, Long, Double, Class, String, Fieldref, Methodref, InterfaceMethodref, NameAndType, MethodHandle, MethodType, InvokeDynamic}
use Rattle.class_members.specs.Members.{constant_index}

-- what stands at an index, or isn't there
pub operand_there : (pool : List Const) (index : ℕ) (entry : Const) → slice_get pool index ≡ Some entry
    → operand_at (pool_of pool) index ≡ operand_by (pool_of pool) (const_of entry)
unfolding operand_at
operand_there pool index entry at =
    ap (λ (o : Option model.Const). operand_by (pool_of pool) (unwrap_or o model.gap))
    (slice_get-map const_of pool index ∙ ap (option_map const_of) at)

pub operand_past : (pool : List Const) (index : ℕ) → slice_get pool index ≡ None
    → operand_at (pool_of pool) index ≡ operand_by (pool_of pool) model.gap
unfolding operand_at
operand_past pool index none =
    ap (λ (o : Option model.Const). operand_by (pool_of pool) (unwrap_or o model.gap))
    (slice_get-map const_of pool index ∙ ap (option_map const_of) none)

-- an entry that is neither an int nor a long leaves a field at zero
pub no_number : (field : Field) (pool : List model.Const) (entry : Const)
    → ((n : _) → entry ≡ Integer n → ⊥) → ((n : _) → entry ≡ Long n → ⊥)
    → zero_of (kind_of field.descriptor) ≡ first_value field (Some (operand_by pool (const_of entry)))
no_number field pool (Integer n) no_int no_long = absurd (no_int n refl)
no_number field pool (Long n) no_int no_long = absurd (no_long n refl)
no_number field pool Gap no_int no_long = refl
no_number field pool (Utf8 text) no_int no_long = refl
no_number field pool (Float bits) no_int no_long = refl
no_number field pool (Double bits) no_int no_long = refl
no_number field pool (Class name) no_int no_long = refl
no_number field pool (String text) no_int no_long = refl
no_number field pool (Fieldref owner pair) no_int no_long = refl
no_number field pool (Methodref owner pair) no_int no_long = refl
no_number field pool (InterfaceMethodref owner pair) no_int no_long = refl
no_number field pool (NameAndType name descriptor) no_int no_long = refl
no_number field pool (MethodHandle kind member) no_int no_long = refl
no_number field pool (MethodType descriptor) no_int no_long = refl
no_number field pool (InvokeDynamic method pair) no_int no_long = refl

module _ (pool : List model.Const) (attributes : List Attr) (i : ℕ) (attribute : Attr) (inside : i < length attributes)
    (is : attribute ≡ get_or attributes i attribute) where
  abbrev found_in : List Attr → Option ℕ
  found_in rest = constant_index pool (attrs_of rest)

  next : found_in (drop i attributes) ≡ found_in (attribute ∷ drop (i + 1) attributes)
  next =
      at_drop_more found_in attributes i attribute inside
      ∙ ap (λ (a : Attr). found_in (a ∷ drop (i + 1) attributes)) (sym is)

  abbrev or_rest : Bool → Option ℕ
  or_rest b = option_map (λ (a : model.Attr). big_number 2 a.bytes)
      (cond b (Some (attr_of attribute)) (find (λ (a : model.Attr). is_named pool constant_value a.name) (attrs_of (drop (i + 1) attributes))))

  -- this attribute is the first one, or isn't one
  pub index_here : is_named pool constant_value attribute.name ≡ true
      → found_in (drop i attributes) ≡ Some (big_number 2 attribute.bytes.items)
  index_here named = next ∙ ap or_rest named

  pub index_later : is_named pool constant_value attribute.name ≡ false
      → found_in (drop i attributes) ≡ found_in (drop (i + 1) attributes)
  index_later other = next ∙ ap or_rest other
