-- Final methods, from a class upwards.
use Rattle.std.proofs.Common.{◌≡◌, ℕ, zero, suc, ◌-◌, arith, Bool, true, false, not, ◌&&◌, ◌||◌, List, [], ◌++◌, Option, Some, None, length, map, option_map, refl, ap, sym, ◌∙◌, ◌<◌}
use Rattle.std.specs.Prelude.{option_and_then, option_to_list, IfSome}
use Rattle.std.specs.List.{list_any, flat_map}
use Rattle.std.proofs.lemmas.List.{append-nil}
use Rattle.jv_model.specs.ClassData.{Const, Member}
use Rattle.jv_model.specs.Code.{Body}
use Rattle.jv_model.specs.Partial.{passes}
use Rattle.world_model.specs.World.{Method, Class, World, class_in, declared_method, has_flag, acc_static, acc_private, acc_final}
use Rattle.world_model.specs.BootNames.{is_constructor_name}
use Rattle.world_model.specs.Supertypes.{superclass_of, chain_within}
use Rattle.code_model.specs.Names.{class_name_at}
use Rattle.link_model.specs.WorldOf.{methods_of, class_of}
use Rattle.link_model.specs.SupertypeFaults.{is_final_method, overrides_final, is_final_class, breaks_final}
use Rattle.jv_types.specs.ClassData.{member_of, pool_of}
use Rattle.jv_types.specs.Loaded.{loaded_of, code_of}
use Rattle.jv_types.specs.declared.class_data.Member as read
use Rattle.jv_types.specs.declared.loaded.Loaded.{Loaded}
use Rattle.class_names.proofs.Lists.{list_any-map}
use Rattle.jv_types.specs.declared.number.ClassNo.{ClassNo}
use Rattle.class_world.specs.World.{number_of, name_at}
use Rattle.class_world.specs.declared.class_info.ClassInfo.{ClassInfo}
use Rattle.class_world.proofs.Infos.{HasInfo}
use Rattle.use_faults.specs.Wrong.{IsKnown, upwards, declares_final, is_final_at, overrides_at}
use Rattle.use_faults.specs.Finals.{is_final_by, AreFinalMethods, DeclareWith, DeclareUpwards}
use Rattle.use_faults.specs.declared.final_methods.FinalMethods.{FinalMethods}
use Rattle.use_faults.proofs.FinalNumbers.{any_method, or_without}
use Rattle.use_faults.proofs.ByName.{class_at, no_class, name_is, declared_name, place_inside}

-- ---- what a class declares

-- what flags say of a method
virtual_by : List ℕ → ℕ → Bool
virtual_by name flags = not (has_flag acc_static flags) && not (has_flag acc_private flags) && not (is_constructor_name name)

declared_by : (name descriptor : List ℕ) (class : Class) (declared : Option Method) (flags : ℕ)
    → declared_method name descriptor class ≡ declared → Some flags ≡ option_map (λ (m : Method). m.flags) declared
    → (virtual_by name flags && has_flag acc_final flags) ≡ passes is_final_method declared
unfolding virtual_by
declared_by name descriptor class None flags is told = absurd cc
declared_by name descriptor class (Some method) flags is told =
    let same : flags ≡ method.flags = cc in
    let named = declared_name name descriptor class method is in
    ap (λ (n : ℕ). virtual_by name n && has_flag acc_final n) same
    ∙ ap (λ (n : List ℕ). virtual_by n method.flags && has_flag acc_final method.flags) (sym named)

pub final_declared : (name descriptor : List ℕ) (class : Class) (flags : ℕ) (virtual final : Bool)
    → Some flags ≡ option_map (λ (m : Method). m.flags) (declared_method name descriptor class)
    → virtual ≡ (not (has_flag acc_static flags) && not (has_flag acc_private flags) && not (is_constructor_name name))
    → final ≡ has_flag acc_final flags → (virtual && final) ≡ declares_final name descriptor class
unfolding virtual_by
final_declared name descriptor class flags virtual final told is_virtual is_final =
    (λ i. is_virtual i && is_final i)
    ∙ declared_by name descriptor class (declared_method name descriptor class) flags refl told

-- ---- upwards

any_last : (test : List ℕ → Bool) (names : List (List ℕ)) → list_any test (names ++ []) ≡ list_any test names
any_last test names = ap (list_any test) (append-nil names)

or_false : (b : Bool) → (b || false) ≡ b
or_false true = refl
or_false false = refl

superclass_names : (world : World) (name : List ℕ) (class : Class) → class_in world name ≡ Some class
    → superclass_of world name ≡ option_to_list class.superclass
superclass_names world name class is =
    ap (λ (o : Option Class). flat_map (λ (c : Class). option_to_list c.superclass) (option_to_list o)) is
    ∙ append-nil (option_to_list class.superclass)

module _ (world : World) (name descriptor : List ℕ) where
  alone : (most : ℕ) (class : List ℕ) → class_in world class ≡ None → list_any (is_final_at world name descriptor) (chain_within most world class) ≡ false
  unfolding chain_within
  alone zero class none = refl
  alone (suc most) class none =
      ap (λ (o : Option Class). passes (declares_final name descriptor) o
      || list_any (is_final_at world name descriptor) (flat_map (chain_within most world) (superclass_of world class))) none
      ∙ ap (λ (o : Option Class). list_any (is_final_at world name descriptor)
      (flat_map (chain_within most world) (flat_map (λ (c : Class). option_to_list c.superclass) (option_to_list o)))) none

  -- from a name upwards is from its number
  pub chain_up : (most : ℕ) (class : List ℕ)
      → list_any (is_final_at world name descriptor) (chain_within most world class)
      ≡ list_any (is_final_at world name descriptor) (upwards most world (number_of world class))
  chain_up most class = by (number_of world class) refl
    where
      by : (number : Option ClassNo) → number_of world class ≡ number
          → list_any (is_final_at world name descriptor) (chain_within most world class)
          ≡ list_any (is_final_at world name descriptor) (upwards most world number)
      by None is = alone most class (no_class world class (sym is))
      by (Some n) is =
          ap (λ (c : List ℕ). list_any (is_final_at world name descriptor) (chain_within most world c))
          (sym (name_is world class n (sym is)))

  after_super : (most : ℕ) (superclass : Option (List ℕ)) (next : Option ClassNo)
      → next ≡ option_and_then (number_of world) superclass
      → list_any (is_final_at world name descriptor) (flat_map (chain_within most world) (option_to_list superclass))
      ≡ list_any (is_final_at world name descriptor) (upwards most world next)
  after_super most None next is =
      ap (λ (o : Option ClassNo). list_any (is_final_at world name descriptor) (upwards most world o)) (sym is)
  after_super most (Some above) next is =
      any_last (is_final_at world name descriptor) (chain_within most world above)
      ∙ chain_up most above
      ∙ ap (λ (o : Option ClassNo). list_any (is_final_at world name descriptor) (upwards most world o)) (sym is)

  -- one step upwards
  pub one_up : (most : ℕ) (class : ClassNo) (info : ClassInfo) (here : Bool) (at : HasInfo world class.0 info)
      → IsKnown world class → here ≡ declares_final name descriptor at.0
      → list_any (is_final_at world name descriptor) (upwards (suc most) world (Some class))
      ≡ (here || list_any (is_final_at world name descriptor) (upwards most world info.superclass))
  unfolding chain_within
  one_up most class info here at known is =
      let found : class_in world (name_at world class) ≡ Some at.0 =
      class_at world (name_at world class) class (sym known) ∙ at.1 in
      (λ i. passes (declares_final name descriptor) (found i)
      || list_any (is_final_at world name descriptor) (flat_map (chain_within most world) (superclass_names world (name_at world class) at.0 found i)))
      ∙ (λ i. sym is i || after_super most at.0.superclass info.superclass at.2.superclass i)

-- ---- classes that are known

pub known_named : (world : World) (name : List ℕ) (number : Option ClassNo) → number ≡ number_of world name
    → IfSome number (IsKnown world)
known_named world name None is = tt
known_named world name (Some class) is =
    ap (number_of world) (name_is world name class is) ∙ sym is

known_by : (world : World) (superclass : Option (List ℕ)) (next : Option ClassNo)
    → next ≡ option_and_then (number_of world) superclass → IfSome next (IsKnown world)
known_by world None None is = tt
known_by world None (Some class) is = absurd cc
known_by world (Some name) next is = known_named world name next is

pub known_up : (world : World) (class : ℕ) (info : ClassInfo) → HasInfo world class info
    → IfSome info.superclass (IsKnown world)
known_up world class info at = known_by world at.0.superclass info.superclass at.2.superclass

pub known_inside : (world : World) (class : ClassNo) → IsKnown world class → class.0 < length world.classes
known_inside world class known = place_inside world (name_at world class) class (sym known)

-- ---- the methods of a class

pub methods_override : (world : World) (superclass : List ℕ) (pool : List Const) (members : List Member) (bodies : List (Option (Body ℕ)))
    → list_any (overrides_at world (number_of world superclass) pool) members
    ≡ list_any (overrides_final world superclass) (methods_of pool members bodies)
methods_override world superclass pool members bodies =
    any_method (λ name descriptor flags. not (has_flag acc_static flags) && not (has_flag acc_private flags)
    && not (is_constructor_name name)
    && list_any (is_final_at world name descriptor) (upwards (length world.classes) world (number_of world superclass))) pool members bodies
    ∙ (λ i. list_any (λ (m : Method). not (has_flag acc_static m.flags) && not (has_flag acc_private m.flags)
    && not (is_constructor_name m.name)
    && sym (chain_up world m.name m.descriptor (length world.classes) superclass) i) (methods_of pool members bodies))

-- ---- a walk upwards

abbrev pub HaveFinals : World → FinalMethods → List ClassNo → Option ClassNo → ℕ → Option ClassNo → Type 0
HaveFinals world methods classes number most next = (name descriptor : List ℕ) →
    (list_any (is_final_by methods name descriptor) classes || list_any (is_final_at world name descriptor) (upwards most world next))
    ≡ list_any (is_final_at world name descriptor) (upwards (length world.classes) world number)

ended : (world : World) (name descriptor : List ℕ) (next : Option ClassNo)
    → list_any (is_final_at world name descriptor) (upwards 0 world next) ≡ false
unfolding chain_within
ended world name descriptor None = refl
ended world name descriptor (Some class) = refl

or_assoc : (a b c : Bool) → ((a || b) || c) ≡ (a || (b || c))
or_assoc true b c = refl
or_assoc false b c = refl

pub none_passed : (world : World) (methods : FinalMethods) (number : Option ClassNo) (classes : List ClassNo) → classes ≡ []
    → HaveFinals world methods classes number (length world.classes - 0) number
none_passed world methods number classes is name descriptor =
    let all : length world.classes - 0 ≡ length world.classes = omega arith in
    (λ i. list_any (is_final_by methods name descriptor) (is i)
    || list_any (is_final_at world name descriptor) (upwards (all i) world number))

module _ (world : World) (methods : FinalMethods) (number : Option ClassNo) (classes : List ClassNo) (most : ℕ) where
  pub none_left : (next : Option ClassNo) → HaveFinals world methods classes number most next → next ≡ None
      → DeclareUpwards world methods number classes
  none_left next so_far is name descriptor =
      or_without (list_any (is_final_by methods name descriptor) classes)
      (list_any (is_final_at world name descriptor) (upwards most world next))
      (ap (λ (o : Option ClassNo). list_any (is_final_at world name descriptor) (upwards most world o)) is)
      ∙ so_far name descriptor

  pub all_passed : (next : Option ClassNo) → HaveFinals world methods classes number most next → most ≡ 0
      → DeclareUpwards world methods number classes
  all_passed next so_far none name descriptor =
      or_without (list_any (is_final_by methods name descriptor) classes)
      (list_any (is_final_at world name descriptor) (upwards most world next))
      (ap (λ (n : ℕ). list_any (is_final_at world name descriptor) (upwards n world next)) none ∙ ended world name descriptor next)
      ∙ so_far name descriptor

  pub one_passed : (left : ℕ) (next : Option ClassNo) (class : ClassNo) (info : ClassInfo) (more : List ClassNo)
      → AreFinalMethods world methods → HasInfo world class.0 info → IsKnown world class → next ≡ Some class → most ≡ suc left
      → DeclareWith methods classes class more
      → HaveFinals world methods classes number most next → HaveFinals world methods more number left info.superclass
  one_passed left next class info more are at known is_next is_most adds so_far name descriptor =
      let here = (are.each_class class.0 at.0 at.1).each_method name descriptor in
      let rest = list_any (is_final_at world name descriptor) (upwards left world info.superclass) in
      ap (λ (b : Bool). b || rest) (adds name descriptor)
      ∙ or_assoc (list_any (is_final_by methods name descriptor) classes) (is_final_by methods name descriptor class) rest
      ∙ ap (λ (b : Bool). list_any (is_final_by methods name descriptor) classes || b)
      (sym (one_up world name descriptor left class info (is_final_by methods name descriptor class) at known (sym here))
      ∙ (λ i. list_any (is_final_at world name descriptor) (upwards (sym is_most i) world (sym is_next i))))
      ∙ so_far name descriptor

-- ---- a class

pub breaks_told : (world : World) (loaded : Loaded) (name : List ℕ) (number : Option ClassNo) (pool : List Const)
    (methods : List read.Member) (is_final : Bool) → pool ≡ pool_of loaded.file.pool.items
    → name ≡ class_name_at pool loaded.file.super_class → number ≡ number_of world name
    → methods ≡ loaded.file.methods.items → is_final ≡ is_final_class world name → is_final ≡ false
    → list_any (λ m. overrides_at world number pool (member_of m)) methods
    ≡ breaks_final world (class_of (loaded_of loaded))
    (class_name_at (pool_of loaded.file.pool.items) loaded.file.super_class)
breaks_told world loaded name number pool methods is_final is_pool is_name is_number is_methods final_is fails =
    let all = pool_of loaded.file.pool.items in
    let super = class_name_at all loaded.file.super_class in
    let named : name ≡ super = is_name ∙ ap (λ (p : List Const). class_name_at p loaded.file.super_class) is_pool in
    (λ i. list_any (λ m. overrides_at world (is_number i) (is_pool i) (member_of m)) (is_methods i))
    ∙ ap (λ (n : List ℕ). list_any (λ m. overrides_at world (number_of world n) all (member_of m)) loaded.file.methods.items) named
    ∙ sym (list_any-map (overrides_at world (number_of world super) all) member_of loaded.file.methods.items)
    ∙ methods_override world super all (map member_of loaded.file.methods.items) (map code_of loaded.codes.items)
    ∙ ap (λ (b : Bool). b || list_any (overrides_final world super) (class_of (loaded_of loaded)).methods)
    (sym fails ∙ final_is ∙ ap (is_final_class world) named)
