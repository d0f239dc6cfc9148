-- The parts of a `World` that was filled are those of its classes.
use Rattle.std.proofs.Common.{◌≡◌, ℕ, Bool, true, false, not, ◌&&◌, ◌||◌, List, [], ◌∷◌, Option, length, map, nat_lt, bytes_eq, IsTrue, ap, sym, subst, ◌∙◌, refl, arith}
use Rattle.std.specs.List.{list_all, IsDistinct}
use Rattle.std.proofs.lemmas.List.{length-map}
use Rattle.class_names.proofs.Lists.{list_any-map}
use Rattle.class_names.specs.declared.signatures.Signature.{Signature}
use Rattle.link_model.specs.ClassFaults.{has_twice, same_field, same_method, has_member_twice}
use Rattle.link_model.specs.WorldOf.{field_of, methods_of}
use Rattle.world_model.specs.World as model
use Rattle.world_model.specs.Supertypes.{field_order, method_order}
use Rattle.jv_model.specs.ClassData as class_data
use Rattle.jv_model.specs.Code.{Body}
use Rattle.jv_types.specs.ClassData.{pool_of, member_of}
use Rattle.jv_types.specs.Boot.{boot_field_of, boot_method_of}
use Rattle.jv_types.specs.Loaded.{code_of}
use Rattle.jv_types.specs.declared.class_data.Member.{Member}
use Rattle.jv_types.specs.declared.number.ClassNo.{ClassNo}
use Rattle.class_world.specs.declared.class_info.ClassInfo.{ClassInfo}
use Rattle.class_world.specs.declared.class_info.Origin.{Origin}
use Rattle.class_world.specs.declared.class_info.Origin.TheVariants.{Boot, Program}
use Rattle.class_world.specs.declared.signatures.Declared.{Declared}
use Rattle.class_world.specs.MemberTable.{Members, is_order, IsWithin}
use Rattle.class_world.specs.World.{class_of_origin, names_of_infos, world_of_infos, names_of, numbers_of, AreInfos, orders_of, IsAcyclic, HaveMembersOnce, field_signature, method_signature, spelled, IsTable, IsWorld}
use Rattle.class_world.specs.Signatures.{Pair, same_pair, member_pair, field_pairs, method_pairs, has_members_once, SpellsAll, GivesDeclared}
use Rattle.class_world.proofs.LookUps.{numbers_inside}
use Rattle.class_world.proofs.Upwards.{list_all-map}

map-map : {A B C : Type 0} (f : B → C) (g : A → B) (xs : List A) → map f (map g xs) ≡ map (λ x. f (g x)) xs
map-map f g [] = refl
map-map f g (x ∷ xs) = ap (λ l. f (g x) ∷ l) (map-map f g xs)

-- ---- what members are called

method_pairs_of : (pool : List class_data.Const) (members : List Member) (codes : List (Option (Body ℕ)))
    → map method_signature (methods_of pool (map member_of members) codes) ≡ map (member_pair pool) members
unfolding methods_of
method_pairs_of pool [] codes = refl
method_pairs_of pool (member ∷ members) [] = ap (λ (l : List Pair). member_pair pool member ∷ l) (method_pairs_of pool members [])
method_pairs_of pool (member ∷ members) (code ∷ codes) = ap (λ (l : List Pair). member_pair pool member ∷ l) (method_pairs_of pool members codes)

pub fields_are_called : (names : List (List ℕ)) (origin : Origin)
    → map field_signature (class_of_origin names origin).fields ≡ field_pairs origin
fields_are_called names (Boot class) = map-map field_signature boot_field_of class.fields.items
fields_are_called names (Program loaded) =
    map-map field_signature (field_of (pool_of loaded.file.pool.items)) (map member_of loaded.file.fields.items)
    ∙ map-map (λ (m : class_data.Member). field_signature (field_of (pool_of loaded.file.pool.items) m)) member_of loaded.file.fields.items

pub methods_are_called : (names : List (List ℕ)) (origin : Origin)
    → map method_signature (class_of_origin names origin).methods ≡ method_pairs origin
methods_are_called names (Boot class) = map-map method_signature boot_method_of class.methods.items
methods_are_called names (Program loaded) =
    method_pairs_of (pool_of loaded.file.pool.items) loaded.file.methods.items (map code_of loaded.codes.items)

-- ---- no members twice

has_twice-map : {A B : Type 0} (same : B → B → Bool) (f : A → B) (xs : List A)
    → has_twice same (map f xs) ≡ has_twice (λ x y. same (f x) (f y)) xs
unfolding has_twice
has_twice-map same f [] = refl
has_twice-map same f (x ∷ xs) = λ i. list_any-map (same (f x)) f xs i || has_twice-map same f xs i

fields_twice : (fields : List model.Field) → has_twice same_field fields ≡ has_twice same_pair (map field_signature fields)
fields_twice fields = sym (has_twice-map same_pair field_signature fields)

methods_twice : (methods : List model.Method) → has_twice same_method methods ≡ has_twice same_pair (map method_signature methods)
methods_twice methods = sym (has_twice-map same_pair method_signature methods)

not_either : (a b : Bool) → not (a || b) ≡ (not a && not b)
not_either true b = refl
not_either false b = refl

-- a class's members stand once exactly where what they're called does
pub members_stand_once : (names : List (List ℕ)) (origin : Origin)
    → not (has_member_twice (class_of_origin names origin))
    ≡ (not (has_twice same_pair (field_pairs origin)) && not (has_twice same_pair (method_pairs origin)))
members_stand_once names origin =
    let class = class_of_origin names origin in
    let fields = fields_twice class.fields ∙ ap (has_twice same_pair) (fields_are_called names origin) in
    let methods = methods_twice class.methods ∙ ap (has_twice same_pair) (methods_are_called names origin) in
    (λ i. not (fields i || methods i))
    ∙ not_either (has_twice same_pair (field_pairs origin)) (has_twice same_pair (method_pairs origin))

list_all-congr : {A : Type 0} (p q : A → Bool) (xs : List A) → ((x : A) → p x ≡ q x) → list_all p xs ≡ list_all q xs
list_all-congr p q [] agree = refl
list_all-congr p q (x ∷ xs) agree = λ i. agree x i && list_all-congr p q xs agree i

module _ (infos : List ClassInfo) where
  pub have_members_once : HaveMembersOnce (world_of_infos infos) → IsTrue (list_all has_members_once infos)
  have_members_once once =
      let class_of = λ (i : ClassInfo). class_of_origin (names_of_infos infos) i.origin in
      list_all-congr has_members_once (λ (i : ClassInfo). not (has_member_twice (class_of i))) infos
      (λ info. sym (members_stand_once (names_of_infos infos) info.origin))
      ∙ sym (list_all-map (λ (c : model.Class). not (has_member_twice c)) class_of infos)
      ∙ once

  -- orders are within
  pub orders_within : (order : List ℕ → List (List ℕ)) (orders : List (List ClassNo)) (declared : List (List Signature))
      → orders ≡ orders_of (world_of_infos infos) order → length declared ≡ length infos → IsWithin orders declared
  orders_within order orders declared are sizes =
      let world = world_of_infos infos in
      let class_of = λ (i : ClassInfo). class_of_origin (names_of_infos infos) i.origin in
      let counts : length world.classes ≡ length declared = length-map infos class_of ∙ sym sizes in
      subst (λ (o : List (List ClassNo)). IsWithin o declared) (sym are) (each world.classes counts)
    where
      each : (classes : List model.Class) → length (world_of_infos infos).classes ≡ length declared
          → IsTrue (list_all (is_order declared) (map (λ (c : model.Class). numbers_of (world_of_infos infos) (order c.name)) classes))
      each [] counts = refl
      each (c ∷ classes) counts =
          let first = subst (λ (n : ℕ). IsTrue (list_all (λ (k : ClassNo). nat_lt k.0 n) (numbers_of (world_of_infos infos) (order c.name)))) counts
          (numbers_inside (world_of_infos infos) (order c.name)) in
          let rest = each classes counts in
          λ i. first i && rest i

  module _ (texts : List (List ℕ)) (declared : Declared) (gives : GivesDeclared texts infos declared) where
    class_of : ClassInfo → model.Class
    class_of i = class_of_origin (names_of_infos infos) i.origin

    fields_declared : map (λ (i : ClassInfo). field_pairs i.origin) infos
        ≡ map (λ (c : model.Class). map field_signature c.fields) (world_of_infos infos).classes
    fields_declared =
        (λ j. map (λ (i : ClassInfo). sym (fields_are_called (names_of_infos infos) i.origin) j) infos)
        ∙ sym (map-map (λ (c : model.Class). map field_signature c.fields) (λ (i : ClassInfo). class_of_origin (names_of_infos infos) i.origin) infos)

    methods_declared : map (λ (i : ClassInfo). method_pairs i.origin) infos
        ≡ map (λ (c : model.Class). map method_signature c.methods) (world_of_infos infos).classes
    methods_declared =
        (λ j. map (λ (i : ClassInfo). sym (methods_are_called (names_of_infos infos) i.origin) j) infos)
        ∙ sym (map-map (λ (c : model.Class). map method_signature c.methods) (λ (i : ClassInfo). class_of_origin (names_of_infos infos) i.origin) infos)

    spelled_count : (rows : List (List Signature)) (pair_of : ClassInfo → List Pair) → SpellsAll texts rows (map pair_of infos)
        → length rows ≡ length infos
    spelled_count rows pair_of all =
        omega (arith, ap (λ (l : List (List Pair)). length l) all.are, length-map rows (map (spelled texts)), length-map infos pair_of)

    pub field_count : length declared.fields.items ≡ length infos
    field_count = spelled_count declared.fields.items (λ (i : ClassInfo). field_pairs i.origin) gives.fields

    pub method_count : length declared.methods.items ≡ length infos
    method_count = spelled_count declared.methods.items (λ (i : ClassInfo). method_pairs i.origin) gives.methods

    pub is_filled : (names : List (List ℕ)) (fields methods : Members) → AreInfos infos → names ≡ names_of (world_of_infos infos)
        → IsAcyclic (world_of_infos infos) → HaveMembersOnce (world_of_infos infos) → (field_rows method_rows : List (List ClassNo))
        → field_rows ≡ orders_of (world_of_infos infos) (field_order (world_of_infos infos))
        → method_rows ≡ orders_of (world_of_infos infos) (method_order (world_of_infos infos))
        → fields ≡ record { orders = field_rows; declared = declared.fields.items }
        → methods ≡ record { orders = method_rows; declared = declared.methods.items }
        → IsWorld infos names texts fields methods
    is_filled names fields methods are names_are acyclic once field_rows method_rows field_orders method_orders fields_is methods_is =
        let world = world_of_infos infos in
        record {
          each_info = are.each_info;
          names_are = names_are;
          names_apart = subst (IsDistinct bytes_eq) (sym names_are) are.names_apart;
          texts_apart = gives.distinct;
          field_table = subst (IsTable world texts (field_order world) (λ (c : model.Class). map field_signature c.fields)) (sym fields_is) (record {
            orders = field_orders;
            declared = gives.fields.are ∙ fields_declared;
            within = gives.fields.within;
          });
          method_table = subst (IsTable world texts (method_order world) (λ (c : model.Class). map method_signature c.methods)) (sym methods_is) (record {
            orders = method_orders;
            declared = gives.methods.are ∙ methods_declared;
            within = gives.methods.within;
          });
          acyclic = acyclic;
          once = once;
        }
