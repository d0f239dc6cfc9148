-- What a field's name leads to.
use Rattle.std.proofs.Common.{◌≡◌, ℕ, ◌&&◌, Bool, true, false, List, [], ◌∷◌, Option, Some, None, option_map, option_and_then, refl, ap, sym, ◌∙◌}
use Rattle.std.specs.Prelude.{bytes_eq, find, if◌then◌else◌, reverse}
use Rattle.std.specs.Bool.{beq}
use Rattle.std.proofs.lemmas.Bool.{and_parts}
use Rattle.jv_model.specs.ClassData.{Const, fieldref}
use Rattle.jv_model.specs.ConstantPool.{const_at}
use Rattle.jv_model.specs.Operand.{MemberReference, member_named}
use Rattle.code_model.specs.Names.{member_at, member_by, operand_at, operand_by}
use Rattle.world_model.specs.World.{World, Class, Field, is_static_field, is_stub, class_in, declared_field}
use Rattle.world_model.specs.LookUp.{Found, find_field, member_in}
use Rattle.world_model.specs.Resolution.{resolved_field}
use Rattle.link_laws.proofs.LookUps.{find_field_is_first}
use Rattle.member_names.proofs.Lists.{same_text}
use Rattle.class_layouts.specs.Layouts.{field_found}
use Rattle.jv_types.specs.declared.number.ClassNo.{ClassNo}
use Rattle.look_up_cache.specs.Targets.{a_field, pool_at, target_at, target_by, field_target}

-- ---- entries

pub operand_is : (pool : List Const) (index class pair : ℕ) → const_at pool index ≡ fieldref class pair
    → operand_at pool index ≡ member_named (member_at pool index)
unfolding operand_at
operand_is pool index class pair entry = ap (operand_by pool) entry ∙ ap (λ c. member_named (member_by pool c)) (sym entry)

pub target_is : (world : World) (class_no : ClassNo) (index class pair : ℕ)
    → const_at (pool_at world class_no) index ≡ fieldref class pair
    → target_at world class_no index ≡ field_target world (member_at (pool_at world class_no) index)
target_is world class_no index class pair entry = ap (target_by world (pool_at world class_no) index) entry

-- ---- fields

passes_found : {A : Type 0} (p : A → Bool) (xs : List A) (x : A) → find p xs ≡ Some x → p x ≡ true
passes_found p [] x is = absurd cc
passes_found p (y ∷ xs) x is = by (passes_found p xs x) (p y) refl is
  where
    by : (find p xs ≡ Some x → p x ≡ true) → (b : Bool) → p y ≡ b → (if b then Some y else find p xs) ≡ Some x → p x ≡ true
    by rest true at is = let same : y ≡ x = cc in ap p (sym same) ∙ at
    by rest false at is = rest is

-- a field that is found has the name and the descriptor that were looked for
pub found_named : (world : World) (class name descriptor : List ℕ) (found : Found Field)
    → find_field world class name descriptor ≡ Some found → (found.member.name ≡ name) × (found.member.descriptor ≡ descriptor)
found_named world class name descriptor found is =
    of (class_in world found.class) ((find_field_is_first world class name descriptor found).0 is).declares
  where
    of : (o : Option Class) → member_in (declared_field name descriptor) o ≡ Some found.member
        → (found.member.name ≡ name) × (found.member.descriptor ≡ descriptor)
    of None at = absurd cc
    of (Some c) at =
        let parts = and_parts (bytes_eq found.member.name name) (bytes_eq found.member.descriptor descriptor)
        (passes_found (λ (f : Field). bytes_eq f.name name && bytes_eq f.descriptor descriptor)
        (if is_stub c then reverse c.fields else c.fields) found.member at) in
        (same_text found.member.name name parts.0, same_text found.member.descriptor descriptor parts.1)

-- A field that is resolved, by what is found.
pub record IsResolved (statically : Bool) (world : World) (m field : MemberReference) : Type 0 where
  pub found : Found Field
  pub named : find_field world m.class m.name m.descriptor ≡ Some found
  pub static : is_static_field found.member ≡ statically
  pub is : field ≡ field_found found

pub resolved_by : (statically : Bool) (world : World) (m field : MemberReference) → resolved_field statically world m ≡ Some field
    → IsResolved statically world m field
resolved_by statically world m field at = of (find_field world m.class m.name m.descriptor) refl at
  where
    both : (b s : Bool) (made : MemberReference) → (if beq b s then Some made else None) ≡ Some field → (b ≡ s) × (made ≡ field)
    both true true made is = (refl, cc)
    both false false made is = (refl, cc)
    both true false made is = absurd cc
    both false true made is = absurd cc

    of : (o : Option (Found Field)) → find_field world m.class m.name m.descriptor ≡ o
        → option_and_then (λ (found : Found Field). if beq (is_static_field found.member) statically
        then Some (record { class = found.class; name = m.name; descriptor = m.descriptor }) else None) o ≡ Some field
        → IsResolved statically world m field
    of None named is = absurd cc
    of (Some found) named is =
        let parts = both (is_static_field found.member) statically (record { class = found.class; name = m.name; descriptor = m.descriptor }) is in
        let names = found_named world m.class m.name m.descriptor found named in
        record {
          found = found;
          named = named;
          static = parts.0;
          is = sym parts.1 ∙ (λ i. record { class = found.class; name = sym names.0 i; descriptor = sym names.1 i });
        }

pub resolves_to : (statically : Bool) (world : World) (m : MemberReference) (found : Found Field)
    → find_field world m.class m.name m.descriptor ≡ Some found → is_static_field found.member ≡ statically
    → resolved_field statically world m ≡ Some (field_found found)
resolves_to statically world m found named static =
    let names = found_named world m.class m.name m.descriptor found named in
    ap (option_and_then (λ (f : Found Field). if beq (is_static_field f.member) statically
    then Some (record { class = f.class; name = m.name; descriptor = m.descriptor }) else None)) named
    ∙ ap (λ (b : Bool). if beq b statically then Some (record { class = found.class; name = m.name; descriptor = m.descriptor }) else None) static
    ∙ by statically (record { class = found.class; name = m.name; descriptor = m.descriptor })
    ∙ (λ i. Some (record { class = found.class; name = sym names.0 i; descriptor = sym names.1 i }))
  where
    by : (b : Bool) (made : MemberReference) → (if beq b b then Some made else None) ≡ Some made
    by true made = refl
    by false made = refl

pub found_by_target : (o : Option (Found Field)) (found : Found Field) → option_map a_field o ≡ Some (a_field found) → o ≡ Some found
found_by_target None found is = absurd cc
found_by_target (Some f) found is = let same : f ≡ found = cc in ap Some same
