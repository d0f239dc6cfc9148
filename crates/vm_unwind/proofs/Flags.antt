-- The flags of methods, as their classes were read.
use Rattle.std.proofs.Common.{◌≡◌, ℕ, zero, suc, List, [], ◌∷◌, Option, Some, None, map, slice_get, refl, sym, ap, subst}
use Rattle.std.specs.Prelude.{IfSome}
use Rattle.jv_model.specs.ClassData as model
use Rattle.jv_model.specs.Code.{Body}
use Rattle.world_model.specs.World.{World, Class, Method}
use Rattle.world_model.specs.LookUp.{Found}
use Rattle.link_model.specs.WorldOf.{method_of, methods_of}
use Rattle.jv_types.specs.ClassData.{member_of}
use Rattle.jv_types.specs.declared.class_data.Member.{Member}
use Rattle.jv_types.specs.declared.number.MethodNo.{MethodNo}
use Rattle.class_world.specs.World.{class_of_origin, method_at, names_of}
use Rattle.class_world.specs.declared.class_info.Origin.{Origin}
use Rattle.vm_throw.proofs.Tables.{method_there}

-- a method that was read has its member's flags
pub read_flags : (pool : List model.Const) (members : List Member) (bodies : List (Option (Body ℕ))) (index : ℕ) (m : Method)
    → slice_get (methods_of pool (map member_of members) bodies) index ≡ Some m
    → (member : Member) × (slice_get members index ≡ Some member) × (member.flags ≡ m.flags)
unfolding methods_of
read_flags pool [] bodies index m at = absurd cc
read_flags pool (member ∷ members) [] zero m at =
    let same : method_of pool (member_of member) None ≡ m = cc in
    (member, refl, ap (λ (n : Method). n.flags) same)
read_flags pool (member ∷ members) [] (suc index) m at = read_flags pool members [] index m at
read_flags pool (member ∷ members) (body ∷ bodies) zero m at =
    let same : method_of pool (member_of member) body ≡ m = cc in
    (member, refl, ap (λ (n : Method). n.flags) same)
read_flags pool (member ∷ members) (body ∷ bodies) (suc index) m at = read_flags pool members bodies index m at

-- the flags at the index of a class are those of the method of a number
pub found_flags : (world : World) (place : MethodNo) (flags : ℕ) (c : Class) (origin : Origin)
    → slice_get world.classes place.class.0 ≡ Some c → class_of_origin (names_of world) origin ≡ c
    → ((names : List (List ℕ)) (m : Method) → slice_get (class_of_origin names origin).methods place.index ≡ Some m
    → flags ≡ m.flags)
    → IfSome (method_at world place) (λ (found : Found Method). flags ≡ found.member.flags)
found_flags world place flags c origin at is are = by (method_at world place) refl
  where
    by : (o : Option (Found Method)) → method_at world place ≡ o
        → IfSome o (λ (found : Found Method). flags ≡ found.member.flags)
    by None e = tt
    by (Some found) e =
        let there = method_there world place c found at e in
        are (names_of world) found.member
        (subst (λ (k : Class). slice_get k.methods place.index ≡ Some found.member) (sym is) there)
