-- The methods of a class that was read, one by one.
use Rattle.std.proofs.Common.{◌≡◌, ℕ, zero, suc, List, [], ◌∷◌, Option, Some, None, length, map, option_map, option_and_then, slice_get, ap, sym, subst, ◌∙◌, refl}
use Rattle.std.proofs.lemmas.List.{length-map}
use Rattle.std.proofs.lemmas.Option.{slice_get-map}
use Rattle.jv_model.specs.ClassData as model
use Rattle.jv_model.specs.Code.{Body}
use Rattle.jv_model.specs.Refusal.{Cause}
use Rattle.jv_model.specs.Partial.{first_of}
use Rattle.world_model.specs.World.{World, Class, Method}
use Rattle.link_model.specs.WorldOf.{class_of, method_of, methods_of}
use Rattle.typing_model.specs.FailingPlace.{failing_place, method_failure}
use Rattle.jv_types.specs.ClassData.{member_of, pool_of}
use Rattle.jv_types.specs.Loaded.{loaded_of, code_of}
use Rattle.jv_types.specs.declared.class_data.Member.{Member}
use Rattle.jv_types.specs.declared.code.CodeBody.{CodeBody}
use Rattle.jv_types.specs.declared.loaded.Loaded.{Loaded}
use Rattle.class_world.specs.World.{IsInfo, names_of, method_signature, class_of_origin}
use Rattle.class_world.specs.Signatures.{member_pair}
use Rattle.class_world.specs.declared.class_info.ClassInfo.{ClassInfo}
use Rattle.class_world.specs.declared.class_info.Origin.TheVariants.{Boot, Program}
use Rattle.class_world.proofs.Infos.{HasInfo}
use Rattle.class_world.proofs.Filling.{methods_are_called}
use Rattle.jv_types.specs.Boot.{boot_method_of}
use Rattle.jv_types.specs.declared.boot.BootClass.{BootClass}
use Rattle.jv_types.specs.declared.boot.BootMethod.{BootMethod}
use Rattle.verifier_laws.proofs.Failures.{class_failure}
use Rattle.linked_laws.specs.Worlds.{IsLinkedWorld}
use Rattle.linked_laws.proofs.Methods.{codes_are_linked}
use Rattle.stackmap_verify.specs.declared.error.VerifyError.{VerifyError}
use Rattle.stackmap_verify.specs.declared.error.VerifyError.TheVariants.{NotVerified, NoMemory}
use Rattle.stackmap_verify.specs.declared.failure.Place.{Place}
use Rattle.stackmap_verify.specs.Codes.{IsLinkedCode, HoldsClass, method_in, told_of}
use Rattle.stackmap_verify.specs.Outcome.{Tells}
use Rattle.stackmap_verify.specs.Visits.{place_of}

-- ---- which method has an index

code_in : {A : Type 0} → List (Option A) → ℕ → Option A
code_in codes index = option_and_then (λ (code : Option _). code) (slice_get codes index)

method_there : (pool : List model.Const) (members : List model.Member) (bodies : List (Option (Body ℕ))) (index : ℕ) (member : model.Member)
    → slice_get members index ≡ Some member
    → slice_get (methods_of pool members bodies) index ≡ Some (method_of pool member (code_in bodies index))
unfolding methods_of code_in
method_there pool [] bodies index member at = absurd cc
method_there pool (m ∷ members) [] zero member at = let same : m ≡ member = cc in ap (λ (n : model.Member). Some (method_of pool n None)) same
method_there pool (m ∷ members) (b ∷ bodies) zero member at = let same : m ≡ member = cc in ap (λ (n : model.Member). Some (method_of pool n b)) same
method_there pool (m ∷ members) [] (suc index) member at = method_there pool members [] index member at
method_there pool (m ∷ members) (b ∷ bodies) (suc index) member at = method_there pool members bodies index member at

code_read : (codes : List (Option CodeBody)) (index : ℕ) → code_in (map code_of codes) index ≡ code_of (code_in codes index)
unfolding code_in
code_read [] index = refl
code_read (code ∷ codes) zero = refl
code_read (code ∷ codes) (suc index) = code_read codes index

-- the method with that index is the member there, with the code there
pub member_at : (loaded : Loaded) (index : ℕ) (member : Member) (code : Option CodeBody) → slice_get loaded.file.methods.items index ≡ Some member
    → code ≡ option_and_then (λ (c : Option CodeBody). c) (slice_get loaded.codes.items index)
    → slice_get (class_of (loaded_of loaded)).methods index ≡ Some (method_in loaded member code)
unfolding code_in
member_at loaded index member code at is =
    let pool = pool_of loaded.file.pool.items in
    method_there pool (map member_of loaded.file.methods.items) (map code_of loaded.codes.items) index (member_of member)
    (slice_get-map member_of loaded.file.methods.items index ∙ ap (option_map member_of) at)
    ∙ ap (λ (c : Option (Body ℕ)). Some (method_of pool (member_of member) c)) (code_read loaded.codes.items index ∙ ap code_of (sym is))

-- there are as many methods as members
pub member_count : (loaded : Loaded) → length (class_of (loaded_of loaded)).methods ≡ length loaded.file.methods.items
member_count loaded =
    sym (length-map (class_of (loaded_of loaded)).methods method_signature)
    ∙ ap (λ (l : List _). length l) (methods_are_called [] (Program loaded))
    ∙ length-map loaded.file.methods.items (member_pair (pool_of loaded.file.pool.items))

-- ---- what fails

-- all that the code of a method of a linked world names is there
pub code_is_linked : (world : World) (loaded : Loaded) (class : ClassInfo) (index : ℕ) (member : Member) (body : CodeBody)
    → IsLinkedWorld world → HoldsClass world loaded class
    → slice_get (class_of (loaded_of loaded)).methods index ≡ Some (method_in loaded member (Some body)) → IsLinkedCode world loaded member body
code_is_linked world loaded class index member body linked holds at =
    codes_are_linked world linked holds.number index (class_of (loaded_of loaded)) (method_in loaded member (Some body)) _ holds.at at refl

-- what fails at a place is told
pub failure_told : (world : World) (loaded : Loaded) (class : ClassInfo) (member : Member) (code : Option CodeBody) (place : Place)
    → class.name.items ≡ (class_of (loaded_of loaded)).name
    → Some (place_of place) ≡ failing_place world (class_of (loaded_of loaded)) (method_in loaded member code)
    → Some (told_of class loaded member place) ≡ method_failure world (class_of (loaded_of loaded)) (method_in loaded member code)
failure_told world loaded class member code place named fails = rw (← fails, named) refl

-- nothing that fails is told
pub nothing_told : (world : World) (class : Class) (method : Method) → None ≡ failing_place world class method → method_failure world class method ≡ None
nothing_told world class method none = rw (← none) refl

-- what is told of a part is told of the whole
pub told_further : (failure whole : Option Cause) (error : VerifyError) → ((cause : Cause) → failure ≡ Some cause → whole ≡ Some cause)
    → Tells failure error → Tells whole error
told_further failure whole (NotVerified class method descriptor pc rule) further told = further _ told
told_further failure whole NoMemory further told = tt

-- ---- boot classes

-- their methods have no code, so that none fails
pub boot_passes : (world : World) (names : List (List ℕ)) (boot : BootClass) (class : Class)
    → class_of_origin names (Boot boot) ≡ class → class_failure world class ≡ None
boot_passes world names boot class is =
    ap (λ (c : Class). first_of (method_failure world class) c.methods) (sym is) ∙ by boot.methods.items
  where
    by : (methods : List BootMethod) → first_of (method_failure world class) (map boot_method_of methods) ≡ None
    by [] = refl
    by (method ∷ methods) = by methods

-- a class of the program is the one that was read
pub class_read : (world : World) (loaded : Loaded) (info : ClassInfo) (number : ℕ) → HasInfo world number info → info.origin ≡ Program loaded
    → slice_get world.classes number ≡ Some (class_of (loaded_of loaded))
class_read world loaded info number has is =
    has.1 ∙ ap Some (sym has.2.origin ∙ ap (class_of_origin (names_of world)) is)

pub class_held : (world : World) (loaded : Loaded) (info : ClassInfo) (number : ℕ) → HasInfo world number info → info.origin ≡ Program loaded
    → HoldsClass world loaded info
class_held world loaded info number has is = record {
  number = number;
  at = class_read world loaded info number has is;
  info = subst (λ (c : Class). IsInfo world c info) (sym has.2.origin ∙ ap (class_of_origin (names_of world)) is) has.2;
}
