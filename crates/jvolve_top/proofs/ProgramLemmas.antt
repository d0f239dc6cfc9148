-- What is known of the program that was linked and verified.
use Rattle.std.proofs.Common.{◌≡◌, ℕ, Bool, false, ◌||◌, List, [], ◌∷◌, length, map, Option, Some, None, option_map, Ok, Err, refl, sym, ap, ◌∙◌}
use Rattle.std.specs.List.{AllByRecursion, list_any}
use Rattle.std.proofs.lemmas.List.{length-map}
use Rattle.jv_model.specs.Fallible.{unless}
use Rattle.jv_model.specs.LoadedClass.{LoadedClass}
use Rattle.jv_model.specs.Refusal.{Rule, Cause, not_verified}
use Rattle.jv_model.specs.Partial.{◌>>=◌}
use Rattle.world_model.specs.BootTable.{boot_table}
use Rattle.world_model.specs.World.{Class, Method, World, user_classes}
use Rattle.link_model.specs.Link.{linked, world_fault}
use Rattle.link_model.specs.WorldOf.{class_of, world_of}
use Rattle.link_laws.proofs.BootTable.{boot_table_is_base}
use Rattle.link_laws.proofs.Lists.{all_right, all_weaker}
use Rattle.link_laws.proofs.Passes.{first_of_none}
use Rattle.link_laws.proofs.Programs.{users_are}
use Rattle.typing_model.specs.FailingPlace.{failing_place, method_failure, world_failure}
use Rattle.verifier_laws.proofs.Failures.{class_failure, failure_by_class}
use Rattle.load_model.specs.Loading as loading
use Rattle.run_model.specs.CheckText.{ok_line, check_text}
use Rattle.run_model.specs.Later.{main_body, program_of, unless_later}
use Rattle.run_model.specs.LoadProgram.{VerifiedProgram, is_update, verified_world}
use Rattle.straight_line_model.specs.Instruction.{Body}
use Rattle.manifest_reader.specs.Items.{item_of}
use Rattle.manifest_reader.specs.declared.item.ManifestItem.{ManifestItem}
use Rattle.class_loader.specs.declared.stop.Stop.{Stop}
use Rattle.class_loader.specs.declared.stop.Stop.TheVariants as stops
use Rattle.class_loader.specs.Placed.{IsPlaced}
use Rattle.straight_line.specs.Programs.{AreVerified}
use Rattle.jvolve_top.specs.Programs.{StopsFor}

-- ---- the program's own classes

pub own_classes : (classes : List LoadedClass)
    → user_classes (world_of boot_table classes) ≡ map class_of classes
own_classes classes = users_are boot_table classes boot_table_is_base

pub own_count : (classes : List LoadedClass)
    → length (user_classes (world_of boot_table classes)) ≡ length classes
own_count classes = ap length (own_classes classes) ∙ length-map classes class_of

-- ---- methods that are well typed

no_place : (place : Option (ℕ × Rule)) (told : ℕ × Rule → Cause)
    → (place >>= λ found. Some (told found)) ≡ None → place ≡ None
no_place None told none = refl
no_place (Some found) told none = absurd cc

module _ (world : World) (its : Class) where
  has_no_place : (method : Method) → method_failure world its method ≡ None
      → failing_place world its method ≡ None
  has_no_place method none =
      no_place (failing_place world its method)
      (λ found. not_verified its.name method.name method.descriptor found.0 found.1) none

  all_typed : class_failure world its ≡ None
      → AllByRecursion (λ (m : Method). failing_place world its m ≡ None) its.methods
  all_typed none =
      all_weaker (λ (m : Method). method_failure world its m ≡ None)
      (λ (m : Method). failing_place world its m ≡ None) its.methods has_no_place
      (first_of_none (method_failure world its) its.methods none)

pub are_verified : (classes : List LoadedClass)
    → world_failure (world_of boot_table classes) ≡ None → AreVerified (map class_of classes)
are_verified classes none =
    let world = world_of boot_table classes in
    let each = first_of_none (class_failure world) world.classes
    (sym (failure_by_class world) ∙ none) in
    record {
      world = world;
      typed = all_weaker (λ (c : Class). class_failure world c ≡ None)
          (λ (c : Class). AllByRecursion (λ (m : Method). failing_place world c m ≡ None) c.methods)
          (map class_of classes) (all_typed world)
          (all_right (λ (c : Class). class_failure world c ≡ None) boot_table (map class_of classes)
          each);
    }

-- ---- a world that links, and that verifies

unless_ok : {A E : Type 0} (fault : Option E) (made given : A) → unless fault made ≡ Ok given
    → (fault ≡ None) × (made ≡ given)
unless_ok None made given is = (refl, cc)
unless_ok (Some fault) made given is = absurd cc

-- the world that classes link to is theirs
pub linked_is : (classes : List LoadedClass) (main : List ℕ) (world : World)
    → linked boot_table classes main ≡ Ok world → world_of boot_table classes ≡ world
unfolding linked
linked_is classes main world is =
    (unless_ok (world_fault (world_of boot_table classes) main) (world_of boot_table classes) world
    is).1

-- a refusal of a world that isn't verified
pub not_verified_stops : (world : World) (fault : Option Cause) (stop : Stop)
    → StopsFor fault stop
    → IsPlaced (λ (w : World). w) (Err stop) (loading.placed 0 0 (unless fault world))
not_verified_stops world fault (stops.Refused item sub cause) stop =
    rw (stop.0, stop.1, stop.2) refl
not_verified_stops world fault stops.ReadFault stop = absurd stop
not_verified_stops world fault stops.NoMemory stop = tt

-- the program of a world that does
abbrev program_in : World → Bool → VerifiedProgram
program_in world updates = record { world = world; has_updates = updates }

pub program_is : (main : List ℕ) (classes : List LoadedClass) (world : World) (updates : Bool)
    → verified_world main classes ≡ loading.yields world → world ≡ world_of boot_table classes
    → loading.◌>>=◌ {B = VerifiedProgram} (verified_world main classes)
    (λ w. loading.yields (program_in w updates))
    ≡ loading.yields (program_in (world_of boot_table classes) updates)
program_is main classes world updates is own =
    ap (λ (read : loading.Loading World).
    loading.◌>>=◌ {B = VerifiedProgram} read (λ w. loading.yields (program_in w updates))) is
    ∙ ap (λ (w : World). loading.yields (program_in w updates)) own

any_update : (items : List ManifestItem)
    → list_any (λ (i : ManifestItem). is_update (item_of i)) items
    ≡ list_any is_update (map item_of items)
any_update [] = refl
any_update (first ∷ others) = ap (λ rest. is_update (item_of first) || rest) (any_update others)

pub has_updates : (items : List ManifestItem) (found : Bool)
    → found ≡ list_any (λ (i : ManifestItem). is_update (item_of i)) items
    → list_any is_update (map item_of items) ≡ found
has_updates items found is = sym (is ∙ any_update items)

-- ---- what comes of a program

abbrev program_with : List LoadedClass → Bool → VerifiedProgram
program_with classes updates = program_in (world_of boot_table classes) updates

pub program_found : (classes : List LoadedClass) (updates : Bool) (found : Option Body)
    → updates ≡ false → found ≡ main_body (map class_of classes)
    → program_of (program_with classes updates)
    ≡ option_map (λ body. record { main = body }) found
program_found classes updates found none is =
    rw none (ap (λ users. option_map (λ (body : Body). record { main = body }) (main_body users))
    (own_classes classes) ∙ ap (option_map (λ (body : Body). record { main = body })) (sym is))

pub text_is : (classes : List LoadedClass) (updates : Bool) (count : ℕ) (line : List ℕ)
    → updates ≡ false → count ≡ length classes → line ≡ ok_line count
    → unless_later (check_text (program_with classes updates)) ≡ loading.yields line
text_is classes updates count line none is told =
    rw none (ap (λ n. loading.yields (ok_line n)) (own_count classes ∙ sym is)
    ∙ ap (λ (text : List ℕ). loading.yields text) (sym told))
