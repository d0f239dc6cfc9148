-- What the laws of linking say (JVMS 5.4), of programs on the boot classes.
use Rattle.std.specs.Prelude.{◌≡◌, ◌↔◌, ℕ, List, Some, Ok, Err, IsTrue, bytes_eq}
use Rattle.std.specs.List.{IsDistinct}
use Rattle.jv_model.specs.Refusal.{Cause}
use Rattle.jv_model.specs.LoadedClass.{LoadedClass}
use Rattle.world_model.specs.World.{Field, Method, World, declared_field, declared_method}
use Rattle.world_model.specs.BootTable.{boot_table}
use Rattle.world_model.specs.Supertypes.{field_order, method_order, is_sub}
use Rattle.world_model.specs.LookUp.{Found, find_field, find_method}
use Rattle.link_model.specs.WorldOf.{class_of, world_of}
use Rattle.link_model.specs.SupertypeFaults.{is_cyclic}
use Rattle.link_model.specs.Link.{linked, linked_behind}
use Rattle.link_laws.specs.Above.{is_there, IsAbove, IsAtOrAbove, IsSound}
use Rattle.link_laws.specs.FirstFound.{IsFirstFound}
use Rattle.link_laws.specs.FirstFault.{IsRefusal}
use Rattle.link_laws.specs.Linked.{IsLinked}

-- ---- linking

-- What links is a linked world of its classes.
abbrev pub WhatLinksIsLinked : Type 0
WhatLinksIsLinked = (classes : List LoadedClass) (main : List ℕ) (world : World)
    → linked boot_table classes main ≡ Ok world → IsLinked boot_table classes main world

-- What is refused is refused with its first fault, and with no other.
abbrev pub FirstFaultIsTold : Type 0
FirstFaultIsTold = (classes : List LoadedClass) (main : List ℕ) (cause : Cause)
    → (linked boot_table classes main ≡ Err cause) ↔ IsRefusal (world_of boot_table classes) main cause

-- A class that links behind a sound world leaves it sound.
abbrev pub BehindIsSound : Type 0
BehindIsSound = (world longer : World) (loaded : LoadedClass) → IsSound world
    → linked_behind world (class_of loaded) ≡ Ok longer → IsSound longer

-- It changes nothing for the classes that were there.
pub record SameBehind (world longer : World) (class : List ℕ) : Type 0 where
  pub subtypes : (above : List ℕ) → is_sub world class above ≡ is_sub longer class above
  pub fields : (name descriptor : List ℕ) → find_field world class name descriptor ≡ find_field longer class name descriptor
  pub methods : (name descriptor : List ℕ)
      → find_method world class name descriptor ≡ find_method longer class name descriptor

abbrev pub BehindKeeps : Type 0
BehindKeeps = (world longer : World) (loaded : LoadedClass) (class : List ℕ) → IsSound world
    → linked_behind world (class_of loaded) ≡ Ok longer → IsTrue (is_there world class) → SameBehind world longer class

-- ---- supertypes

-- A class is cyclic exactly where it is above itself, in any world.
abbrev pub CycleIsFound : Type 0
CycleIsFound = (world : World) (name : List ℕ) → IsTrue (is_cyclic world name) ↔ IsAbove world name name

-- In a sound world a type is a subtype of exactly what is at or above it.
abbrev pub SubtypeIsClosure : Type 0
SubtypeIsClosure = (world : World) (below above : List ℕ) → IsSound world → IsTrue (is_there world below)
    → IsTrue (is_sub world below above) ↔ IsAtOrAbove world below above

-- No order has a name twice.
abbrev pub OrdersAreDistinct : Type 0
OrdersAreDistinct = (world : World) (name : List ℕ)
    → IsDistinct bytes_eq (field_order world name) × IsDistinct bytes_eq (method_order world name)

-- ---- look-up

-- The field and the method that are found are those of the first class in order that declares one.
abbrev pub FieldIsFirst : Type 0
FieldIsFirst = (world : World) (class name descriptor : List ℕ) (found : Found Field)
    → (find_field world class name descriptor ≡ Some found)
    ↔ IsFirstFound (declared_field name descriptor) world (field_order world class) found

abbrev pub MethodIsFirst : Type 0
MethodIsFirst = (world : World) (class name descriptor : List ℕ) (found : Found Method)
    → (find_method world class name descriptor ≡ Some found)
    ↔ IsFirstFound (declared_method name descriptor) world (method_order world class) found
