-- Methods by their names, and what a place in the frames of a thread is in the definitions' frames.
use Rattle.std.specs.Prelude.{◌≡◌, ℕ, List, [], ◌∷◌, ◌++◌, ⊤, not, Option, Some, None, IsTrue, bytes_eq, length, option_map}
use Rattle.std.specs.List.{list_all, IsDistinct}
use Rattle.world_model.specs.World.{World, Class, Method}
use Rattle.world_model.specs.Members.{method_named}
use Rattle.world_model.specs.LookUp.{Found, method_found}
use Rattle.link_model.specs.ClassFaults.{has_twice, same_method}
use Rattle.machine_model.specs.State.{Frame}
use Rattle.jv_types.specs.declared.number.MethodNo.{MethodNo}
use Rattle.class_world.specs.World.{method_at, names_of}
use Rattle.thread_frames.specs.Frames.{FrameState}
use Rattle.vm_unwind.specs.Parts.{catch_in, ended_in}
use Rattle.vm_unwind.specs.Catching.{Place, place_in}

-- No two classes have one name, and no class has two methods of one name and descriptor.
pub record HasMethodsOnce (world : World) : Type 0 where
  pub classes : IsDistinct bytes_eq (names_of world)
  pub methods : IsTrue (list_all (λ (c : Class). not (has_twice same_method c.methods)) world.classes)

-- A method's name finds the method.
abbrev pub NamesFindMethods : Type 0
NamesFindMethods = (world : World) (method : MethodNo) (found : Found Method) → HasMethodsOnce world
    → method_at world method ≡ Some found → method_named world (method_found found) ≡ Some found.member

-- A frame of the definitions is at the same place of the same method, whatever its values are.
pub record IsAtPlaceOf (world : World) (own : FrameState) (frame : Frame) : Type 0 where
  pub method : option_map method_found (method_at world own.method) ≡ Some frame.method
  pub pc : own.pc ≡ frame.pc

abbrev pub AreAtPlacesOf : World → List FrameState → List Frame → Type 0
AreAtPlacesOf world [] [] = ⊤
AreAtPlacesOf world (own ∷ others) (frame ∷ callers) =
    IsAtPlaceOf world own frame × AreAtPlacesOf world others callers
AreAtPlacesOf world others callers = ⊥

-- The frame below which there are so many is the one that catches.
pub record IsCatch (world : World) (class : List ℕ) (frames : List Frame) (place : Place) : Type 0 where
  pub ended : List Frame
  pub frame : Frame
  pub callers : List Frame
  pub parts : frames ≡ ended ++ frame ∷ callers
  pub depth : length callers ≡ place.depth
  pub catches : catch_in world class frames
      ≡ Some (record { frame = frame; target = place.target; callers = callers })
  pub above : ended_in world class frames ≡ ended

-- None of the frames catches.
pub record IsUncaught (world : World) (class : List ℕ) (frames : List Frame) : Type 0 where
  pub catches : catch_in world class frames ≡ None
  pub above : ended_in world class frames ≡ frames

abbrev pub IsCaughtAt : World → List ℕ → List Frame → Option Place → Type 0
IsCaughtAt world class frames None = IsUncaught world class frames
IsCaughtAt world class frames (Some place) = IsCatch world class frames place

-- The place that is found in the frames of a thread is where the definitions catch.
abbrev pub PlacesAreCatches : Type 0
PlacesAreCatches = (world : World) (class : List ℕ) (own : List FrameState) (frames : List Frame)
    → HasMethodsOnce world → AreAtPlacesOf world own frames
    → IsCaughtAt world class frames (place_in world class own)
