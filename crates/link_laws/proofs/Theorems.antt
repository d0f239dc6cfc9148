-- The laws of a program that links on the boot table.
use Rattle.std.proofs.Common.{◌≡◌, ℕ, List, Ok, Err}
use Rattle.std.specs.Prelude.{IsTrue, ◌↔◌}
use Rattle.jv_model.specs.LoadedClass.{LoadedClass}
use Rattle.world_model.specs.World.{World}
use Rattle.world_model.specs.BootTable.{boot_table}
use Rattle.world_model.specs.Supertypes.{is_sub}
use Rattle.jv_model.specs.Refusal.{Cause}
use Rattle.link_model.specs.WorldOf.{world_of}
use Rattle.link_model.specs.Link.{linked}
use Rattle.link_laws.specs.FirstFault.{IsRefusal}
use Rattle.link_laws.proofs.Links.{linked_refuses_first}
use Rattle.link_laws.specs.Above.{is_there, IsAtOrAbove}
use Rattle.link_laws.specs.Linked.{IsLinked}
use Rattle.link_laws.proofs.Orders.{is_sub_is_closure}
use Rattle.link_laws.proofs.BootTable.{boot_table_is_base}
use Rattle.link_laws.proofs.LinkedWorlds.{linked_is_linked}

-- What is refused is refused with its first fault.
pub first_fault : (classes : List LoadedClass) (main : List ℕ) (cause : Cause)
    → (linked boot_table classes main ≡ Err cause) ↔ IsRefusal (world_of boot_table classes) main cause
first_fault classes main cause = linked_refuses_first boot_table classes main cause

-- What links is a linked world.
pub linked_program : (classes : List LoadedClass) (main : List ℕ) (world : World) → linked boot_table classes main ≡ Ok world → IsLinked boot_table classes main world
linked_program classes main world e = linked_is_linked boot_table classes main world boot_table_is_base e

-- In a linked world `is_sub` is the reflexive and transitive closure of 'is the superclass or an interface of'.
pub linked_is_sub : (classes : List LoadedClass) (main : List ℕ) (world : World) (below above : List ℕ) → linked boot_table classes main ≡ Ok world → IsTrue (is_there world below)
    → IsTrue (is_sub world below above) ↔ IsAtOrAbove world below above
linked_is_sub classes main world below above e there =
    let is = linked_program classes main world e in
    is_sub_is_closure world below above is.sound there
