-- What is selected by slot is what the definitions select.
use Rattle.std.proofs.Common.{◌≡◌, ℕ, List, Option, Some, None, slice_get, option_map, option_and_then, ap, ◌∙◌, refl}
use Rattle.world_model.specs.World.{World}
use Rattle.jv_types.specs.declared.number.MethodNo.{MethodNo}
use Rattle.class_world.specs.Signatures.{Pair}
use Rattle.class_world.specs.World.{method_at}
use Rattle.class_methods.specs.Signatures.{Numbers, signature_at, called_at, AreSignatures}
use Rattle.class_dispatch.specs.Dispatch.{Tables, Selects, selected_by}
use Rattle.class_versions.specs.Slots.{Slots, HaveSlots}
use Rattle.class_versions.specs.Versions.{SelectsBySlot}

-- a method that is there has a signature
record HasSignature (numbers : Numbers) (method : MethodNo) : Type 0 where
  signature : ℕ
  is : signature_at numbers method ≡ Some signature

has_one : (pairs : List Pair) (numbers : Numbers) (method : MethodNo) (called : Option Pair) (pair : Pair)
    → option_map (slice_get pairs) (signature_at numbers method) ≡ option_map Some called → called ≡ Some pair
    → HasSignature numbers method
has_one pairs numbers method called pair same is = by (signature_at numbers method) refl (same ∙ ap (option_map Some) is)
  where
    by : (o : Option ℕ) → signature_at numbers method ≡ o → option_map (slice_get pairs) o ≡ Some (Some pair) → HasSignature numbers method
    by None at same = absurd cc
    by (Some signature) at same = record { signature = signature; is = at }

pub selects_by_slot : (world : World) (numbers : Numbers) (slots : Slots) (dispatch : Tables) → AreSignatures world numbers
    → Selects world numbers dispatch → HaveSlots numbers slots → SelectsBySlot world slots dispatch
selects_by_slot world numbers slots dispatch are selects have = λ class c m slot method there of called.
    let has = has_one are.pairs numbers method (called_at world method) (m.name, m.descriptor) (are.each_method method) called in
    ap (λ (o : Option ℕ). option_map (method_at world) (option_and_then (λ signature. selected_by dispatch class signature) o))
    (have.signatures slot method of ∙ has.is)
    ∙ selects.each class c m method has.signature there called has.is
