-- Numbers of names and descriptors.
use Rattle.std.specs.Prelude.{◌≡◌, ℕ, List, Option, Some, length, map, slice_get, option_map, option_and_then}
use Rattle.world_model.specs.World.{World, Class, Method}
use Rattle.world_model.specs.LookUp.{Found}
use Rattle.jv_types.specs.declared.number.MethodNo.{MethodNo}
use Rattle.class_world.specs.Signatures.{Pair}
use Rattle.class_world.specs.World.{method_at, method_signature}

-- What contracts see of a `MethodSignatures`: for each class the numbers of its methods' signatures, by index.
abbrev pub Numbers : Type 0
Numbers = List (List ℕ)

-- the number of a method's signature, where the method is there
abbrev pub signature_at : Numbers → MethodNo → Option ℕ
signature_at numbers method =
    option_and_then (λ (row : List ℕ). slice_get row method.index) (slice_get numbers method.class.0)

-- the name and the descriptor of a method of a world
abbrev pub called_at : World → MethodNo → Option Pair
called_at world method = option_map (λ (f : Found Method). method_signature f.member) (method_at world method)

-- none stands at two places
abbrev pub AreApart : List Pair → Type 0
AreApart pairs = (s t : ℕ) (pair : Pair) → slice_get pairs s ≡ Some pair → slice_get pairs t ≡ Some pair → s ≡ t

pub record AreSignatures (world : World) (numbers : Numbers) : Type 0 where
  -- Each method of a class has a number.
  pub counts : map length numbers ≡ map (λ (c : Class). length c.methods) world.classes
  -- Each number has a name and a descriptor, no two numbers the same ones,
  pub pairs : List Pair
  pub apart : AreApart pairs
  -- and that of a method has the method's.
  pub each_method : (method : MethodNo)
      → option_map (slice_get pairs) (signature_at numbers method) ≡ option_map Some (called_at world method)
