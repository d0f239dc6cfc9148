-- Frames of a stack map of which all classes are there.
use Rattle.std.proofs.Common.{◌<◌, ℕ, List, Option, length, map, get_or, subst, arith}
use Rattle.std.proofs.lemmas.List.{length-map, get_or-map}
use Rattle.std.specs.List.{All}
use Rattle.std.proofs.lemmas.List.Elements.{All-from_get_or}
use Rattle.jv_model.specs.ClassData.{Const}
use Rattle.jv_model.specs.Descriptors.{MethodType}
use Rattle.jv_model.specs.Code as model
use Rattle.jv_model.specs.Code.{map_top, map_int, map_long, map_null, map_this, map_object, map_argument, map_new}
use Rattle.world_model.specs.World.{World}
use Rattle.code_model.specs.Names.{named_type, named_frame}
use Rattle.linked_laws.specs.Code.{MapTypeIsLinked, FrameIsLinked}
use Rattle.jv_types.specs.declared.code.MapType.{MapType}
use Rattle.jv_types.specs.Code.{map_type_of, map_types_of}
use Rattle.map_frames.specs.Linked.{EntryIsLinked, AreLinkedEntries, HasLinkedEntries}

module _ (world : World) (pool : List Const) where
  -- the type with a number
  pub entry-linked : (types : List MapType) (number : ℕ) (d : MapType) → number < length types
      → AreLinkedEntries world pool (map_types_of types) → EntryIsLinked world pool (map_type_of (get_or types number d))
  entry-linked types number d inside all =
      let within : number < length (map_types_of types) = omega (arith, inside, length-map types map_type_of) in
      subst (EntryIsLinked world pool) (get_or-map map_type_of types number d (map_type_of d) inside) (all number (map_type_of d) within)

  -- ---- of frames with names

  unnamed : (method : Option MethodType) (type : model.MapType ℕ) → MapTypeIsLinked world (named_type pool method type)
      → EntryIsLinked world pool type
  unnamed method (map_object index) linked = linked
  unnamed method map_top linked = tt
  unnamed method map_int linked = tt
  unnamed method map_long linked = tt
  unnamed method map_null linked = tt
  unnamed method map_this linked = tt
  unnamed method (map_argument number) linked = tt
  unnamed method (map_new pc) linked = tt

  all-unnamed : (method : Option MethodType) (types : List (model.MapType ℕ)) → All (MapTypeIsLinked world) (map (named_type pool method) types)
      → AreLinkedEntries world pool types
  all-unnamed method types all =
      All-from_get_or (EntryIsLinked world pool) types map_top (λ i inside.
      let within : i < length (map (named_type pool method) types) = omega (arith, inside, length-map types (named_type pool method)) in
      unnamed method (get_or types i map_top)
      (subst (MapTypeIsLinked world) (get_or-map (named_type pool method) types i map_top map_top inside) (all i map_top within)))

  -- the entries of a linked frame are linked
  pub linked-entries : (method : Option MethodType) (frame : model.MapFrame ℕ) → FrameIsLinked world (named_frame pool method frame)
      → HasLinkedEntries world pool frame
  linked-entries method frame linked =
      record { locals = all-unnamed method frame.locals linked.locals; stack = all-unnamed method frame.stack linked.stack }
