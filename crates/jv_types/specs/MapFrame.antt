-- Which types and which frame of the definitions a `MapType` and a `MapFrame` are.
use Rattle.std.specs.Prelude.{ℕ, List, map}
use Rattle.jv_types.specs.declared.code.MapType.{MapType}
use Rattle.jv_types.specs.declared.code.MapType.TheVariants.{Top, Int, Long, Null, This, Object, Argument, New}
use Rattle.jv_types.specs.declared.code.MapFrame.{MapFrame}
use Rattle.jv_model.specs.Code as model

abbrev pub map_type_of : MapType → model.MapType ℕ
map_type_of Top = model.map_top
map_type_of Int = model.map_int
map_type_of Long = model.map_long
map_type_of Null = model.map_null
map_type_of This = model.map_this
map_type_of (Object index) = model.map_object index
map_type_of (Argument number) = model.map_argument number
map_type_of (New pc) = model.map_new pc

abbrev pub map_types_of : List MapType → List (model.MapType ℕ)
map_types_of types = map map_type_of types

abbrev pub frame_of : MapFrame → model.MapFrame ℕ
frame_of frame = record {
  pc = frame.pc;
  locals = map_types_of frame.locals.items;
  stack = map_types_of frame.stack.items;
}
