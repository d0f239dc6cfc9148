-- Which bytes are those of which frames of a stack map (JVMS 4.7.4). A frame has any form that
-- gives it.
use Rattle.std.specs.Prelude.{◌≡◌, ℕ, ◌+◌, ◌-◌, ◌<◌, ◌≤◌, List, [], ◌∷◌, ◌++◌, Option, Some, None, IsTrue, length}
use Rattle.std.specs.List.{AllByRecursion, flat_map}
use Rattle.jv_model.specs.ClassData.{Const}
use Rattle.jv_model.specs.ClassBytes.{u1, u2, table}
use Rattle.jv_model.specs.Profile.{IsU2}
use Rattle.jv_model.specs.Code.{MapType, map_top, map_int, map_long, map_null, map_this, map_object, map_argument, map_new, MapFrame}
use Rattle.code_model.specs.StackMaps.{place_behind}
use Rattle.jv_model.specs.ConstantPool.{names, class_tag}

-- ---- verification_type_info { u1 tag; .. }, behind tag 7 u2 cpool_index, behind tag 8 u2 offset

abbrev pub IsEntryType : List Const → MapType ℕ → Type 0
IsEntryType pool (map_object index) = IsU2 index × IsTrue (names pool class_tag index)
IsEntryType pool (map_new pc) = IsU2 pc
-- only the first locals have it
IsEntryType pool (map_argument index) = ⊥
IsEntryType pool other = Unit {0}

abbrev pub type_bytes : MapType ℕ → List ℕ
type_bytes map_top = u1 0
type_bytes map_int = u1 1
type_bytes map_long = u1 4
type_bytes map_null = u1 5
type_bytes map_this = u1 6
type_bytes (map_object index) = u1 7 ++ u2 index
type_bytes (map_new pc) = u1 8 ++ u2 pc
type_bytes (map_argument index) = []

abbrev pub AreEntryTypes : List Const → List (MapType ℕ) → Type 0
AreEntryTypes pool types = IsU2 (length types) × AllByRecursion (IsEntryType pool) types

-- ---- stack_map_frame

-- The bytes of an entry with that offset_delta, for a frame that stands behind one with the locals
-- `before`.
pub data SpellsFrame
    (pool : List Const) (before : List (MapType ℕ)) (delta : ℕ) (bytes : List ℕ)
    (frame : MapFrame ℕ) : Type 0 where
  -- { u1 frame_type; }, 0 to 63
  same_frame :
      delta < 64 → frame.locals ≡ before → frame.stack ≡ [] → bytes ≡ u1 delta
      → SpellsFrame pool before delta bytes frame
  -- { u1 frame_type; verification_type_info stack[1]; }, 64 to 127
  same_locals_1_stack_item_frame :
      (item : MapType ℕ) → IsEntryType pool item → delta < 64 → frame.locals ≡ before
      → frame.stack ≡ item ∷ [] → bytes ≡ u1 (64 + delta) ++ type_bytes item
      → SpellsFrame pool before delta bytes frame
  -- { u1 frame_type; u2 offset_delta; verification_type_info stack[1]; }, 247
  same_locals_1_stack_item_frame_extended :
      (item : MapType ℕ) → IsEntryType pool item → frame.locals ≡ before
      → frame.stack ≡ item ∷ [] → bytes ≡ u1 247 ++ (u2 delta ++ type_bytes item)
      → SpellsFrame pool before delta bytes frame
  -- { u1 frame_type; u2 offset_delta; }, 248 to 250: one to three of the last locals are gone
  chop_frame :
      (gone : List (MapType ℕ)) → 1 ≤ length gone → length gone ≤ 3
      → before ≡ frame.locals ++ gone → frame.stack ≡ []
      → bytes ≡ u1 (251 - length gone) ++ u2 delta → SpellsFrame pool before delta bytes frame
  -- { u1 frame_type; u2 offset_delta; }, 251
  same_frame_extended :
      frame.locals ≡ before → frame.stack ≡ [] → bytes ≡ u1 251 ++ u2 delta
      → SpellsFrame pool before delta bytes frame
  -- { u1 frame_type; u2 offset_delta; verification_type_info locals[frame_type - 251]; },
  -- 252 to 254: one to three more locals
  append_frame :
      (more : List (MapType ℕ)) → 1 ≤ length more → length more ≤ 3 → AreEntryTypes pool more
      → frame.locals ≡ before ++ more → frame.stack ≡ []
      → bytes ≡ u1 (251 + length more) ++ (u2 delta ++ flat_map type_bytes more)
      → SpellsFrame pool before delta bytes frame
  -- { u1 frame_type; u2 offset_delta; u2 number_of_locals; verification_type_info locals[..];
  --   u2 number_of_stack_items; verification_type_info stack[..]; }, 255
  full_frame :
      AreEntryTypes pool frame.locals → AreEntryTypes pool frame.stack
      → bytes
      ≡ u1 255 ++ (u2 delta ++ (table type_bytes frame.locals ++ table type_bytes frame.stack))
      → SpellsFrame pool before delta bytes frame

-- frames one behind another, the first behind a frame at that place, where there is one, with these
-- locals
abbrev pub SpellsFrames :
    List Const → Option ℕ → List (MapType ℕ) → List ℕ → List (MapFrame ℕ) → Type 0
SpellsFrames pool place before bytes [] = bytes ≡ []
SpellsFrames pool place before bytes (frame ∷ frames) =
    (delta : ℕ) × (own : List ℕ) × (rest : List ℕ) × (bytes ≡ own ++ rest) × IsU2 delta
    × (frame.pc ≡ place_behind place delta) × SpellsFrame pool before delta own frame
    × SpellsFrames pool (Some frame.pc) frame.locals rest frames

-- StackMapTable_attribute { .. u2 number_of_entries; stack_map_frame entries[number_of_entries]; },
-- of a method with these first locals
abbrev pub SpellsMap :
    List Const → List (MapType ℕ) → List ℕ → List (MapFrame ℕ) → Type 0
SpellsMap pool first bytes frames =
    (run : List ℕ) × IsU2 (length frames) × (bytes ≡ u2 (length frames) ++ run)
    × SpellsFrames pool None first run frames
