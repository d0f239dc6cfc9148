-- Which bytes are those of which code (JVMS 4.7.3): what a Code attribute means, apart from how it
-- is read.
use Rattle.std.specs.Prelude.{◌≡◌, ℕ, ◌+◌, ◌≤◌, List, [], ◌∷◌, ◌++◌, Option, Some, None, unwrap_or, IsTrue, length, filter}
use Rattle.std.specs.List.{AllByRecursion, list_all}
use Rattle.jv_model.specs.Limits.{most_frame_words, most_code_bytes}
use Rattle.jv_model.specs.ClassData.{Const, Attr, Member, ClassData}
use Rattle.jv_model.specs.ClassBytes.{u2, u4, table, attribute_bytes}
use Rattle.jv_model.specs.Profile.{IsU2, IsAttr}
use Rattle.jv_model.specs.Code.{Handler, MapFrame, Body}
use Rattle.code_model.specs.CodeShape.{code_bytes, stack_map_table}
use Rattle.code_model.specs.CodePlaces.{is_led, is_handler}
use Rattle.code_model.specs.FirstLocals.{first_locals}
use Rattle.code_model.specs.StackMaps.{Bounds, fits}
use Rattle.code_model.specs.SpellsInstructions.{SpellsInstructions}
use Rattle.code_model.specs.SpellsFrames.{SpellsMap}
use Rattle.jv_model.specs.ConstantPool.{is_named}

-- attributes after a count of two bytes
abbrev pub AreAttrs : List Const → List Attr → Type 0
AreAttrs pool attributes = IsU2 (length attributes) × AllByRecursion (IsAttr pool) attributes

-- { u2 start_pc; u2 end_pc; u2 handler_pc; u2 catch_type; }; a catch type of 0 is none
abbrev pub handler_bytes : Handler ℕ → List ℕ
handler_bytes row = u2 row.from ++ (u2 row.to ++ (u2 row.target ++ u2 (unwrap_or row.catch 0)))

abbrev pub FitsRow : Handler ℕ → Type 0
FitsRow row = IsU2 row.from × IsU2 row.to × IsU2 row.target × IsU2 (unwrap_or row.catch 0)

-- The frames of a method are those of its StackMapTable, of which there is one at the most; without
-- one there are none.
abbrev pub AreFrames : ClassData → Member → List Attr → List (MapFrame ℕ) → Type 0
AreFrames file method [] frames = frames ≡ []
AreFrames file method (map ∷ []) frames =
    SpellsMap file.pool (first_locals file method) map.bytes frames
AreFrames file method (map ∷ second ∷ others) frames = ⊥

-- what the frames of a body have to fit
abbrev pub bounds : ClassData → Body ℕ → Bounds
bounds file body =
    record {
      pool = file.pool;
      max_stack = body.max_stack;
      max_locals = body.max_locals;
      instructions = body.instructions;
    }

abbrev pub maps_among : ClassData → List Attr → List Attr
maps_among file attributes =
    filter (λ (a : Attr). is_named file.pool stack_map_table a.name) attributes

-- The bytes of a method's Code attribute are those of the body.
-- Code_attribute { .. u2 max_stack; u2 max_locals; u4 code_length; u1 code[code_length];
--   u2 exception_table_length; exception_table[exception_table_length];
--   u2 attributes_count; attribute_info attributes[attributes_count]; }
pub record SpellsCode
    (file : ClassData) (method : Member) (bytes : List ℕ) (body : Body ℕ) : Type 0 where
  pub code : List ℕ
  -- of which all but the StackMapTable are skipped
  pub attributes : List Attr
  pub spelled :
      bytes ≡ u2 body.max_stack ++ (u2 body.max_locals ++ (u4 (length code) ++ (code
      ++ (table handler_bytes body.handlers ++ table attribute_bytes attributes))))
  pub words :
      IsU2 body.max_stack × IsU2 body.max_locals
      × (body.max_stack + body.max_locals ≤ most_frame_words)
  pub code_length : (1 ≤ length code) × (length code ≤ most_code_bytes)
  pub instructions : SpellsInstructions file 0 code body.instructions
  pub targets : IsTrue (list_all (is_led body.instructions) body.instructions)
  pub rows : IsU2 (length body.handlers) × AllByRecursion FitsRow body.handlers
  pub handlers :
      IsTrue (list_all (is_handler file.pool (length code) body.instructions) body.handlers)
  pub are_attributes : AreAttrs file.pool attributes
  pub frames : AreFrames file method (maps_among file attributes) body.frames
  pub fitting : IsTrue (list_all (fits (bounds file body)) body.frames)

-- a method has the code of its Code attribute, or none
abbrev pub HasCode : ClassData → Member → Option (Body ℕ) → Type 0
HasCode file method None = code_bytes file method ≡ None
HasCode file method (Some body) =
    (bytes : List ℕ) × (code_bytes file method ≡ Some bytes)
    × SpellsCode file method bytes body
