-- What lines need, as the definitions see it.
use Rattle.std.specs.Prelude.{ℕ, List, [], ◌∷◌, Option, Some, None, Result, map}
use Rattle.jv_model.specs.Refusal.{LineKind}
use Rattle.assembler_model.specs.AssemblerLines as lines
use Rattle.assembler_model.specs.AssemblerTerms as terms
use Rattle.assembler_model.specs.PoolEntries as entries
use Rattle.assembler_model.specs.PoolNeeds as model
use Rattle.asm_lines.specs.NumberedLines.{numbered_of}
use Rattle.asm_lines.specs.Terms.{type_of}
use Rattle.asm_lines.specs.declared.numbered_line.NumberedLine.{NumberedLine}
use Rattle.asm_lines.specs.declared.term.FrameType.{FrameType}
use Rattle.asm_parts.specs.Entries.{entry_of}
use Rattle.asm_parts.specs.declared.entry.Entry.{Entry}
use Rattle.asm_pool.specs.declared.need.Need.{Need}
use Rattle.asm_pool.specs.declared.need.Turn.{Turn}
use Rattle.asm_pool.specs.declared.need.Turn.TheVariants.{Lines, Handlers, Frames}

abbrev pub need_of : Need → model.Need
need_of need = record { line = need.line; entry = entry_of need.entry }

abbrev pub needs_of : List Need → List model.Need
needs_of needs = map need_of needs

-- an entry, where there is one
abbrev pub entries_if_any : Option Entry → List entries.Entry
entries_if_any None = []
entries_if_any (Some entry) = entry_of entry ∷ []

abbrev pub numbered_lines : List NumberedLine → List lines.NumberedLine
numbered_lines lines = map numbered_of lines

abbrev pub types_of : List FrameType → List terms.FrameType
types_of types = map type_of types

-- what a line needs in a turn
abbrev pub entries_by : Turn → Result terms.AssemblerLine LineKind → List entries.Entry
entries_by Lines said = model.line_entries said
entries_by Handlers said = model.caught_entries said
entries_by Frames said = model.frame_entries said
