-- Which entry of the definitions an `Entry` is.
use Rattle.std.specs.Prelude.{List, map}
use Rattle.jv_types.specs.declared.entry.Entry.{Entry}
use Rattle.jv_types.specs.declared.entry.Entry.TheVariants.{Run, Attempt}
use Rattle.jv_model.specs.Journal as model

abbrev pub entry_of : Entry → model.Entry
entry_of (Run thread steps) = model.run thread.0 steps
entry_of Attempt = model.attempt

abbrev pub entries_of : List Entry → List model.Entry
entries_of entries = map entry_of entries
