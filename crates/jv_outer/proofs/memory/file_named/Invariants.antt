use Rattle.std.proofs.Common.{◌≡◌, drop, map}
use Rattle.jv_outer.specs.Memory.{file_of, file_with}
use Rattle.jv_outer.proofs.memory.file_named.Given as goal

-- none of the files so far has the name
abbrev pub invariant-loop-file : goal.invariant-loop-file
invariant-loop-file l =
    file_with l.name (map file_of (drop l.file-index l.files))
    ≡ file_with l.name (map file_of l.files)
