-- Behind the line, and no pc where it is faulty.
use Rattle.asm_lines.specs.NumberedLines.{said_of}
use Rattle.asm_parts.specs.Pools.{entries_in}
use Rattle.asm_code.specs.Places.{code_line_of, place_of}
use Rattle.asm_code.proofs.PlaceLemmas.{same_unless}
use Rattle.asm_code.proofs.place.go_on.Goals as goal

pub returns-clause-place : goal.returns-clause-place
returns-clause-place c =
    same_unless c.is_faulty.result (entries_in c.args.pool.now) (place_of c.args.place.now) (place_of c.forget_pc.new.place)
    (place_of c.go_behind.new.place) (code_line_of c.args.here.now) c.is_faulty.ensures c.in_ok-go_behind.ensures.place
    c.forget_pc.ensures.place
