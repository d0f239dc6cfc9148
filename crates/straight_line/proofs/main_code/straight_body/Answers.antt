use Rattle.std.proofs.Common.{Some, take, map, sym, ap, ◌∙◌}
use Rattle.std.specs.Option.{option_map}
use Rattle.std.proofs.lemmas.List.{take-map}
use Rattle.jv_types.specs.ClassData.{pool_of}
use Rattle.jv_types.specs.Code.{body_of as code_of}
use Rattle.code_model.specs.Names.{named}
use Rattle.straight_line.specs.Body.{instruction_of}
use Rattle.straight_line.specs.Programs.{instructions_found}
use Rattle.straight_line.proofs.MainLemmas.{body_is}
use Rattle.straight_line.proofs.main_code.straight_body.Goals as goal

pub returns : goal.returns
unfolding named
returns c descriptor =
    let found = ap instructions_found (sym c.in-Some.is) ∙ c.in_ok-instructions.ensures in
    let whole = map instruction_of c.in-Some.instructions.items in
    let reached =
    ap Some (ap (map instruction_of) c.cut.ensures.items ∙ sym (take-map instruction_of _ _))
    ∙ sym (ap (option_map (λ count. take count whole)) c.in-Some-count_reached.is)
    ∙ c.count_reached.ensures in
    body_is (named (pool_of c.args.pool.now.items) descriptor (code_of c.args.body.now)) whole
    (map instruction_of c.cut.new.self.items) (rw c.as_slice.ensures at found) reached
